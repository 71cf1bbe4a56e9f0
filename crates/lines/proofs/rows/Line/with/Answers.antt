-- What the search leaves to show of `with`.
use Rattle.std.proofs.Common.{arith, rules}
use Rattle.lines.proofs.Present.{any_filled}
use Rattle.lines.proofs.rows.Line.with.Goals as goal

pub invariant_of-result : goal.invariant_of-result
invariant_of-result c =
    let l = c.args.self.now in
    record { ok = (search rules, search rules, λ h. rw c.set_entry.ensures (any_filled l.entries c.args.position c.args.mapping (l.ok.2 (omega (arith, h))))) }
