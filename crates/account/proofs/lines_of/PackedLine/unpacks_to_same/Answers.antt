-- What the search leaves to show of `unpacks_to_same`.
use Rattle.std.proofs.Common.{refl, sym, ◌∙◌}
use Rattle.lines.specs.Equal.{line_decides}
use Rattle.account.proofs.lines_of.PackedLine.unpacks_to_same.Goals as goal

pub returns : goal.returns
returns c =
    let l = c.args.self.now.line.now in
    let back = c.unpack.ensures.back l (sym c.args.self.now.packs) in
    c.eq.ensures ∙ rw back ((line_decides l l).1 refl)
