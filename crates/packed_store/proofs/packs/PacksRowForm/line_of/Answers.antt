-- What the search leaves to show of `line_of`.
use Rattle.std.proofs.Common.{subst, rules}
use Rattle.lines.specs.Refusals.{Unpacked}
use Rattle.packed_store.proofs.Found.{line_found}
use Rattle.packed_store.proofs.packs.PacksRowForm.line_of.Goals as goal

pub returns : goal.returns
returns c =
    let said : Unpacked c.args.row.now c.unpack.result = subst (λ bs. Unpacked bs c.unpack.result) (search rules) c.unpack.ensures.said in
    line_found c.args.row.now c.unpack.result c.unwrap_or_else.result said (search rules)
