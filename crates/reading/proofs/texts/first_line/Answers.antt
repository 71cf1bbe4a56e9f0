-- What `first_line` returns, from its cut at the end of a line.
use Rattle.std.proofs.Common.{sym, refl, arith}
use Rattle.std.proofs.lemmas.Bool.{eqb-false}
use Rattle.reading.proofs.Parting.{first_cut}
use Rattle.reading.proofs.texts.first_line.Goals as goal

pub returns : goal.returns
returns c =
    simp c.unwrap_or.ensures (first_cut _ _ _ _ refl c.cut.ensures (omega (arith, eqb-false _ 0 (sym c.if-is_empty.ensures))))
