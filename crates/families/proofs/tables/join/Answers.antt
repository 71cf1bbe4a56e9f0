-- The fold joins the bytes one after another.
use Rattle.std.proofs.Common.{rules, refl, bit_xor}
use Rattle.std.proofs.lemmas.Iterator.{YieldsList-from_range}
use Rattle.std.proofs.lemmas.Iterator.Consumers.{fold_from_yields_List}
use Rattle.families.specs.Tables.{chosen, joined}
use Rattle.families.proofs.tables.join.Goals as goal

pub returns : goal.returns
unfolding joined
returns c = fold_from_yields_List _ (λ a j. bit_xor a (chosen c.args.cluster j)) 0 c.fold.result c.fold.ensures.ran (YieldsList-from_range 0 5 5 refl refl) (λ a x b q k. search rules)
