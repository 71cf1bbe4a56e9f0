-- What the search leaves to show of `first_free`.
use Rattle.std.proofs.Common.{not, sym, ◌∙◌, rules, tests}
use Rattle.std.proofs.lemmas.Iterator.{YieldsList-from_slice}
use Rattle.std.proofs.lemmas.Iterator.Adapters.{YieldsList-from_skip}
use Rattle.std.proofs.lemmas.Iterator.Search.{position_from_yields_List}
use Rattle.stores.proofs.Choosing.{none_first, some_first}
use Rattle.stores.proofs.free.first_free.Goals as goal

pub returns-in_err-past-clause-none : goal.returns-in_err-past-clause-none
returns-in_err-past-clause-none c =
    let found = position_from_yields_List not _ _ c.position.result c.position.ensures.ran (YieldsList-from_skip c.args.from (YieldsList-from_slice c.args.out.now cc) cc) (λ x b q k. search (rules, tests)) in
    rw c.from_residual.ensures (none_first c.args.out.now c.args.from (sym c.in_err-past.was ∙ found))

pub returns-clause-some : goal.returns-clause-some
returns-clause-some c =
    let found = position_from_yields_List not _ _ c.position.result c.position.ensures.ran (YieldsList-from_skip c.args.from (YieldsList-from_slice c.args.out.now cc) cc) (λ x b q k. search (rules, tests)) in
    some_first c.args.out.now c.args.from c.in_ok-past.past (sym c.in_ok-past.was ∙ found)
