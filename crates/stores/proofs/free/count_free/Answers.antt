-- What the search leaves to show of `count_free`.
use Rattle.std.proofs.Common.{◌≡◌, ◌^◌, not, arith, rules, tests}
use Rattle.std.proofs.lemmas.Iterator.{YieldsList-from_slice}
use Rattle.std.proofs.lemmas.Iterator.Adapters.{at_most_from_yields_List, fits_from_length}
use Rattle.std.proofs.lemmas.List.Sums.{count_by-le-length}
use Rattle.stores.specs.Chunks.{free_count}
use Rattle.stores.proofs.free.count_free.Goals as goal

-- each chunk adds at most one
pub sum-requires-clause-fits : goal.sum-requires-clause-fits
sum-requires-clause-fits c = fits_from_length _ _ (2 ^ 63) (2 ^ 64) (at_most_from_yields_List (YieldsList-from_slice c.args.out.now cc) (omega arith)) c.map.ensures.closure (omega arith) (λ x r q k. search (rules, tests))

pub returns-clause-within : goal.returns-clause-within
returns-clause-within c =
    let is : c.sum.result ≡ free_count c.args.out.now = search rules in
    omega (arith, count_by-le-length not c.args.out.now)
