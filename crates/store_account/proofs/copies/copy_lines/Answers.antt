-- What the search leaves to show of `copy_lines`.
use Rattle.std.proofs.Common.{box_value, rules}
use borrow.Author.Tests.{tests}
use Rattle.std.proofs.lemmas.Iterator.{YieldsList-from_map, items_from_collect}
use Rattle.std.proofs.lemmas.Iterator.Consumers.{YieldsList-from_rest, YieldsList-at}
use Rattle.store_account.proofs.copies.copy_lines.Goals as goal

pub returns : goal.returns
returns c = items_from_collect _ c.collect.ensures.ran (YieldsList-from_map _ box_value (YieldsList-at c.map.ensures.source (YieldsList-from_rest _ c.values.ensures.rest)) c.map.ensures.closure (λ x r q k. search (rules, tests)))
