-- What the search leaves to show of `round_trip`.
use Rattle.std.proofs.Common.{cond, is_ok, ap, ◌∙◌}
use Rattle.stores.specs.Stores.{written, given_back}
use Rattle.stores.proofs.Modelling.{back_again}
use Rattle.round_trip.proofs.users.round_trip.Goals as goal

pub returns-clause-after : goal.returns-clause-after
returns-clause-after g c =
    let s = g.S.ChunkStore.model c.args.store.now in
    let k = c.in_ok-chunk.chunk in
    let took = c.in_ok-chunk.ensures.after in
    let did = c.write_and_read-done.ensures in
    let ok = is_ok c.write_and_read-done.result in
    c.in_ok-give_back.ensures.after
    ∙ ap (λ t. given_back t k) (did.after ∙ ap (λ t. cond ok (written t k c.args.row c.args.line.now) t) took.1)
    ∙ back_again g.S.ChunkStore.rows s k c.args.row c.args.line.now ok (g.S.ChunkStore.bounded c.args.store.now) took.0.1
