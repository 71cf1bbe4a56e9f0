-- What the search leaves to show of `give_all`.
use Rattle.std.proofs.Common.{◌+◌, drop, sym, ap, ◌∙◌, arith}
use Rattle.std.proofs.lemmas.List.{at_drop_more}
use Rattle.keeping.specs.Laid.{all_given}
use Rattle.keeping.proofs.Returning.{given_anyway}
use Rattle.keeping.proofs.giving.give_all.Goals as goal

pub loop-chunk-preserved : goal.loop-chunk-preserved
loop-chunk-preserved g c =
    let m = g.S.ChunkStore.model in
    let cs = c.args.chunks.now in
    let i = c.loop-chunk.chunk-index in
    let now = c.loop-chunk.store in
    let given = given_anyway _ (m now) _ _ c.give_back.result (g.S.ChunkStore.bounded now) c.give_back.ensures.said c.give_back.ensures.after in
    ap (λ t. all_given t (drop (i + 1) cs)) given ∙ sym (at_drop_more (all_given (m now)) cs i 0 (omega arith)) ∙ c.loop-chunk.invariant
