-- What the loop of `give_all` keeps.
use Rattle.std.proofs.Common.{◌≡◌, drop}
use Rattle.keeping.specs.Laid.{all_given}
use Rattle.keeping.proofs.giving.give_all.Given as goal

abbrev pub invariant-loop-chunk : goal.invariant-loop-chunk
invariant-loop-chunk g l =
    all_given (g.S.ChunkStore.model l.store) (drop l.chunk-index l.chunks) ≡ all_given (g.S.ChunkStore.model l.initial.store) l.chunks
