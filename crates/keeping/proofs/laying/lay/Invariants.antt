-- What the loop of `lay` keeps.
use Rattle.std.proofs.Common.{◌≡◌, vec_items, vec_len, vec_capacity}
use Rattle.keeping.specs.Laid.{Laid}
use Rattle.keeping.specs.Stays.{chunks_for}
use Rattle.keeping.proofs.laying.lay.Given as goal

abbrev pub invariant-loop-k : goal.invariant-loop-k
invariant-loop-k g l =
    Laid g.S.ChunkStore.rows (g.S.ChunkStore.model l.initial.store) l.lines l.k (g.S.ChunkStore.model l.store) (vec_items l.chunks) ×
    (vec_len l.chunks ≡ chunks_for g.S.ChunkStore.rows l.k) ×
    (vec_capacity l.chunks ≡ vec_capacity l.initial.chunks)
