-- What the search leaves to show of `leave`.
use Rattle.std.proofs.Common.{ap, arith}
use Rattle.stores.specs.Views.{out_of}
use Rattle.lent_store.specs.Memory.{chunk_count}
use Rattle.round_trip.proofs.Rowed.{none_told}
use Rattle.round_trip.proofs.loans.leave.Goals as goal

-- the chunk taken has the row written to, so it is never refused
pub returns-in_err-write-clause-memory : goal.returns-in_err-write-clause-memory
returns-in_err-write-clause-memory g c =
    let f = g.F.RowForm in
    let s = c.args.store.now in
    let took = c.in_ok-chunk.ensures.after in
    absurd (none_told g.F.ChunkShape.ROWS (out_of (chunk_count g.F.ChunkShape.ROWS f.CELLS s.mem.now) s.marks) c.in_ok-chunk.chunk _ _ g.F.ChunkShape.power took.0 (rw (ap (λ t. t.out) took.1) at c.in_err-write.ensures.said) (λ some. omega arith))
