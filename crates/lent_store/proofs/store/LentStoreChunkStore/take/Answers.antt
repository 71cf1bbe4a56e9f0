-- What the search leaves to show of `take`.
use Rattle.std.proofs.Common.{◌*◌, length, Ok, refl}
use Rattle.stores.proofs.Meaning.{take_beyond, take_means}
use Rattle.lent_store.specs.Memory.{chunk_count, beyond_chunks, chunk_cleared, line_at}
use Rattle.lent_store.proofs.Changing.{beyond_cleared, shown_taken}
use Rattle.lent_store.proofs.Rooms.{chunk_fits}
use Rattle.lent_store.proofs.store.LentStoreChunkStore.take.Goals as goal

pub returns-clause-after : goal.returns-clause-after
returns-clause-after g c =
    let f = g.F.RowForm in
    let rows = g.F.ChunkShape.ROWS in
    let s = c.args.self.now in
    take_means rows (chunk_count rows f.CELLS) (line_at f.CELLS f.line_of) (chunk_cleared rows f.CELLS f.blank) s.marks _ s.mem.now _ (Ok c.in_ok-chunk.chunk)
    (λ k below. shown_taken rows f.CELLS f.line_of f.blank s.marks s.mem.now k g.met.F.RowForm.blank_row (chunk_fits (rows * f.CELLS) (length s.mem.now) _ k refl below))
    (rw c.chunks-n.ensures at c.in_ok-chunk.ensures.after) c.clear_chunk.ensures

pub returns-clause-beyond : goal.returns-clause-beyond
returns-clause-beyond g c =
    let f = g.F.RowForm in
    let rows = g.F.ChunkShape.ROWS in
    let s = c.args.self.now in
    take_beyond rows (chunk_count rows f.CELLS) (line_at f.CELLS f.line_of) (beyond_chunks rows f.CELLS) (chunk_cleared rows f.CELLS f.blank) s.marks _ s.mem.now _ (Ok c.in_ok-chunk.chunk)
    (beyond_cleared rows f.CELLS f.blank s.mem.now)
    (rw c.chunks-n.ensures at c.in_ok-chunk.ensures.after) c.clear_chunk.ensures
