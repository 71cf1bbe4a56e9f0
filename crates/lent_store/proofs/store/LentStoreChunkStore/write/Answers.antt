-- What the search leaves to show of `write`.
use Rattle.std.proofs.Common.{length, Ok, refl}
use Rattle.stores.proofs.Meaning.{write_beyond, write_means}
use Rattle.lent_store.specs.Memory.{chunk_count, beyond_chunks, line_at, row_replaced}
use Rattle.lent_store.proofs.Changing.{beyond_replaced, shown_written}
use Rattle.lent_store.proofs.Rooms.{row_fits}
use Rattle.lent_store.proofs.store.LentStoreChunkStore.write.Goals as goal

pub returns-clause-after : goal.returns-clause-after
returns-clause-after g c =
    let f = g.F.RowForm in
    let laws = g.met.F.RowForm in
    let rows = g.F.ChunkShape.ROWS in
    let s = c.args.self.now in
    let at = c.args.at in
    let l = c.args.line.now in
    write_means rows (chunk_count rows f.CELLS) (line_at f.CELLS f.line_of) (row_replaced rows f.CELLS s.mem.now at.chunk at.row (f.row_of l)) s.marks s.marks s.mem.now _ at.chunk at.row l (Ok (tt {0}))
    (λ below out h. shown_written rows f.CELLS f.line_of (f.row_of l) l s.marks s.mem.now at.chunk at.row (laws.row_size l) (laws.line_back l) out h (row_fits rows f.CELLS (length s.mem.now) _ at.chunk at.row refl below h))
    (rw (c.ROWS.ensures, c.chunks-n.ensures) at c.in_ok-reach.ensures.said) refl (rw c.ROWS-2.ensures at c.put_at.ensures)

pub returns-clause-beyond : goal.returns-clause-beyond
returns-clause-beyond g c =
    let f = g.F.RowForm in
    let rows = g.F.ChunkShape.ROWS in
    let s = c.args.self.now in
    let at = c.args.at in
    let row = f.row_of c.args.line.now in
    write_beyond rows (chunk_count rows f.CELLS) (line_at f.CELLS f.line_of) (beyond_chunks rows f.CELLS) (row_replaced rows f.CELLS s.mem.now at.chunk at.row row) s.marks s.mem.now _ at.chunk at.row (Ok (tt {0}))
    (beyond_replaced rows f.CELLS row s.mem.now at.chunk at.row (g.met.F.RowForm.row_size c.args.line.now))
    (rw (c.ROWS.ensures, c.chunks-n.ensures) at c.in_ok-reach.ensures.said) (rw c.ROWS-2.ensures at c.put_at.ensures)
