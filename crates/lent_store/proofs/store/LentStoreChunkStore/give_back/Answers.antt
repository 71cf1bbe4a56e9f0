-- What the search leaves to show of `give_back`.
use Rattle.std.proofs.Common.{is_ok, ap}
use Rattle.stores.proofs.Meaning.{give_back_means}
use Rattle.lent_store.specs.Memory.{chunk_count, line_at}
use Rattle.lent_store.proofs.store.LentStoreChunkStore.give_back.Goals as goal

pub returns-clause-after : goal.returns-clause-after
returns-clause-after g c =
    let f = g.F.RowForm in
    let rows = g.F.ChunkShape.ROWS in
    let s = c.args.self.now in
    let did = c.free_chunk.ensures in
    give_back_means rows (chunk_count rows f.CELLS) (line_at f.CELLS f.line_of) s.marks _ s.mem.now _ c.args.chunk (is_ok c.free_chunk.result) did.marks (ap (λ m. m.now) did.memory)
