-- What the search leaves to show of `new`.
use Rattle.std.proofs.Common.{arith}
use Rattle.stores.specs.Views.{out_of}
use Rattle.stores.proofs.Meaning.{out_new}
use Rattle.stores.proofs.Viewing.{view_new}
use Rattle.lent_store.specs.Memory.{chunk_count, line_at}
use Rattle.lent_store.proofs.store.LentStore.new.Goals as goal

pub returns-clause-model : goal.returns-clause-model
returns-clause-model g c =
    let f = g.F.RowForm in
    let n = chunk_count g.F.ChunkShape.ROWS f.CELLS c.args.mem.now in
    view_new g.F.ChunkShape.ROWS n (out_of n c.new.result) (line_at f.CELLS f.line_of c.args.mem.now) (out_new n c.new.result c.new.ensures.out (omega arith))
