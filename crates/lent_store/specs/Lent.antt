-- What a store on lent memory holds.
use Rattle.std.specs.Prelude.{ℕ, List}
use Rattle.lines.specs.declared.rows.Line.{Line}
use Rattle.lent_store.specs.declared.store.LentStore.{LentStore}
use Rattle.lent_store.specs.Memory.{chunk_count, line_at}
use Rattle.stores.specs.Stores.{Store}
use Rattle.stores.specs.Views.{out_of, view}

-- what the store holds, where a row has so many cells, which stand for a line, and a chunk so many rows
abbrev pub shown : {F C : Type 0} → ℕ → ℕ → (List C → Line) → LentStore F C → Store
shown rows cells line_of s = view rows (out_of (chunk_count rows cells s.mem.now) s.marks) (line_at cells line_of s.mem.now)
