-- When a round trip is refused, and what a lender finds in its memory.
use Rattle.std.specs.Prelude.{ℕ, Bool, cond, List, [], ◌∷◌, ◌==◌, nat_lt}
use Rattle.lines.specs.declared.rows.Line.{Line}
use Rattle.lent_store.specs.Memory as memory
use Rattle.packed_store.specs.Packed as packs
use Rattle.record_store.specs.Records as records
use Rattle.stores.specs.Chunks.{free_count}

-- a row of a chunk yet to be taken: 16 where none is free, then 18 where a chunk has no such row
abbrev pub trip_refusal : ℕ → List Bool → ℕ → List ℕ
trip_refusal rows out r = cond (free_count out == 0) (16 ∷ []) (cond (nat_lt r rows) [] (18 ∷ []))

-- what memory in rows of so many cells holds after a line's row was written to row 0 of a chunk taken for it; as before where none of so many chunks was free
abbrev pub memory_after : {A : Type 0} → ℕ → ℕ → A → ℕ → ℕ → List A → List A → List A
memory_after rows cells blank free c mem row = cond (free == 0) mem (memory.row_replaced rows cells (memory.chunk_cleared rows cells blank mem c) c 0 row)

-- what records hold after a line was written to row 0 of a chunk taken for it; as before where none of so many chunks was free
abbrev pub records_after : ℕ → ℕ → List (List ℕ) → Line → List (List ℕ)
records_after free c mem l = cond (free == 0) mem (records.row_replaced (records.chunk_cleared mem c) c 0 l)

-- what bytes hold after the same
abbrev pub bytes_after : ℕ → ℕ → List ℕ → Line → List ℕ
bytes_after free c mem l = cond (free == 0) mem (packs.row_replaced (packs.chunk_cleared mem c) c 0 l)
