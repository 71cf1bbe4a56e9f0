-- Records as rows of memory, what a store on them holds, and what its calls leave in them.
use Rattle.std.specs.Prelude.{◌≡◌, ℕ, ◌+◌, ◌*◌, ◌<◌, List, [], ◌∷◌, Result, is_ok, if◌then◌else◌, length, drop, replicate, slice_index_or, slice_set, refl}
use Rattle.std.proofs.Common.{arith}
use Rattle.std.proofs.Math.Seq.{paste}
use Rattle.lines.specs.declared.rows.Line.{Line}
use Rattle.lines.specs.Decoded.{record_of, recorded_line}
use Rattle.stores.specs.Refusals.{refusal, row_refusal}
use Rattle.stores.specs.Stores.{RowsPerChunk, Store}
use Rattle.stores.specs.Views.{chunks_in, out_of, view}
use Rattle.stores.specs.declared.faults.StoreFault.{StoreFault}
use Rattle.stores.specs.declared.marks.Marks.{Marks}
use Rattle.lent_store.specs.Memory as memory

-- how many records a row has
abbrev pub records_per_row : ℕ
records_per_row = 1

-- how many rows, and so records, a chunk has
abbrev pub rows_per_chunk : ℕ
rows_per_chunk = 4

-- that is a power of two
pub rows_power : RowsPerChunk rows_per_chunk
rows_power = (2, omega arith, refl)

-- the cell that clearing leaves: the record of the empty line
abbrev pub blank_record : List ℕ
blank_record = replicate 9 0

-- a line as a row
abbrev pub row_of : Line → List (List ℕ)
row_of l = record_of l ∷ []

-- the line of a row
abbrev pub row_line : List (List ℕ) → Line
row_line row = recorded_line (slice_index_or row 0 [])

-- how many chunks the handed-over records have room for
abbrev pub chunk_count : List (List ℕ) → ℕ
chunk_count mem = chunks_in rows_per_chunk (length mem)

-- the records beyond those chunks
abbrev pub beyond_chunks : List (List ℕ) → List (List ℕ)
beyond_chunks mem = drop (chunk_count mem * rows_per_chunk) mem

-- the line of record i
abbrev pub line_at : List (List ℕ) → ℕ → Line
line_at mem i = recorded_line (slice_index_or mem i [])

-- what a store with these marks and this memory holds
abbrev pub shown : Marks → List (List ℕ) → Store
shown m mem = view rows_per_chunk (out_of (chunk_count mem) m) (line_at mem)

-- the records with the four of a chunk all zeros, which is the empty line
abbrev pub chunk_cleared : List (List ℕ) → ℕ → List (List ℕ)
chunk_cleared mem c = paste mem (c * rows_per_chunk) (replicate rows_per_chunk blank_record) rows_per_chunk

-- the records with that of one row replaced
abbrev pub row_replaced : List (List ℕ) → ℕ → ℕ → Line → List (List ℕ)
row_replaced mem c r l = slice_set mem (c * rows_per_chunk + r) (record_of l)

-- what a store on lent memory holds in records, and leaves in them
pub record RecordLaws : Type 0 where
  pub counts : (mem : List (List ℕ)) → memory.chunk_count rows_per_chunk records_per_row mem ≡ chunk_count mem
  pub beyond : (mem : List (List ℕ)) → memory.beyond_chunks rows_per_chunk records_per_row mem ≡ beyond_chunks mem
  pub shows : (m : Marks) (mem : List (List ℕ)) → view rows_per_chunk (out_of (memory.chunk_count rows_per_chunk records_per_row mem) m) (memory.line_at records_per_row row_line mem) ≡ shown m mem
  pub cleared : (mem : List (List ℕ)) (c : ℕ) → memory.chunk_cleared rows_per_chunk records_per_row blank_record mem c ≡ chunk_cleared mem c
  pub replaced : (mem : List (List ℕ)) (c r : ℕ) (l : Line) → c < chunk_count mem → r < rows_per_chunk → memory.row_replaced rows_per_chunk records_per_row mem c r (row_of l) ≡ row_replaced mem c r l
  -- what a write leaves, by its answer: no more is asked of chunk and row than what the store said of them
  pub written : (result : Result Unit StoreFault) (m : Marks) (mem : List (List ℕ)) (c r : ℕ) (l : Line) → refusal result ≡ row_refusal rows_per_chunk (out_of (chunk_count mem) m) c r → (if is_ok result then memory.row_replaced rows_per_chunk records_per_row mem c r (row_of l) else mem) ≡ (if is_ok result then row_replaced mem c r l else mem)
