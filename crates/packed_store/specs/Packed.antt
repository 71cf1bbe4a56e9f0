-- Packed lines as rows of memory, what a store on them holds, and what its calls leave in the bytes.
use Rattle.std.specs.Prelude.{◌≡◌, ℕ, ◌+◌, ◌*◌, List, length, drop, replicate, refl}
use Rattle.std.proofs.Common.{arith}
use Rattle.std.specs.List.{between}
use Rattle.std.proofs.Math.Seq.{paste}
use Rattle.lines.specs.declared.rows.Line.{Line}
use Rattle.lines.specs.Decoded.{packed_line}
use Rattle.lines.specs.Packs.{packed}
use Rattle.stores.specs.Stores.{RowsPerChunk, Store}
use Rattle.stores.specs.Views.{chunks_in, out_of, view}
use Rattle.stores.specs.declared.marks.Marks.{Marks}
use Rattle.lent_store.specs.Memory as memory

-- how many bytes a packed line has
abbrev pub line_bytes : ℕ
line_bytes = 64

-- how many rows a chunk has
abbrev pub rows_per_chunk : ℕ
rows_per_chunk = 128

-- that is a power of two
pub rows_power : RowsPerChunk rows_per_chunk
rows_power = (7, omega arith, refl)

-- how many bytes a chunk has
abbrev pub chunk_bytes : ℕ
chunk_bytes = 8192

-- how many chunks the handed-over bytes have room for
abbrev pub chunk_count : List ℕ → ℕ
chunk_count mem = chunks_in chunk_bytes (length mem)

-- the bytes beyond those chunks
abbrev pub beyond_chunks : List ℕ → List ℕ
beyond_chunks mem = drop (chunk_count mem * chunk_bytes) mem

-- the i-th line of the bytes
abbrev pub line_at : List ℕ → ℕ → Line
line_at mem i = packed_line (between (i * line_bytes) (i * line_bytes + line_bytes) mem)

-- what a store with these marks and this memory holds
abbrev pub shown : Marks → List ℕ → Store
shown m mem = view rows_per_chunk (out_of (chunk_count mem) m) (line_at mem)

-- so many bytes that are 0
unfoldable pub zeros : ℕ → List ℕ
zeros n = replicate n 0

-- the bytes with those of a chunk all 0, which packs the empty line
abbrev pub chunk_cleared : List ℕ → ℕ → List ℕ
chunk_cleared mem c = paste mem (c * chunk_bytes) (zeros chunk_bytes) chunk_bytes

-- the bytes with the i-th line replaced
abbrev pub line_replaced : List ℕ → ℕ → Line → List ℕ
line_replaced mem i l = paste mem (i * line_bytes) (packed l) line_bytes

-- the bytes with the line in a row of a chunk replaced
abbrev pub row_replaced : List ℕ → ℕ → ℕ → Line → List ℕ
row_replaced mem c r l = line_replaced mem (c * rows_per_chunk + r) l

-- what a store on lent memory holds in bytes, and leaves in them
pub record PackedLaws : Type 0 where
  pub counts : (mem : List ℕ) → memory.chunk_count rows_per_chunk line_bytes mem ≡ chunk_count mem
  pub beyond : (mem : List ℕ) → memory.beyond_chunks rows_per_chunk line_bytes mem ≡ beyond_chunks mem
  pub shows : (m : Marks) (mem : List ℕ) → view rows_per_chunk (out_of (memory.chunk_count rows_per_chunk line_bytes mem) m) (memory.line_at line_bytes packed_line mem) ≡ shown m mem
  pub cleared : (mem : List ℕ) (c : ℕ) → memory.chunk_cleared rows_per_chunk line_bytes 0 mem c ≡ chunk_cleared mem c
  pub replaced : (mem : List ℕ) (c r : ℕ) (l : Line) → memory.row_replaced rows_per_chunk line_bytes mem c r (packed l) ≡ row_replaced mem c r l
