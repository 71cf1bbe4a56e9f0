-- Memory as rows of so many cells and chunks of so many rows, and what the calls of a store leave in it.
use Rattle.std.specs.Prelude.{ℕ, ◌+◌, ◌*◌, List, length, drop, replicate}
use Rattle.std.specs.List.{between}
use Rattle.std.proofs.Math.Seq.{paste}
use Rattle.lines.specs.declared.rows.Line.{Line}
use Rattle.stores.specs.Views.{chunks_in}

-- how many chunks the memory has room for
abbrev pub chunk_count : {A : Type 0} → ℕ → ℕ → List A → ℕ
chunk_count rows cells mem = chunks_in (rows * cells) (length mem)

-- the memory beyond those chunks
abbrev pub beyond_chunks : {A : Type 0} → ℕ → ℕ → List A → List A
beyond_chunks rows cells mem = drop (chunk_count rows cells mem * (rows * cells)) mem

-- the line of row i, where a row's cells stand for a line
abbrev pub line_at : {A : Type 0} → ℕ → (List A → Line) → List A → ℕ → Line
line_at cells line_of mem i = line_of (between (i * cells) (i * cells + cells) mem)

-- so many cells that are blank
unfoldable pub blanks : {A : Type 0} → A → ℕ → List A
blanks blank n = replicate n blank

-- the memory with the cells of a chunk all blank
abbrev pub chunk_cleared : {A : Type 0} → ℕ → ℕ → A → List A → ℕ → List A
chunk_cleared rows cells blank mem c = paste mem (c * (rows * cells)) (blanks blank (rows * cells)) (rows * cells)

-- the memory with the cells of row i replaced
abbrev pub row_put : {A : Type 0} → ℕ → List A → ℕ → List A → List A
row_put cells mem i row = paste mem (i * cells) row cells

-- the memory with the cells of a row of a chunk replaced
abbrev pub row_replaced : {A : Type 0} → ℕ → ℕ → List A → ℕ → ℕ → List A → List A
row_replaced rows cells mem c r row = row_put cells mem (c * rows + r) row
