-- What is told of a stay of lines in a store.
use Rattle.std.specs.Prelude.{◌≡◌, ℕ, ◌+◌, ◌*◌, ◌/◌, ◌%◌, min, Bool, cond, List, [], ◌∷◌, Some, None, Option, nat_lt}
use Rattle.stores.specs.Chunks.{free_count}
use Rattle.stores.specs.Refusals.{told, refusal, spare_refusal}
use Rattle.stores.specs.declared.faults.StoreFault.{StoreFault}
use Rattle.keeping.specs.declared.stay.Stay.{Stay}

-- how many chunks so many lines need, with so many rows a chunk
abbrev pub chunks_for : ℕ → ℕ → ℕ
chunks_for rows n = n / rows + min 1 (n % rows)

-- how many of n lines find a row, with so many rows a chunk and so many chunks free
abbrev pub rows_for : ℕ → ℕ → ℕ → ℕ
rows_for rows free n = min n (free * rows)

-- what stopped the laying, by its number and values: nothing where nothing did
abbrev pub stop_refusal : Option StoreFault → List ℕ
stop_refusal None = []
stop_refusal (Some e) = told e

-- 16 where fewer rows were written than there are lines
abbrev pub left_out_refusal : ℕ → ℕ → List ℕ
left_out_refusal rows n = cond (nat_lt rows n) (16 ∷ []) []

-- a stay of n lines in a store with so many rows a chunk and these marks
pub record Stayed (rows : ℕ) (out : List Bool) (n : ℕ) (stay : Stay) : Type 0 where
  -- as many lines as find a row are written
  pub written : stay.rows ≡ rows_for rows (free_count out) n
  -- no more chunks are taken than these need
  pub chunks : stay.chunks ≡ chunks_for rows stay.rows
  -- every line that found a row reads back the same
  pub same : stay.same ≡ stay.rows
  -- the store was asked for as many chunks as all the lines need
  pub asked : refusal stay.asked ≡ spare_refusal out (chunks_for rows n)
  -- 16 stopped it where lines are left out, and nothing else did
  pub stopped : stop_refusal stay.stopped ≡ left_out_refusal stay.rows n
