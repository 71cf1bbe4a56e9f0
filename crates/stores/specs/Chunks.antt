-- Which chunks are out: a list with one mark for each chunk, true where it is out.
use Rattle.std.specs.Prelude.{◌≡◌, ℕ, ◌<◌, Bool, false, not, List, length, count_by, slice_index_or}

-- whether there is a chunk of this number and it is out
abbrev pub is_out : List Bool → ℕ → Bool
is_out out c = slice_index_or out c false

-- there is a chunk of this number and it is free
abbrev pub Free : List Bool → ℕ → Type 0
Free out c = (c < length out) × (is_out out c ≡ false)

-- how many chunks are free
abbrev pub free_count : List Bool → ℕ
free_count out = count_by not out
