-- What a chunk store is, and what each call makes of it.
use Rattle.std.specs.Prelude.{◌≡◌, ℕ, ◌^◌, ◌≤◌, Bool, true, false, cond, ◌&&◌, List, replicate, ◌==◌, nat_lt, slice_set}
use Rattle.lines.specs.declared.rows.Line.{Line}
use Rattle.lines.specs.Lines.{empty_line}
use Rattle.stores.specs.Chunks.{is_out}

-- A store: its chunks, numbered from 0, and the line in each row of each chunk that is out.
pub record Store : Type 0 where
  -- for each chunk whether it is out
  pub out : List Bool
  -- by chunk and row; where no row can be reached it is the empty line (`Bounded`), so that nothing is said of the memory of a free chunk
  pub line : ℕ → ℕ → Line

-- whether a row can be reached, in a store with so many rows a chunk
abbrev pub reached : ℕ → Store → ℕ → ℕ → Bool
reached rows s c r = is_out s.out c && nat_lt r rows

-- the store tells no line where no row can be reached
abbrev pub Bounded : ℕ → Store → Type 0
Bounded rows s = (c r : ℕ) → reached rows s c r ≡ false → s.line c r ≡ empty_line

-- how many rows a chunk can have: a power of two from 1 to 128
abbrev pub RowsPerChunk : ℕ → Type 0
RowsPerChunk rows = (k : ℕ) × (k ≤ 7) × (rows ≡ 2 ^ k)

-- a store of so many chunks, all free
abbrev pub all_free : ℕ → Store
all_free n = record { out = replicate n false; line = λ _ _. empty_line }

-- the lines, with those of one chunk all empty
abbrev pub emptied : (ℕ → ℕ → Line) → ℕ → ℕ → ℕ → Line
emptied line c = λ d r. cond (d == c) empty_line (line d r)

-- a free chunk becomes out, with all its lines empty
abbrev pub taken : Store → ℕ → Store
taken s c = record { out = slice_set s.out c true; line = emptied s.line c }

-- a chunk that is out becomes free, and its lines are told no more
abbrev pub given_back : Store → ℕ → Store
given_back s c = record { out = slice_set s.out c false; line = emptied s.line c }

-- another line stands in a row
abbrev pub written : Store → ℕ → ℕ → Line → Store
written s c r l = record { out = s.out; line = λ d q. cond (d == c && q == r) l (s.line d q) }
