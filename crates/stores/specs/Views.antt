-- A store as its marks and its memory show it, whatever the memory is made of.
use Rattle.std.specs.Prelude.{ℕ, ◌+◌, ◌*◌, ◌/◌, min, Bool, cond, ◌&&◌, List, take, nat_lt}
use Rattle.lines.specs.declared.rows.Line.{Line}
use Rattle.lines.specs.Lines.{empty_line}
use Rattle.stores.specs.Chunks.{is_out}
use Rattle.stores.specs.Stores.{Store}
use Rattle.stores.specs.declared.marks.Marks.{Marks}

-- how many chunks of a size a memory of a length has, at most 256
abbrev pub chunks_in : ℕ → ℕ → ℕ
chunks_in size len = min 256 (len / size)

-- the marks of the first n chunks
abbrev pub out_of : ℕ → Marks → List Bool
out_of n m = take n m.out

-- chunks with these marks and so many rows each, over a memory whose i-th line is `at i`: row r of chunk c is line c * rows + r
abbrev pub view : ℕ → List Bool → (ℕ → Line) → Store
view rows out at = record { out = out; line = λ c r. cond (is_out out c && nat_lt r rows) (at (c * rows + r)) empty_line }
