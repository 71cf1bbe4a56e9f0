-- Which chunk the makes take: the first free one at or above a mark, going round to 0.
use Rattle.std.specs.Prelude.{◌≡◌, ℕ, ◌+◌, Bool, true, false, cond, List, length, drop, Ok, Err, Result, nat_lt, slice_set}
use Rattle.std.specs.List.{prefix_len}
use Rattle.stores.specs.Chunks.{Free}
use Rattle.stores.specs.declared.faults.StoreFault.{StoreFault}
use Rattle.stores.specs.declared.marks.Marks.{Marks}

-- the first free chunk at or above a number, past the last chunk where there is none
abbrev pub free_from : List Bool → ℕ → ℕ
free_from out from = from + prefix_len (λ b. b) (drop from out)

-- the first free chunk at or above the mark, else the first of all
abbrev pub chosen : List Bool → ℕ → ℕ
chosen out mark = cond (nat_lt (free_from out mark) (length out)) (free_from out mark) (free_from out 0)

-- a chunk is taken: it is out, and the mark stands one past it
abbrev pub marks_taken : Marks → ℕ → Marks
marks_taken m c = record { out = slice_set m.out c true; mark = c + 1 }

-- what comes of the marks when a chunk is to be taken: the one chosen, which was free, or nothing changes
abbrev pub MarksTook : List Bool → Marks → Result ℕ StoreFault → Marks → Type 0
MarksTook out m (Ok c) m' = Free out c × (c ≡ chosen out m.mark) × (m' ≡ marks_taken m c)
MarksTook out m (Err e) m' = m' ≡ m

-- a chunk is given back: it is free, and the mark stays
abbrev pub marks_given : Marks → ℕ → Marks
marks_given m c = record { out = slice_set m.out c false; mark = m.mark }
