-- What a line holds.
use Rattle.std.specs.Prelude.{◌≡◌, ℕ, Bool, cond, not, ◌&&◌, List, replicate, ◌==◌, slice_index_or, slice_set, refl}
use Rattle.std.proofs.Common.{not-suc-le-zero, lit<}
use Rattle.lines.specs.Entries.{Entry}
use Rattle.std.specs.Prelude.{Some, None}
use Rattle.lines.specs.declared.entries.Mapping.{Mapping}
use Rattle.lines.specs.declared.rows.Line.{Line}
use Rattle.lines.specs.Entries.{any_present}

-- the line with no entry
abbrev pub empty_line : Line
empty_line = record { cluster = 0; entries = replicate 8 None; ok = (lit< tt, refl, λ h. absurd (not-suc-le-zero h)) }

-- the entry at a position, absent past the eighth
abbrev pub entry_at : Line → ℕ → Entry
entry_at l k = slice_index_or l.entries k None

-- a line without an entry
abbrev pub is_empty : Line → Bool
is_empty l = not (any_present l.entries)

-- a line of a cluster has its number and an entry: the empty line is of none
abbrev pub is_of : ℕ → Line → Bool
is_of c l = not (is_empty l) && l.cluster == c

-- the entries with that at a position set; there is none past the eighth
abbrev pub filled : List Entry → ℕ → Mapping → List Entry
filled es k m = slice_set es k (Some m)

-- the entries with that at a position cleared; there is none past the eighth
abbrev pub cleared : List Entry → ℕ → List Entry
cleared es k = slice_set es k None

-- no entry is present
abbrev pub no_entries : List Entry
no_entries = replicate 8 None

-- the cluster of a line that is left with these entries: 0 where none is present
abbrev pub cluster_left : ℕ → List Entry → ℕ
cluster_left c es = cond (any_present es) c 0

-- the two parts of a line, which leave nothing of it open
pub record Holds (l : Line) (c : ℕ) (es : List Entry) : Type 0 where
  pub cluster : l.cluster ≡ c
  pub entries : l.entries ≡ es

-- no line holds them
abbrev pub NoLine : ℕ → List Entry → Type 0
NoLine c es = (l : Line) → Holds l c es → ⊥
