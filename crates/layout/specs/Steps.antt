-- What one line of a list does to the lines laid out so far.
use Rattle.std.specs.Prelude.{◌≡◌, ℕ, ◌+◌, ◌*◌, true, cond, List, [], ◌∷◌, ◌++◌, map, Some, None, Ok, Err, vec_items, vec_len, Option, Result, Box, ◌==◌}
use Rattle.std.specs.BTreeMap.{get}
use Rattle.std.specs.BTreeMap.{BTreeMap}
use Rattle.std.specs.Ordering.{nat_cmp}
use Rattle.lines.specs.declared.rows.Line.{Line}
use Rattle.lines.specs.Entries.{word_of}
use Rattle.lines.specs.Lines.{entry_at, is_of}
use Rattle.lines.specs.Numbers.{cluster_of, position_of}
use Rattle.reading.specs.Numbers.{three_of}
use Rattle.layout.specs.declared.faults.ListFault.{ListFault}
use Rattle.layout.specs.declared.listed.Listed.{Listed}
use Rattle.layout.specs.declared.sheets.Layout.{Layout}
use Rattle.layout.specs.Lists.{numbers_refusal, row_refusal, row_entered, noted}
use Rattle.layout.specs.Refusals.{told}
use Rattle.layout.specs.Sheets.{refusal, entry_in, word_in}

-- what comes of a line of the list by itself: page and mapping, or the refusal of its numbers
abbrev pub RowRead : Option (ℕ × ℕ × ℕ) → Result Listed ListFault → Type 0
RowRead None (Ok a) = ⊥
RowRead None (Err e) = told e ≡ 15 ∷ []
RowRead (Some t) (Ok a) = (numbers_refusal t ≡ 0) × (a.page.number ≡ t.0) × (a.mapping.frame ≡ t.1) × (a.mapping.rights ≡ t.2)
RowRead (Some t) (Err e) = told e ≡ numbers_refusal t ∷ []

-- the same of the line's bytes
abbrev pub Row : List ℕ → Result Listed ListFault → Type 0
Row row r = RowRead (three_of row) r

-- a page's line among the lines m, with the page entered
pub record Joined {Y : Type 0} (m : BTreeMap ℕ (Box Line Y)) (p w : ℕ) (l : Line) : Type 0 where
  pub free : word_in m p ≡ 0
  pub own : is_of (cluster_of p) l ≡ true
  pub words : (k : ℕ) → word_of (entry_at l k) ≡ cond (k == position_of p) w (word_of (entry_in (get nat_cmp m (cluster_of p)) k))

-- what a line of the list makes of the lines m: its page's line with the page entered, or its refusal
abbrev pub Answered : {Y : Type 0} → BTreeMap ℕ (Box Line Y) → Option (ℕ × ℕ × ℕ) → Result Line ListFault → Type 0
Answered m None (Ok l) = ⊥
Answered m (Some t) (Ok l) = (row_refusal (word_in m) (Some t) ≡ 0) × Joined m t.0 (t.1 * 8 + t.2) l
Answered m t (Err e) = told e ≡ row_refusal (word_in m) t ∷ []

-- a layout s became t by line n of a list
pub record Stepped (s : Layout) (n : ℕ) (row : List ℕ) (t : Layout) : Type 0 where
  pub book : word_in t.lines ≡ row_entered (word_in s.lines) (three_of row)
  pub refused : map refusal (vec_items t.refused) ≡ map refusal (vec_items s.refused) ++ noted n (row_refusal (word_in s.lines) (three_of row))
  pub pages : t.pages + vec_len t.refused ≡ s.pages + vec_len s.refused + 1
