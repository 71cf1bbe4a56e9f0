-- What lines laid out hold, and when they are those of a list.
use Rattle.std.specs.Prelude.{◌≡◌, ℕ, ◌+◌, true, List, map, length, Some, None, vec_items, vec_len, box_value, Option, Box}
use Rattle.std.specs.BTreeMap.{IsOrdered, get}
use Rattle.std.specs.BTreeMap.{BTreeMap}
use Rattle.std.specs.Option.{ForSome}
use Rattle.std.specs.Ordering.{nat_cmp}
use Rattle.lines.specs.declared.rows.Line.{Line}
use Rattle.lines.specs.Entries.{Entry, word_of}
use Rattle.lines.specs.Lines.{entry_at, is_of}
use Rattle.lines.specs.Numbers.{cluster_of, position_of}
use Rattle.reading.specs.Parts.{lines_of}
use Rattle.layout.specs.declared.sheets.Layout.{Layout}
use Rattle.layout.specs.declared.sheets.Refusal.{Refusal}
use Rattle.layout.specs.Lists.{Book, bare, book_of, refusals_of}
use Rattle.layout.specs.Refusals.{told}

-- a refusal as two numbers: its line and its own
abbrev pub refusal : Refusal → ℕ × List ℕ
refusal r = (r.line, told r.fault)

-- the entry at a position of a line that may be missing
abbrev pub entry_in : {Y : Type 0} → Option (Box Line Y) → ℕ → Entry
entry_in None k = None
entry_in (Some b) k = entry_at (box_value b) k

-- the word of a page's entry in the lines
abbrev pub word_in : {Y : Type 0} → BTreeMap ℕ (Box Line Y) → Book
word_in m p = word_of (entry_in (get nat_cmp m (cluster_of p)) (position_of p))

-- the lines stand in the order of their clusters, each under its own
pub record Sound {Y : Type 0} (m : BTreeMap ℕ (Box Line Y)) : Type 0 where
  pub ordered : IsOrdered nat_cmp m
  pub own : (c : ℕ) → ForSome (get nat_cmp m c) (λ b. is_of c (box_value b) ≡ true)

-- a layout is that of a list
pub record LaidOut (list : List ℕ) (t : Layout) : Type 0 where
  -- each line stands once, under its own cluster, in rising order, and none is empty
  pub sound : Sound t.lines
  -- the lines hold each page that the list enters, with its frame and rights, and no other page
  pub book : word_in t.lines ≡ book_of bare (lines_of list)
  -- the refused lines, in their order, with their numbers
  pub refused : map refusal (vec_items t.refused) ≡ refusals_of bare 1 (lines_of list)
  -- every line of the list is a page or a refusal
  pub pages : t.pages + vec_len t.refused ≡ length (lines_of list)
