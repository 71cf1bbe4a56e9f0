-- A list as far as it was laid out.
use Rattle.std.proofs.Common.{◌≡◌, ℕ, ◌+◌, List, ◌++◌, map, length, vec_items, vec_len}
use Rattle.reading.specs.Parts.{lines_of}
use Rattle.layout.specs.declared.sheets.Layout.{Layout}
use Rattle.layout.specs.Lists.{bare, book_of, refusals_of}
use Rattle.layout.specs.Sheets.{word_in, refusal}

-- after its first n lines, those that are left of the list lead from the layout so far to that of the whole list
pub record Sofar (list : List ℕ) (t : Layout) (n : ℕ) (left : List (List ℕ)) : Type 0 where
  pub book : book_of (word_in t.lines) left ≡ book_of bare (lines_of list)
  pub refused : map refusal (vec_items t.refused) ++ refusals_of (word_in t.lines) (n + 1) left ≡ refusals_of bare 1 (lines_of list)
  pub pages : t.pages + vec_len t.refused ≡ n
  pub counted : n + length left ≡ length (lines_of list)
