-- What a list of pages says, line by line, with no regard to how it is laid out.
use Rattle.std.specs.Prelude.{ℕ, ◌+◌, ◌*◌, cond, List, [], ◌∷◌, ◌++◌, Some, None, Option, ◌==◌}
use Rattle.lines.specs.Numbers.{page_refusal, mapping_refusal}
use Rattle.reading.specs.Numbers.{three_of}

-- a book has the word of each page's entry: 0 for a page that is not in it
abbrev pub Book : Type 0
Book = ℕ → ℕ

-- the book without a page
abbrev pub bare : Book
bare p = 0

-- a book with a page entered
abbrev pub entered : Book → ℕ → ℕ → Book
entered book p w q = cond (q == p) w (book q)

-- the first of two refusals, where 0 is none
abbrev pub first : ℕ → ℕ → ℕ
first a b = cond (a == 0) b a

-- the refusal of numbers that are no page, frame and rights: 3, then 4, then 5
abbrev pub numbers_refusal : ℕ × ℕ × ℕ → ℕ
numbers_refusal t = first (page_refusal t.0) (mapping_refusal t.1 t.2)

-- the refusal of a line: 15 unless it has three numbers, then theirs, then 6 for a page in the book, 0 where there is none
abbrev pub row_refusal : Book → Option (ℕ × ℕ × ℕ) → ℕ
row_refusal book None = 15
row_refusal book (Some t) = first (numbers_refusal t) (cond (book t.0 == 0) 0 6)

-- a book after a line: one that is not refused enters its page, frame and rights
abbrev pub row_entered : Book → Option (ℕ × ℕ × ℕ) → Book
row_entered book None = book
row_entered book (Some t) = cond (row_refusal book (Some t) == 0) (entered book t.0 (t.1 * 8 + t.2)) book

-- the book of a list, begun with some book
abbrev pub book_of : Book → List (List ℕ) → Book
book_of book [] = book
book_of book (row ∷ rows) = book_of (row_entered book (three_of row)) rows

-- a refusal with the number of its line, unless it is none
abbrev pub noted : ℕ → ℕ → List (ℕ × List ℕ)
noted n refusal = cond (refusal == 0) [] ((n, refusal ∷ []) ∷ [])

-- the refusals of a list, each with the number of its line, the first line having the number n
abbrev pub refusals_of : Book → ℕ → List (List ℕ) → List (ℕ × List ℕ)
refusals_of book n [] = []
refusals_of book n (row ∷ rows) = noted n (row_refusal book (three_of row)) ++ refusals_of (row_entered book (three_of row)) (n + 1) rows
