-- What the lines of a text and the fields of a line are, and what it is to cut bytes at a mark.
use Rattle.std.specs.Prelude.{◌≡◌, ℕ, ◌+◌, ◌<◌, cond, List, [], ◌∷◌, ◌++◌, length, drop, Option, MatchOption, ◌==◌, ◌≢◌, slice_index}
use Rattle.std.specs.Borrow.{Bor}

-- a byte put before the first of some parts, or a part of its own where there is none
abbrev pub before : ℕ → List (List ℕ) → List (List ℕ)
before b [] = (b ∷ []) ∷ []
before b (p ∷ ps) = (b ∷ p) ∷ ps

-- the parts of bytes between marks, where the end of the bytes by itself gives the parts `end`
abbrev pub parted : ℕ → List (List ℕ) → List ℕ → List (List ℕ)
parted mark end [] = end
parted mark end (b ∷ bs) = cond (b == mark) ([] ∷ parted mark end bs) (before b (parted mark end bs))

-- the lines of a text: each ends at byte 10, and the end closes only a line that has a byte
abbrev pub lines_of : List ℕ → List (List ℕ)
lines_of text = parted 10 [] text

-- the fields of a line, parted by commas: an empty line has one empty field
abbrev pub fields_of : List ℕ → List (List ℕ)
fields_of line = parted 44 ([] ∷ []) line

-- no byte is the mark
abbrev pub Lacks : ℕ → List ℕ → Type 0
Lacks mark bytes = (i : ℕ) → i < length bytes → slice_index bytes i ≢ mark

-- bytes cut at their first mark: the part before it lacks the mark, and without a mark there is no rest
pub record CutAt (mark : ℕ) (bytes part : List ℕ) (rest : Option (Bor (List ℕ))) : Type 0 where
  pub free : Lacks mark part
  pub whole : MatchOption rest (bytes ≡ part) (λ behind. bytes ≡ part ++ mark ∷ behind.now)

-- the first line of a text, and the rest: what stands behind the line and its byte 10
pub record FirstLine (text line rest : List ℕ) : Type 0 where
  pub lines : lines_of text ≡ line ∷ lines_of rest
  pub behind : rest ≡ drop (length line + 1) text
  pub shorter : length rest < length text
