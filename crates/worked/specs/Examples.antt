-- The worked examples of the rules, in one sentence over the definitions that the contracts cite.
use Rattle.std.specs.Prelude.{◌∷◌, ◌++◌, ◌≡◌, ℕ, replicate}
use Rattle.std.specs.Prelude.{Some}
use Rattle.lines.specs.declared.entries.Mapping.{Mapping}
use Rattle.lines.specs.declared.rows.Line.{Line}
use Rattle.lines.specs.Entries.{word_of}
use Rattle.lines.specs.Lines.{Holds, filled, no_entries}
use Rattle.lines.specs.Numbers.{cluster_of, position_of, place_of}
use Rattle.lines.specs.Packs.{packed}
use Rattle.families.specs.Digits.{digit_number}
use Rattle.families.specs.Mixes.{mix_number}
use Rattle.families.specs.Tables.{table_at}

-- a line has one page alone
abbrev pub Alone : Line → ℕ → Mapping → Type 0
Alone l p m = Holds l (cluster_of p) (filled no_entries (position_of p) m)

-- all of them
pub record WorkedExamples : Type 0 where
  -- the last page
  pub last_page : (cluster_of 68719476735 ≡ 8589934591) × (position_of 68719476735 ≡ 7)
  -- address 7 in a page with frame 5
  pub place : place_of 5 7 ≡ 20487
  -- frame 5 with rights 3
  pub word : (m : Mapping) → m.frame ≡ 5 → m.rights ≡ 3 → word_of (Some m) ≡ 43
  -- page 9 alone, with frame 2 and rights 1: byte 7 is 0x08, byte 8 is 0x11, all others are 0
  pub packs : (l : Line) (m : Mapping) → m.frame ≡ 2 → m.rights ≡ 1 → Alone l 9 m → packed l ≡ replicate 7 0 ++ 0x08 ∷ 0x11 ∷ replicate 55 0
  -- a frame without rights is no entry, so no line has these bytes
  pub no_line : (l : Line) → packed l ≡ 8 ∷ replicate 63 0 → ⊥
  -- the mix family in way 0 at cluster 1
  pub mix : mix_number 0 1 ≡ 0x79B19E37
  -- the second number of the table
  pub table : table_at 1 ≡ 270369
  -- the digit family at cluster 36
  pub digit : (digit_number 0 36 ≡ 36) × (digit_number 1 36 ≡ 4) × (digit_number 2 36 ≡ 0)
