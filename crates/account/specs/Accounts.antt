-- The text of an account.
use Rattle.std.specs.Prelude.{◌≡◌, ℕ, ◌*◌, List, ◌++◌, vec_items, vec_len, box_value, codes, decimal, Box, slice_index}
use Rattle.std.specs.List.{flat_map}
use Rattle.std.specs.BTreeMap.{values, btree_map_len}
use Rattle.lines.specs.declared.rows.Line.{Line}
use Rattle.lines.specs.Packs.{packed}
use Rattle.families.specs.Digits.{digit_number}
use Rattle.families.specs.Mixes.{mix_number}
use Rattle.families.specs.Tables.{table_number}
use Rattle.layout.specs.declared.sheets.Layout.{Layout}
use Rattle.layout.specs.declared.sheets.Refusal.{Refusal}
use Rattle.layout.specs.Sheets.{LaidOut}
use Rattle.layout.specs.Refusals.{told}
use Rattle.account.specs.Hex.{hex_of}

-- a name and the numbers of ways 0, 1 and 2
abbrev pub numbers_text : List ℕ → (ℕ → ℕ) → List ℕ
numbers_text name number = codes "  " ++ (name ++ (codes " " ++ (decimal (number 0) ++ (codes " " ++ (decimal (number 1) ++ (codes " " ++ (decimal (number 2) ++ codes "\n")))))))

-- the numbers of a cluster in each family
abbrev pub families_text : ℕ → List ℕ
families_text c =
    numbers_text (codes "digit ") (λ w. digit_number w c) ++ (numbers_text (codes "mix   ") (λ w. mix_number w c) ++ numbers_text (codes "table ") (λ w. table_number w c))

-- a line's cluster and its packed form
abbrev pub packed_text : Line → List ℕ
packed_text l = codes "cluster " ++ (decimal l.cluster ++ (codes "\n  packed " ++ (hex_of (packed l) ++ codes "\n")))

-- a line: its cluster and its packed form, its cluster's numbers, and what its bytes unpack to
abbrev pub line_text : Line → List ℕ
line_text l = packed_text l ++ (families_text l.cluster ++ codes "  unpacks to the same line\n")

-- the lines, one after the other
abbrev pub lines_text : {Y : Type 0} → List (Box Line Y) → List ℕ
lines_text bs = flat_map (λ b. line_text (box_value b)) bs

-- a refused line of the list, with the refusal's number
abbrev pub refusal_text : Refusal → List ℕ
refusal_text r = codes "line " ++ (decimal r.line ++ (codes " refused: " ++ (decimal (slice_index (told r.fault) 0) ++ codes "\n")))

-- the refused lines, one after the other
abbrev pub refusals_text : List Refusal → List ℕ
refusals_text rs = flat_map refusal_text rs

-- how many pages, lines, bytes and refusals
abbrev pub totals_text : ℕ → ℕ → ℕ → List ℕ
totals_text pages lines refused =
    decimal pages ++ (codes " pages, " ++ (decimal lines ++ (codes " lines, " ++ (decimal (64 * lines) ++ (codes " bytes, " ++ (decimal refused ++ codes " refused\n"))))))

-- a whole layout: its lines in the order of their clusters, the refused lines, and the totals
abbrev pub layout_text : Layout → List ℕ
layout_text t = lines_text (values t.lines) ++ (refusals_text (vec_items t.refused) ++ totals_text t.pages (btree_map_len t.lines) (vec_len t.refused))

-- a text is the account of a list: that of a layout of the list
pub record Accounted (list text : List ℕ) : Type 0 where
  pub layout : Layout
  pub laid_out : LaidOut list layout
  pub is : text ≡ layout_text layout
