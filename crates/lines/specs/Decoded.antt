-- The line that numbers or bytes stand for, whatever they are.
use Rattle.std.specs.Prelude.{◌≡◌, ℕ, List, ◌∷◌, map, ◌≢◌}
use mathlib.Core.List.{List-discrete}
use Rattle.std.proofs.Math.Decide.{ℕ_discrete}
use Rattle.lines.specs.declared.rows.Line.{Line}
use Rattle.lines.specs.Entries.{word_of}
use Rattle.lines.specs.Finite.{line_or_none}
use Rattle.lines.specs.Lines.{empty_line}
use Rattle.lines.specs.Packs.{packed}

-- a line that is written so in a form, or that there is none
abbrev pub Decoded : (Line → List ℕ) → List ℕ → Type 0
Decoded form ns = Dec ((l : Line) × (form l ≡ ns))

-- any numbers are a line in a form or none
pub form_or_none : (form : Line → List ℕ) (ns : List ℕ) → Decoded form ns
form_or_none form ns = line_or_none (λ l. form l ≡ ns) (λ l. List-discrete ℕ_discrete (form l) ns)

-- the line that was found, the empty line where there is none
abbrev pub line_found : (form : Line → List ℕ) (ns : List ℕ) → Decoded form ns → Line
line_found form ns (yes found) = found.0
line_found form ns (no none) = empty_line

-- a line as its cluster and the words of its entries
abbrev pub record_of : Line → List ℕ
record_of l = l.cluster ∷ map word_of l.entries

-- no line has this record
abbrev pub NoRecord : List ℕ → Type 0
NoRecord ns = (l : Line) → record_of l ≢ ns

-- the line that a record stands for, the empty line where it is the record of none
unfoldable pub recorded_line : List ℕ → Line
recorded_line ns = line_found record_of ns (form_or_none record_of ns)

-- the line that bytes stand for, the empty line where no line packs to them
unfoldable pub packed_line : List ℕ → Line
packed_line bs = line_found packed bs (form_or_none packed bs)
