-- Which line a record or packed bytes are decoded to.
use Rattle.std.proofs.Common.{◌≡◌, ℕ, List, replicate, sym, refl, ◌∙◌}
use Rattle.lines.specs.declared.rows.Line.{Line}
use Rattle.lines.specs.Decoded.{Decoded, form_or_none, line_found, record_of, recorded_line, packed_line}
use Rattle.lines.specs.Lines.{empty_line, no_entries, Holds}
use Rattle.lines.specs.Packs.{packed}
use Rattle.lines.proofs.Bytes.{packs_apart}
use Rattle.lines.proofs.Recorded.{records_apart}
use Rattle.lines.specs.Same.{same_line}

-- a form that tells lines apart is decoded to the line written in it
found_line : (form : Line → List ℕ) → ((k l : Line) → form k ≡ form l → k ≡ l) → (ns : List ℕ) (d : Decoded form ns) (l : Line) → form l ≡ ns → line_found form ns d ≡ l
found_line form apart ns (yes found) l e = apart found.0 l (found.1 ∙ sym e)
found_line form apart ns (no none) l e = absurd (none (l, e))

-- and to the empty line where none is
found_none : (form : Line → List ℕ) (ns : List ℕ) (d : Decoded form ns) → ((l : Line) → form l ≡ ns → ⊥) → line_found form ns d ≡ empty_line
found_none form ns (yes found) none = absurd (none found.0 found.1)
found_none form ns (no _) none = refl

-- a line that holds nothing is the empty line
pub holds_nothing : (l : Line) → Holds l 0 no_entries → l ≡ empty_line
holds_nothing l h = same_line l empty_line h.cluster h.entries

-- the line of a record is the one that it stands for
pub recorded_line-record : (l : Line) (ns : List ℕ) → record_of l ≡ ns → recorded_line ns ≡ l
unfolding recorded_line
recorded_line-record l ns e = found_line record_of records_apart ns (form_or_none record_of ns) l e

pub recorded_back : (l : Line) → recorded_line (record_of l) ≡ l
recorded_back l = recorded_line-record l (record_of l) refl

pub recorded_none : (ns : List ℕ) → ((l : Line) → record_of l ≡ ns → ⊥) → recorded_line ns ≡ empty_line
unfolding recorded_line
recorded_none ns none = found_none record_of ns (form_or_none record_of ns) none

-- the line that packs to some bytes is the one that they stand for
pub packed_line-packed : (l : Line) (bs : List ℕ) → packed l ≡ bs → packed_line bs ≡ l
unfolding packed_line
packed_line-packed l bs e = found_line packed packs_apart bs (form_or_none packed bs) l e

pub packed_back : (l : Line) → packed_line (packed l) ≡ l
packed_back l = packed_line-packed l (packed l) refl

pub packed_none : (bs : List ℕ) → ((l : Line) → packed l ≡ bs → ⊥) → packed_line bs ≡ empty_line
unfolding packed_line
packed_none bs none = found_none packed bs (form_or_none packed bs) none

pub packed_empty : packed empty_line ≡ replicate 64 0
unfolding packed
packed_empty = refl
