-- Each refusal by its number, and when it is given.
use Rattle.std.specs.Prelude.{◌≡◌, ℕ, List, [], ◌∷◌, Ok, Err, Result, ◌≢◌}
use Rattle.lines.specs.declared.entries.Mapping.{Mapping}
use Rattle.lines.specs.declared.faults.LineFault.{LineFault}
use Rattle.lines.specs.declared.faults.LineFault.TheVariants.{PageTooLarge, FrameTooLarge, BadRights, NotALine}
use Rattle.lines.specs.declared.numbers.Address.{Address}
use Rattle.lines.specs.declared.numbers.Page.{Page}
use Rattle.lines.specs.declared.rows.Line.{Line}
use Rattle.lines.specs.Numbers.{address_refusal, page_refusal, mapping_refusal}
use Rattle.lines.specs.Packs.{packed}

-- a refusal's number and the values that it carries
abbrev pub told : LineFault → List ℕ
told PageTooLarge = 3 ∷ []
told FrameTooLarge = 4 ∷ []
told BadRights = 5 ∷ []
told NotALine = 19 ∷ []

-- what comes of a number as an address: that address, or its refusal
abbrev pub AddressMade : ℕ → Result Address LineFault → Type 0
AddressMade n (Ok a) = (address_refusal n ≡ 0) × (a.number ≡ n)
AddressMade n (Err e) = told e ≡ address_refusal n ∷ []

-- what comes of a number as a page: that page, or its refusal
abbrev pub PageMade : ℕ → Result Page LineFault → Type 0
PageMade n (Ok p) = (page_refusal n ≡ 0) × (p.number ≡ n)
PageMade n (Err e) = told e ≡ page_refusal n ∷ []

-- what comes of a frame and rights: both together, or their refusal
abbrev pub MappingMade : ℕ → ℕ → Result Mapping LineFault → Type 0
MappingMade f r (Ok m) = (mapping_refusal f r ≡ 0) × (m.frame ≡ f) × (m.rights ≡ r)
MappingMade f r (Err e) = told e ≡ mapping_refusal f r ∷ []

-- what bytes unpack to: the line that packs to them, or 19 where none does
abbrev pub Unpacked : List ℕ → Result Line LineFault → Type 0
Unpacked bs (Ok l) = packed l ≡ bs
Unpacked bs (Err e) = (told e ≡ 19 ∷ []) × ((l : Line) → packed l ≢ bs)
