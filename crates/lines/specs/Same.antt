-- Values whose plain fields are equal are equal.
use mathlib.Core.HLevel.{is_prop→PathP}
use Rattle.std.proofs.Common.{◌≡◌, ℕ, List}
use denote.Struct.Props.{props}
use Rattle.lines.specs.Entries.{Entry}
use Rattle.lines.specs.declared.entries.Mapping.{Mapping, ok-type as mapping_ok}
use Rattle.lines.specs.declared.numbers.Address.{Address, ok-type as address_ok}
use Rattle.lines.specs.declared.numbers.Page.{Page, ok-type as page_ok}
use Rattle.lines.specs.declared.rows.Line.{Line, ok-type as line_ok}

address_ok_prop : (n : ℕ) → IsProp (address_ok n)
address_ok_prop n = hlevel props

page_ok_prop : (n : ℕ) → IsProp (page_ok n)
page_ok_prop n = hlevel props

mapping_ok_prop : (f r : ℕ) → IsProp (mapping_ok f r)
mapping_ok_prop f r = hlevel props

line_ok_prop : (c : ℕ) (es : List Entry) → IsProp (line_ok c es)
line_ok_prop c es = hlevel props

pub same_address : (a b : Address) → a.number ≡ b.number → a ≡ b
same_address a b e =
    λ i. record { number = e i; ok = is_prop→PathP (λ j. address_ok (e j)) (λ j. address_ok_prop (e j)) a.ok b.ok i }

pub same_page : (p q : Page) → p.number ≡ q.number → p ≡ q
same_page p q e =
    λ i. record { number = e i; ok = is_prop→PathP (λ j. page_ok (e j)) (λ j. page_ok_prop (e j)) p.ok q.ok i }

pub same_mapping : (m n : Mapping) → m.frame ≡ n.frame → m.rights ≡ n.rights → m ≡ n
same_mapping m n e f =
    λ i. record { frame = e i; rights = f i; ok = is_prop→PathP (λ j. mapping_ok (e j) (f j)) (λ j. mapping_ok_prop (e j) (f j)) m.ok n.ok i }

pub same_line : (k l : Line) → k.cluster ≡ l.cluster → k.entries ≡ l.entries → k ≡ l
same_line k l e f =
    λ i. record { cluster = e i; entries = f i; ok = is_prop→PathP (λ j. line_ok (e j) (f j)) (λ j. line_ok_prop (e j) (f j)) k.ok l.ok i }
