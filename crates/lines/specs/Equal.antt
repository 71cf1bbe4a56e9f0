-- What `==` says of addresses, pages, mappings, entries and lines.
use Rattle.std.proofs.Common.{◌≡◌, true, false, ◌&&◌, Bool, Decides, refl, ap}
use Rattle.std.proofs.lemmas.Bool.Decides.{Decides-eqb}
use Rattle.std.proofs.lemmas.Slice.Eq.{slice_eq-Decides}
use Rattle.std.specs.Prelude.{Some, None}
use Rattle.lines.specs.declared.entries.Mapping.{Mapping}
use Rattle.lines.specs.declared.numbers.Address.{Address}
use Rattle.lines.specs.declared.numbers.Page.{Page}
use Rattle.lines.specs.declared.rows.Line.{Line}
use Rattle.lines.specs.Entries.{Entry}
use Rattle.lines.specs.Laws.{address_eq, page_eq, mapping_eq, entry_eq, line_eq}
use Rattle.lines.specs.Same.{same_address, same_page, same_mapping, same_line}

both_decide : {P Q : Type 0} (a b : Bool) → Decides a P → Decides b Q → Decides (a && b) (P × Q)
both_decide true true p q = (λ _. (p.0 refl, q.0 refl), λ _. refl)
both_decide true false p q = (λ e. absurd (cc e), λ h. q.1 h.1)
both_decide false b p q = (λ e. absurd (cc e), λ h. p.1 h.0)

pub address_decides : (a b : Address) → Decides (address_eq a b) (a ≡ b)
address_decides a b = let d = Decides-eqb a.number b.number in (λ t. same_address a b (d.0 t), λ e. d.1 (ap (λ (x : Address). x.number) e))

pub page_decides : (p q : Page) → Decides (page_eq p q) (p ≡ q)
page_decides p q = let d = Decides-eqb p.number q.number in (λ t. same_page p q (d.0 t), λ e. d.1 (ap (λ (x : Page). x.number) e))

pub mapping_decides : (m n : Mapping) → Decides (mapping_eq m n) (m ≡ n)
mapping_decides m n =
    let d = both_decide _ _ (Decides-eqb m.frame n.frame) (Decides-eqb m.rights n.rights) in
    (λ t. same_mapping m n (d.0 t).0 (d.0 t).1, λ e. d.1 (ap (λ (x : Mapping). x.frame) e, ap (λ (x : Mapping). x.rights) e))

pub entry_decides : (e f : Entry) → Decides (entry_eq e f) (e ≡ f)
entry_decides None None = (λ _. refl, λ _. refl)
entry_decides None (Some n) = (λ t. cc, λ e. cc)
entry_decides (Some m) None = (λ t. cc, λ e. cc)
entry_decides (Some m) (Some n) = let d = mapping_decides m n in (λ t. ap Some (d.0 t), λ e. d.1 cc)

pub line_decides : (k l : Line) → Decides (line_eq k l) (k ≡ l)
line_decides k l =
    let d = both_decide _ _ (Decides-eqb k.cluster l.cluster) (slice_eq-Decides entry_decides k.entries l.entries _ refl) in
    (λ t. same_line k l (d.0 t).0 (d.0 t).1, λ e. d.1 (ap (λ (x : Line). x.cluster) e, ap (λ (x : Line). x.entries) e))
