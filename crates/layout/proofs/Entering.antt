-- What entering one page's line does to the lines and to the words of all pages.
use Rattle.std.proofs.Common.{◌≡◌, ℕ, ◌+◌, ◌*◌, true, cond, not, eqb, Some, None, Ok, box_value, Option, Box, [], refl, sym, ap, ◌∙◌, ⊎_elim, arith, eq-eqb, ne_eqb, eqb-true, rules}
use mathlib.Core.Path.{fun_ext}
use Rattle.std.proofs.lemmas.Bool.{and_parts, and_from, cases_eq}
use Rattle.std.proofs.lemmas.Grind.{common_steps}
use Rattle.std.specs.BTreeMap.{BTreeMap, get, Updates, IsOrdered}
use Rattle.std.specs.Cmp.{unsigned_tied}
use Rattle.std.specs.Ordering.{nat_cmp}
use Rattle.std.specs.Option.{ForSome}
use Rattle.lines.specs.declared.rows.Line.{Line}
use Rattle.lines.specs.Lines.{is_empty, is_of}
use Rattle.lines.specs.Numbers.{cluster_of, position_of}
use Rattle.layout.specs.Lists.{entered, row_entered, row_refusal, noted}
use Rattle.layout.specs.Sheets.{word_in}
use Rattle.layout.specs.Steps.{Joined, Answered}

-- in one cluster, pages are told apart by their positions
position_tells : (q p : ℕ) → cluster_of q ≡ cluster_of p → eqb (position_of q) (position_of p) ≡ eqb q p
position_tells q p e = ⊎_elim (λ (s : q ≡ p). search rules) (λ (d : q ≡ p → ⊥). search rules) (cases_eq q p)

-- the lines m became n: a box with the line l was put under its cluster
pub record Put {Y : Type 0} (m n : BTreeMap ℕ (Box Line Y)) (l : Line) : Type 0 where
  pub box : Box Line Y
  pub holds : box_value box ≡ l
  pub updates : Updates nat_cmp m n l.cluster (Some box)
  pub ordered : IsOrdered nat_cmp n

module _ {Y : Type 0} (m n : BTreeMap ℕ (Box Line Y)) (l : Line) (put : Put m n l) where
  other : (c : ℕ) → (c ≡ l.cluster → ⊥) → get nat_cmp n c ≡ get nat_cmp m c
  other c d = put.updates.2 c (unsigned_tied l.cluster c ∙ ne_eqb l.cluster c (λ e. d (sym e)))

  pub own_still : is_of l.cluster l ≡ true → ((c : ℕ) → ForSome (get nat_cmp m c) (λ x. is_of c (box_value x) ≡ true)) → (c : ℕ) → ForSome (get nat_cmp n c) (λ x. is_of c (box_value x) ≡ true)
  own_still mine own c x found = grind (arith, common_steps, own c x, put.updates.0 c)

  module _ (p w : ℕ) (j : Joined m p w l) where
    its_cluster : l.cluster ≡ cluster_of p
    its_cluster = eqb-true l.cluster (cluster_of p) (and_parts (not (is_empty l)) _ j.own).1

    in_cluster : (q : ℕ) → cluster_of q ≡ cluster_of p → word_in n q ≡ entered (word_in m) p w q
    in_cluster q e = let c = its_cluster in let w = j.words (position_of q) in let t = position_tells q p e in search rules

    elsewhere : (q : ℕ) → (cluster_of q ≡ cluster_of p → ⊥) → word_in n q ≡ entered (word_in m) p w q
    elsewhere q d = let c = its_cluster in let o = other (cluster_of q) (λ e. d (e ∙ its_cluster)) in search rules

    pub entered_words : word_in n ≡ entered (word_in m) p w
    entered_words = fun_ext (λ q. ⊎_elim (in_cluster q) (elsewhere q) (cases_eq (cluster_of q) (cluster_of p)))

  -- the book after a line of the list that is not refused
  pub book_after : (t : Option (ℕ × ℕ × ℕ)) → Answered m t (Ok l) → word_in n ≡ row_entered (word_in m) t
  book_after None a = absurd a
  book_after (Some t) a =
      let w : ℕ = t.1 * 8 + t.2 in
      entered_words t.0 w a.1 ∙ sym (ap (λ r. cond (eqb r 0) (entered (word_in m) t.0 w) (word_in m)) a.0)

-- a line that was entered is of its own cluster
pub of_its_cluster : {Y : Type 0} (m : BTreeMap ℕ (Box Line Y)) (t : Option (ℕ × ℕ × ℕ)) (l : Line) → Answered m t (Ok l) → is_of l.cluster l ≡ true
of_its_cluster m None l a = absurd a
of_its_cluster m (Some t) l a = and_from (not (is_empty l)) _ (and_parts (not (is_empty l)) _ a.1.own).0 (eq-eqb l.cluster l.cluster refl)

-- and has no refusal
pub none_noted : {Y : Type 0} (m : BTreeMap ℕ (Box Line Y)) (n : ℕ) (t : Option (ℕ × ℕ × ℕ)) (l : Line) → Answered m t (Ok l) → noted n (row_refusal (word_in m) t) ≡ []
none_noted m n None l a = absurd a
none_noted m n (Some t) l a = ap (noted n) a.0
