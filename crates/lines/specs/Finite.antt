-- Lines are finitely many, so it is decided whether one of them has a property that is decided of each.
use Rattle.std.specs.Prelude.{◌≡◌, ℕ, zero, suc, ◌^◌, ◌<◌, true, List, [], ◌∷◌, length, refl}
use Rattle.std.proofs.Math.Bool.{Bool-discrete, Bool-set}
use mathlib.Core.HLevel.{Π_prop, ×₃_prop}
use Rattle.std.proofs.Math.Logic.Dec
use Rattle.std.proofs.Common.{sym, subst, suc-ne-zero, arith}
use Rattle.std.proofs.Math.Bridge.{le_prop}
use Rattle.std.proofs.Math.Decide.{dec_le, dec_lt, ℕ_discrete}
use Rattle.std.proofs.Math.Nat.{ℕ_set, suc_inj}
use Rattle.lines.specs.Entries.{Entry}
use Rattle.std.specs.Prelude.{Some, None}
use Rattle.lines.specs.declared.entries.Mapping.{Mapping, ok-type as MappingLaw}
use Rattle.lines.specs.declared.rows.Line.{Line, ok-type as LineLaw}
use Rattle.lines.specs.Entries.{any_present}

-- whether something of a type has a property is decided, where that is decided of each
abbrev pub Exhaustible : Type 0 → Type 1
Exhaustible A = (P : A → Type 0) → ((a : A) → Dec (P a)) → Dec ((a : A) × P a)

-- the same, for a property that nothing has outside a range
abbrev Within : {A : Type 0} → (A → Type 0) → Type 1
Within {A} R = (P : A → Type 0) → ((a : A) → P a → R a) → ((a : A) → Dec (P a)) → Dec ((a : A) × P a)

-- numbers below a bound
below : (n : ℕ) → Within (λ k. k < n)
below zero P within d = no (λ h. let l = within h.0 h.1 in omega arith)
below (suc n) P within d = elim (d n) [
  | yes p ↦ yes (n, p)
  | no none ↦ below n P (λ k p. let l = within k p in let other : k ≡ n → ⊥ = λ e. none (subst P e p) in omega arith) d
]

-- lists of one length
listed : {A : Type 0} → Exhaustible A → (n : ℕ) → Within (λ (xs : List A). length xs ≡ n)
listed {A} s zero P long d = Dec.of_iff (λ p. ([], p), λ h. nil h.0 h.1) (d [])
  where
    nil : (xs : List A) → P xs → P []
    nil [] p = p
    nil (x ∷ xs) p = absurd (suc-ne-zero _ (long (x ∷ xs) p))
listed {A} s (suc n) P long d =
    Dec.of_iff (λ h. (h.0 ∷ h.1.0, h.1.1), λ h. cons h.0 h.1)
    (s (λ x. (xs : List A) × P (x ∷ xs)) (λ x. listed s n (λ xs. P (x ∷ xs)) (λ xs p. suc_inj (long (x ∷ xs) p)) (λ xs. d (x ∷ xs))))
  where
    cons : (xs : List A) → P xs → (x : A) × ((ys : List A) × P (x ∷ ys))
    cons [] p = absurd (suc-ne-zero _ (sym (long [] p)))
    cons (x ∷ xs) p = (x, (xs, p))

-- pairs, each part in its range
pairs : {A B : Type 0} {R : A → Type 0} {S : B → Type 0} → Within R → Within S → Within (λ (x : A × B). R x.0 × S x.1)
pairs {B = B} s t P within d =
    Dec.of_iff (λ h. ((h.0, h.1.0), h.1.1), λ h. (h.0.0, (h.0.1, h.1)))
    (s (λ a. (b : B) × P (a, b)) (λ a h. (within (a, h.0) h.1).0) (λ a. t (λ b. P (a, b)) (λ b p. (within (a, b) p).1) (λ b. d (a, b))))

-- a proposition that is decided
decided : {A : Type 0} → IsProp A → Dec A → Exhaustible A
decided one (yes a) P d = Dec.of_iff (λ p. (a, p), λ h. subst P (one h.0 a) h.1) (d a)
decided one (no none) P d = no (λ h. none h.0)

-- what meets a law that keeps to a range
lawful : {A : Type 0} {R : A → Type 0} → Within R → (L : A → Type 0) → ((a : A) → L a → R a) → ((a : A) → IsProp (L a)) → ((a : A) → Dec (L a)) → Exhaustible ((a : A) × L a)
lawful s L within one law P d =
    Dec.of_iff (λ h. ((h.0, h.1.0), h.1.1), λ h. (h.0.0, (h.0.1, h.1)))
    (s (λ a. (o : L a) × P (a, o)) (λ a h. within a h.0) (λ a. decided (one a) (law a) (λ o. P (a, o)) (λ o. d (a, o))))

-- what is made of something exhaustible
made : {A B : Type 0} → (f : A → B) (g : B → A) → ((b : B) → f (g b) ≡ b) → Exhaustible A → Exhaustible B
made f g back s P d = Dec.of_iff (λ h. (f h.0, h.1), λ h. (g h.0, subst P (sym (back h.0)) h.1)) (s (λ a. P (f a)) (λ a. d (f a)))

-- three facts together
three : {A B C : Type 0} → Dec A → Dec B → Dec C → Dec (A × B × C)
three a b c = Dec.of_iff (λ h. (h.0, h.1.0, h.1.1), λ h. (h.0, (h.1, h.2))) (Dec.and a (Dec.and b c))

-- that one fact implies another
implied : {A B : Type 0} → Dec A → Dec B → Dec (A → B)
implied a (yes q) = yes (λ _. q)
implied (yes p) (no n) = no (λ f. n (f p))
implied (no m) (no n) = yes (λ p. absurd (m p))

-- some mapping or none
mapping_or_none : Exhaustible Mapping
mapping_or_none =
    made (λ (x : (p : ℕ × ℕ) × MappingLaw p.0 p.1). record { frame = x.0.0; rights = x.0.1; ok = x.1 }) (λ m. ((m.frame, m.rights), m.ok)) (λ m. refl)
    (lawful (pairs (below (2 ^ 34)) (below 8)) (λ p. MappingLaw p.0 p.1) (λ p o. (o.0, omega (arith, o.2)))
    (λ p. ×₃_prop le_prop le_prop le_prop) (λ p. three (dec_lt p.0 (2 ^ 34)) (dec_le 1 p.1) (dec_le p.1 7)))

-- some entry or none
entry_or_none : Exhaustible Entry
entry_or_none P d = elim (d None) [
  | yes p ↦ yes (None, p)
  | no none ↦ Dec.of_iff (λ h. (Some h.0, h.1), λ h. present none h.0 h.1) (mapping_or_none (λ m. P (Some m)) (λ m. d (Some m)))
]
  where
    present : ¬ P None → (e : Entry) → P e → (m : Mapping) × P (Some m)
    present none None p = absurd (none p)
    present none (Some m) p = (m, p)

-- some line or none
pub line_or_none : Exhaustible Line
line_or_none =
    made (λ (x : (p : ℕ × List Entry) × LineLaw p.0 p.1). record { cluster = x.0.0; entries = x.0.1; ok = x.1 }) (λ l. ((l.cluster, l.entries), l.ok)) (λ l. refl)
    (lawful (pairs (below (2 ^ 33)) (listed entry_or_none 8)) (λ p. LineLaw p.0 p.1) (λ p o. (o.0, o.1))
    (λ p. ×₃_prop le_prop (ℕ_set _ _) (Π_prop (λ _. Bool-set _ _)))
    (λ p. three (dec_lt p.0 (2 ^ 33)) (ℕ_discrete (length p.1) 8) (implied (dec_lt 0 p.0) (Bool-discrete (any_present p.1) true))))
