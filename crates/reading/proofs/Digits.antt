-- The value of digits, one digit after the other.
use Rattle.std.proofs.Common.{◌≡◌, ℕ, zero, suc, ◌+◌, ◌-◌, ◌*◌, ◌^◌, ◌<◌, ◌≤◌, Bool, true, false, cond, leb, List, [], ◌∷◌, ◌++◌, length, get_or, take, Some, None, sym, refl, ap, ◌∙◌, mul_assoc, pow-suc, add-one, arith, rules}
use Rattle.std.proofs.lemmas.List.{length_push, length-take-le, take_more}
use Rattle.std.proofs.lemmas.Bool.{and_left, and_right, and_parts, and_from, leb-true, cond-false}
use Rattle.std.proofs.lemmas.Str.Parse.{IsNumeralModel, numerals_by_weight, digits_value_short}
use Rattle.reading.specs.Numbers.{is_digit, digit_of, all_digits, value_of, is_number, number_of}

-- the shelf's lemmas on numerals hold of these words
own : IsNumeralModel (λ ds. all_digits ds ≡ true) value_of
own = numerals_by_weight _ (search rules) value_of (search rules)

value_push : (ds : List ℕ) (d : ℕ) → value_of (ds ++ d ∷ []) ≡ 10 * value_of ds + (d - 48)
value_push [] d = omega arith
value_push (b ∷ ds) d =
    let long = length_push ds d ∙ add-one (length ds) in
    let high : (b - 48) * 10 ^ length (ds ++ d ∷ []) ≡ (b - 48) * 10 ^ length ds * 10 =
    ap (λ n. (b - 48) * 10 ^ n) long ∙ ap (λ n. (b - 48) * n) (pow-suc 10 (length ds)) ∙ sym (mul_assoc (b - 48) (10 ^ length ds) 10) in
    omega (arith, high, value_push ds d)

digits_push : (ds : List ℕ) (d : ℕ) → all_digits ds ≡ true → is_digit d ≡ true → all_digits (ds ++ d ∷ []) ≡ true
digits_push [] d h p = and_from _ _ p refl
digits_push (b ∷ ds) d h p = let q = and_parts (is_digit b) (all_digits ds) h in and_from _ _ q.0 (digits_push ds d q.1 p)

no_digit : (ds : List ℕ) (i : ℕ) → i < length ds → is_digit (get_or ds i 0) ≡ false → all_digits ds ≡ false
no_digit [] i l h = absurd (omega arith)
no_digit (b ∷ ds) zero l h = and_left _ _ h
no_digit (b ∷ ds) (suc i) l h = and_right _ _ (no_digit ds i (omega arith) h)

some_from_cond : (t : Bool) (m n : ℕ) → cond t (Some m) None ≡ Some n → (t ≡ true) × (n ≡ m)
some_from_cond true m n e = (refl, cc)
some_from_cond false m n e = let z : ◌≡◌ {A = ℕ} 0 1 = cc in absurd (omega arith)

none_from_cond : (t : Bool) (m : ℕ) → cond t (Some m) None ≡ None → t ≡ false
none_from_cond true m e = let z : ◌≡◌ {A = ℕ} 0 1 = cc in absurd (omega arith)
none_from_cond false m e = refl

pub digit_small : (b d : ℕ) → digit_of b ≡ Some d → d < 10
digit_small b d e =
    let s = some_from_cond (is_digit b) (b - 48) d e in
    omega (arith, leb-true b 57 (and_parts (leb 48 b) (leb b 57) s.0).1)

-- the first i bytes of a field are digits, of this value
pub record ReadTo (field : List ℕ) (i value : ℕ) : Type 0 where
  pub digits : all_digits (take i field) ≡ true
  pub reads : value ≡ value_of (take i field)

pub value_small : {field : List ℕ} {i value : ℕ} → ReadTo field i value → i ≤ length field → length field ≤ 15 → value < 10 ^ 15
value_small {field} {i} {value} r h l =
    omega (arith, r.reads, digits_value_short own (take i field) 15 r.digits (omega (arith, length-take-le i field h)))

pub read_more : {field : List ℕ} {i value : ℕ} → ReadTo field i value → (d : ℕ) → i < length field → digit_of (get_or field i 0) ≡ Some d → ReadTo field (i + 1) (10 * value + d)
read_more {field} {i} {value} r d h e =
    let s = some_from_cond (is_digit (get_or field i 0)) (get_or field i 0 - 48) d e in
    let m = take_more field i 0 h in
    record {
      digits = ap all_digits m ∙ digits_push (take i field) (get_or field i 0) r.digits s.0;
      reads = omega (arith, r.reads, s.1, ap value_of m, value_push (take i field) (get_or field i 0));
    }

pub read_none : (field : List ℕ) (i : ℕ) → i < length field → digit_of (get_or field i 0) ≡ None → number_of field ≡ None
read_none field i h e =
    let bad = no_digit field i h (none_from_cond (is_digit (get_or field i 0)) (get_or field i 0 - 48) e) in
    cond-false (is_number field) _ _ (and_right _ _ bad)
