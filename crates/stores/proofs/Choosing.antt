-- Whether a chunk is free, by the marks.
use Rattle.std.proofs.Common.{◌≡◌, ℕ, ◌+◌, ◌<◌, ◌≤◌, Bool, true, false, cond, not, List, [], ◌∷◌, length, drop, position, Some, None, sym, refl, ap, ◌∙◌, ⊎_elim, arith, length-drop}
use Rattle.std.specs.List.{prefix_len}
use Rattle.std.proofs.lemmas.List.{get_or-drop}
use Rattle.std.proofs.lemmas.List.Sums.{sum_by-cons, get_or-le-sum_by, prefix_len_stops}
use Rattle.std.proofs.lemmas.Bool.{cases_lt, lt-ltb, le-ltb}
use Rattle.stores.specs.Chunks.{Free, free_count, is_out}
use Rattle.stores.specs.Choices.{free_from}

-- where all marks are out, none is free
pub none_free : (out : List Bool) → length out ≤ prefix_len (λ b. b) out → free_count out ≡ 0
none_free [] h = refl
none_free (true ∷ out) h = let e = none_free out (omega arith) in rw sum_by-cons (omega arith)
none_free (false ∷ out) h = absurd (omega arith)

-- where a chunk is free, some are
pub some_free : (out : List Bool) (c : ℕ) → Free out c → 0 < free_count out
some_free out c f = let le = rw f.1 at (get_or-le-sum_by (λ b. cond (not b) 1 0) out c false f.0) in omega arith

twice : (xs : List Bool) → prefix_len (λ b. not (not b)) xs ≡ prefix_len (λ b. b) xs
twice [] = refl
twice (true ∷ xs) = ap (λ n. 1 + n) (twice xs)
twice (false ∷ xs) = refl

-- no chunk is free from a number on
pub none_first : (out : List Bool) (from : ℕ) → None ≡ position not (drop from out) → length out ≤ free_from out from
none_first out from e =
    let p : ℕ = prefix_len (λ b. b) (drop from out) in
    ⊎_elim
    (λ (h : p < length (drop from out)). absurd (let t = lt-ltb p _ h in let f = rw (twice (drop from out), t) at e in cc))
    (λ (h : length (drop from out) ≤ p). omega (arith, length-drop from out))
    (cases_lt p (length (drop from out)))

-- the first free chunk from a number on
pub some_first : (out : List Bool) (from k : ℕ) → Some k ≡ position not (drop from out) → (from + k ≡ free_from out from) × Free out (from + k)
some_first out from k e =
    let p : ℕ = prefix_len (λ b. b) (drop from out) in
    ⊎_elim
    (λ (h : p < length (drop from out)).
    let t = lt-ltb p _ h in
    let f = rw (twice (drop from out), t) at e in
    let same : k ≡ p = cc in
    let stop : is_out out (from + p) ≡ false = sym (get_or-drop from out p false) ∙ prefix_len_stops (λ b. b) (drop from out) false h in
    (ap (λ n. from + n) same, (omega (arith, length-drop from out), ap (λ n. is_out out (from + n)) same ∙ stop)))
    (λ (h : length (drop from out) ≤ p). absurd (let t = le-ltb p _ h in let f = rw (twice (drop from out), t) at e in cc))
    (cases_lt p (length (drop from out)))
