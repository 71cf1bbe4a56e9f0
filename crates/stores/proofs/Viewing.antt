-- What is done to the marks of chunks and to a memory, and what that is to the store that they show.
use Rattle.std.proofs.Common.{◌≡◌, ℕ, zero, suc, ◌+◌, ◌*◌, ◌/◌, ◌%◌, ◌<◌, ◌≤◌, Bool, true, false, cond, ◌&&◌, eqb, ltb, ◌≢◌, ◌⊎◌, List, [], ◌∷◌, get_or, set, replicate, sym, refl, ap, ◌∙◌, inl, inr, ⊎_elim, arith, get_or-set_other}
use Rattle.std.proofs.lemmas.Nat.{div-mul-add, mod-mul-add}
use Rattle.std.proofs.lemmas.Bool.{and_left, and_right, cases_eq, cases_lt, cond-false, eq-eqb, le-ltb, lt-ltb, ne_eqb}
use Rattle.std.proofs.lemmas.Bool.Decides.{nat_tests}
use Rattle.lines.specs.declared.rows.Line.{Line}
use Rattle.lines.specs.Lines.{empty_line}
use Rattle.stores.specs.Chunks.{is_out}
use Rattle.stores.specs.Stores.{Bounded, all_free, taken, given_back, written}
use Rattle.stores.specs.Views.{view}
use Rattle.stores.proofs.Modelling.{same_store}

pub view_bounded : (rows : ℕ) (out : List Bool) (at : ℕ → Line) → Bounded rows (view rows out at)
view_bounded rows out at c r e = cond-false _ _ _ e

none_out : (n c : ℕ) → is_out (replicate n false) c ≡ false
none_out zero c = refl
none_out (suc n) zero = refl
none_out (suc n) (suc c) = none_out n c

-- no mark set: all chunks are free
pub view_new : (rows n : ℕ) (out : List Bool) (at : ℕ → Line) → out ≡ replicate n false → view rows out at ≡ all_free n
view_new rows n out at new = same_store _ _ new (λ c r. view_bounded rows out at c r (and_left _ _ (ap (λ o. is_out o c) new ∙ none_out n c)))

place_same : (w d q c r : ℕ) → q < w → r < w → d * w + q ≡ c * w + r → (d ≡ c) × (q ≡ r)
place_same w d q c r hq hr e =
    (sym (div-mul-add d w q hq) ∙ ap (λ x. x / w) e ∙ div-mul-add c w r hr, sym (mod-mul-add d w q hq) ∙ ap (λ x. x % w) e ∙ mod-mul-add c w r hr)

cond_same : {X : Type 0} (b : Bool) (x : X) → cond b x x ≡ x
cond_same true x = refl
cond_same false x = refl

get_d_set_false : (xs : List Bool) (c : ℕ) → get_or (set xs c false) c false ≡ false
get_d_set_false [] c = refl
get_d_set_false (x ∷ xs) zero = refl
get_d_set_false (x ∷ xs) (suc c) = get_d_set_false xs c

-- a mark taken away
pub view_given : (rows : ℕ) (out : List Bool) (at : ℕ → Line) (c : ℕ) → view rows (set out c false) at ≡ given_back (view rows out at) c
view_given rows out at c =
    same_store _ _ refl
    (λ d r. ⊎_elim
    (λ (e : d ≡ c). let f = get_d_set_false out c in rw (e, f, eq-eqb c c refl))
    (λ (ne : d ≢ c). rw (get_or-set_other out c d false false ne, ne_eqb d c ne))
    (cases_eq d c))

-- a mark set, and the rows of the chunk emptied
pub view_taken :
    (rows : ℕ) (out : List Bool) (at at' : ℕ → Line) (c : ℕ) →
    ((r : ℕ) → r < rows → at' (c * rows + r) ≡ empty_line) →
    ((d r : ℕ) → d ≢ c → r < rows → at' (d * rows + r) ≡ at (d * rows + r)) →
    view rows (set out c true) at' ≡ taken (view rows out at) c
view_taken rows out at at' c here other = same_store _ _ refl (λ d r. there d r (cases_eq d c) (cases_lt r rows)) where
  there : (d r : ℕ) → (d ≡ c) ⊎ (d ≢ c) → (r < rows) ⊎ (rows ≤ r) → cond (get_or (set out c true) d false && ltb r rows) (at' (d * rows + r)) empty_line ≡ cond (eqb d c) empty_line (cond (get_or out d false && ltb r rows) (at (d * rows + r)) empty_line)
  there d r (inl e) (inl h) = rw (e, eq-eqb c c refl, here r h) (cond_same _ _)
  there d r (inr ne) (inl h) = rw (get_or-set_other out c d true false ne, ne_eqb d c ne, other d r ne h)
  there d r e (inr h) = let f = le-ltb r rows h in rw (and_right (get_or (set out c true) d false) (ltb r rows) f, and_right (get_or out d false) (ltb r rows) f) (sym (cond_same _ _))

-- one row written
pub view_written :
    (rows : ℕ) (out : List Bool) (at at' : ℕ → Line) (c r : ℕ) (l : Line) → is_out out c ≡ true → r < rows →
    at' (c * rows + r) ≡ l →
    ((i : ℕ) → i ≢ c * rows + r → at' i ≡ at i) →
    view rows out at' ≡ written (view rows out at) c r l
view_written rows out at at' c r l was within here other = same_store _ _ refl (λ d q. there d q (cases_eq d c) (cases_eq q r) (cases_lt q rows)) where
  there : (d q : ℕ) → (d ≡ c) ⊎ (d ≢ c) → (q ≡ r) ⊎ (q ≢ r) → (q < rows) ⊎ (rows ≤ q) → cond (get_or out d false && ltb q rows) (at' (d * rows + q)) empty_line ≡ cond (eqb d c && eqb q r) l (cond (get_or out d false && ltb q rows) (at (d * rows + q)) empty_line)
  there d q (inl e) (inl f) h = rw (e, f, was, lt-ltb r rows within, eq-eqb c c refl, eq-eqb r r refl, here)
  there d q (inr ne) f (inl h) = rw (ne_eqb d c ne, other (d * rows + q) (λ e. ne (place_same rows d q c r h within e).0))
  there d q (inl e) (inr ne) (inl h) = rw (and_right (eqb d c) (eqb q r) (ne_eqb q r ne), other (d * rows + q) (λ e. ne (place_same rows d q c r h within e).1))
  there d q (inl e) (inr ne) (inr h) = let g = le-ltb q rows h in let k = ne_eqb q r ne in grind (arith, nat_tests)
  there d q (inr ne) f (inr h) = let g = le-ltb q rows h in let k = ne_eqb d c ne in grind (arith, nat_tests)
