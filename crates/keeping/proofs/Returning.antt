-- Chunks given back.
use Rattle.std.proofs.Common.{◌≡◌, ℕ, ◌+◌, Bool, true, false, cond, ◌≢◌, List, [], ◌∷◌, ◌++◌, length, get_or, take, set, is_ok, Ok, Err, Result, sym, refl, ap, ◌∙◌, ⊎_elim, arith}
use Rattle.std.proofs.lemmas.List.{set_comm, set-get_or, take_all, take_more}
use Rattle.std.proofs.lemmas.Bool.{cases_Bool, cases_eq}
use Rattle.std.proofs.lemmas.Bool.Decides.{nat_tests}
use Rattle.lines.specs.declared.rows.Line.{Line}
use Rattle.lines.specs.Lines.{empty_line}
use Rattle.stores.specs.declared.faults.StoreFault.{StoreFault}
use Rattle.stores.specs.Chunks.{is_out}
use Rattle.stores.specs.Refusals.{refusal, give_back_refusal}
use Rattle.stores.specs.Stores.{Store, Bounded, taken, given_back, written}
use Rattle.stores.proofs.Refusing.{some_told}
use Rattle.stores.proofs.Modelling.{same_store, not_out_empty, back_again}
use Rattle.keeping.specs.Laid.{all_given}

-- a chunk that is not out, given back, leaves the store as it was
given_not_out : (rows : ℕ) (s : Store) (c : ℕ) → Bounded rows s → is_out s.out c ≡ false → given_back s c ≡ s
given_not_out rows s c b was =
    same_store _ s (ap (set s.out c) (sym was) ∙ set-get_or s.out c false) (λ d q. let e = not_out_empty rows s c q b was in grind (arith, nat_tests))

-- given back or refused, a chunk is then not out, and all else is as it was
pub given_anyway : {A : Type 0} (rows : ℕ) (s t : Store) (c : ℕ) (r : Result A StoreFault) → Bounded rows s →
    refusal r ≡ give_back_refusal s.out c → t ≡ cond (is_ok r) (given_back s c) s → t ≡ given_back s c
given_anyway rows s t c (Ok x) b said after = after
given_anyway rows s t c (Err e) b said after = ⊎_elim
    (λ (o : is_out s.out c ≡ true). absurd (some_told e (said ∙ rw o)))
    (λ (o : is_out s.out c ≡ false). after ∙ sym (given_not_out rows s c b o))
    (cases_Bool (is_out s.out c))

set_order : (xs : List Bool) (c d : ℕ) → set (set xs c false) d false ≡ set (set xs d false) c false
set_order xs c d = ⊎_elim (λ (e : c ≡ d). rw e) (λ (ne : c ≢ d). set_comm xs c d false false ne) (cases_eq c d)

given_order : (s : Store) (c d : ℕ) → given_back (given_back s c) d ≡ given_back (given_back s d) c
given_order s c d = same_store _ _ (set_order s.out c d) (λ e r. grind (arith, nat_tests))

-- the last chunk may as well be given back first
pub given_push : (s : Store) (cs : List ℕ) (c : ℕ) → all_given s (cs ++ c ∷ []) ≡ all_given (given_back s c) cs
given_push s [] c = refl
given_push s (d ∷ cs) c = given_push (given_back s d) cs c ∙ ap (λ t. all_given t cs) (given_order s d c)

given_written : (s : Store) (c r : ℕ) (l : Line) → given_back (written s c r l) c ≡ given_back s c
given_written s c r l = same_store _ _ refl (λ d q. grind (arith, nat_tests))

-- a chunk taken, and given back with the others
pub back_taken : (rows : ℕ) (t : Store) (cs : List ℕ) (c : ℕ) → Bounded rows t → is_out t.out c ≡ false → all_given (taken t c) (cs ++ c ∷ []) ≡ all_given t cs
back_taken rows t cs c b was =
    given_push (taken t c) cs c ∙ ap (λ u. all_given u cs) (back_again rows t c 0 empty_line false b was)

last_of : (cs : List ℕ) (k : ℕ) → length cs ≡ k + 1 → cs ≡ take k cs ++ get_or cs k 0 ∷ []
last_of cs k e = sym (take_all (k + 1) cs (omega arith)) ∙ take_more cs k 0 (omega arith)

-- what is written into the last chunk goes with it
pub back_written : (t : Store) (cs : List ℕ) (k r : ℕ) (l : Line) → length cs ≡ k + 1 → all_given (written t (get_or cs k 0) r l) cs ≡ all_given t cs
back_written t cs k r l e =
    let c = get_or cs k 0 in
    let p = take k cs in
    let f = last_of cs k e in
    ap (all_given (written t c r l)) f
    ∙ given_push (written t c r l) p c
    ∙ ap (λ u. all_given u p) (given_written t c r l)
    ∙ sym (given_push t p c)
    ∙ ap (all_given t) (sym f)
