-- What a call's changes of marks and memory mean for the store, whatever the memory is made of.
use Rattle.std.proofs.Common.{◌≡◌, ℕ, zero, suc, ◌+◌, ◌-◌, ◌<◌, ◌≤◌, Bool, true, false, cond, List, [], ◌∷◌, length, take, drop, set, replicate, is_ok, Ok, Err, Result, sym, refl, ap, ◌∙◌, ap₂, ⊎_elim, arith, length-take, MatchResult}
use Rattle.std.proofs.lemmas.List.Edits.{drop-paste}
use Rattle.std.proofs.lemmas.List.{drop-drop, get_or_past, take-replicate}
use Rattle.std.proofs.lemmas.Bool.{both_ways, cases_lt}
use lib.Seq.{paste}
use Rattle.lines.specs.declared.rows.Line.{Line}
use Rattle.stores.specs.declared.faults.StoreFault.{StoreFault}
use Rattle.stores.specs.declared.marks.Marks.{Marks}
use Rattle.stores.specs.Chunks.{is_out, Free}
use Rattle.stores.specs.Choices.{MarksTook, marks_taken, marks_given}
use Rattle.stores.specs.Refusals.{refusal, row_refusal}
use Rattle.stores.specs.Stores.{Store, taken, given_back, written}
use Rattle.stores.specs.Views.{out_of, view}
use Rattle.stores.proofs.Refusing.{row_accepted}
use Rattle.stores.proofs.Viewing.{view_given}

free_below : (n : ℕ) (m : Marks) (c : ℕ) → Free (out_of n m) c → c < n
free_below n m c f = let e = length-take n m.out in omega (arith, f.0)

-- a chunk that is out is one of so many
pub out_below : (n : ℕ) (m : Marks) (c : ℕ) → is_out (out_of n m) c ≡ true → c < n
out_below n m c e = ⊎_elim
    (λ (h : c < n). h)
    (λ (h : n ≤ c). absurd (both_ways (is_out (out_of n m) c) (get_or_past (out_of n m) c false (let l = length-take n m.out in omega arith)) e))
    (cases_lt c n)

take_set_at : {X : Type 0} (n : ℕ) (xs : List X) (c : ℕ) (x : X) → take n (set xs c x) ≡ set (take n xs) c x
take_set_at zero xs c x = refl
take_set_at (suc n) [] c x = refl
take_set_at (suc n) (y ∷ xs) zero x = refl
take_set_at (suc n) (y ∷ xs) (suc c) x = ap (λ r. y ∷ r) (take_set_at n xs c x)

pub out_taken : (n : ℕ) (m : Marks) (c : ℕ) → out_of n (marks_taken m c) ≡ set (out_of n m) c true
out_taken n m c = take_set_at n m.out c true

pub out_new : (n : ℕ) (m : Marks) → m.out ≡ replicate 256 false → n ≤ 256 → out_of n m ≡ replicate n false
out_new n m new few = ap (take n) new ∙ take-replicate n 256 false few

-- what giving back does to the marks, where it is accepted
pub view_marks_given :
    (rows n : ℕ) (at : ℕ → Line) (m m' : Marks) (c : ℕ) (b : Bool) → m' ≡ cond b (marks_given m c) m →
    view rows (out_of n m') at ≡ cond b (given_back (view rows (out_of n m) at) c) (view rows (out_of n m) at)
view_marks_given rows n at m m' c true marks =
    ap (λ k. view rows (out_of n k) at) marks ∙ ap (λ out. view rows out at) (take_set_at n m.out c false) ∙ view_given rows (out_of n m) at c
view_marks_given rows n at m m' c false marks = ap (λ k. view rows (out_of n k) at) marks

-- memory of some kind, that has room for so many chunks and shows a line at each place
module _ {X : Type 0} (rows : ℕ) (count : X → ℕ) (at : X → ℕ → Line) where
  abbrev seen : Marks → X → Store
  seen m mem = view rows (out_of (count mem) m) (at mem)

  pub take_means :
      (cleared : X → ℕ → X) (m m' : Marks) (mem mem' : X) (r : Result ℕ StoreFault) →
      ((c : ℕ) → c < count mem → seen (marks_taken m c) (cleared mem c) ≡ taken (seen m mem) c) →
      MarksTook (out_of (count mem) m) m r m' →
      MatchResult r (λ c. mem' ≡ cleared mem c) (λ _. mem' ≡ mem) →
      MatchResult r (λ c. Free (out_of (count mem) m) c × (seen m' mem' ≡ taken (seen m mem) c)) (λ _. seen m' mem' ≡ seen m mem)
  take_means cleared m m' mem mem' (Ok c) meant marks memory = (marks.0, ap₂ seen marks.2 memory ∙ meant c (free_below (count mem) m c marks.0))
  take_means cleared m m' mem mem' (Err e) meant marks memory = ap₂ seen marks memory

  pub give_back_means :
      (m m' : Marks) (mem mem' : X) (c : ℕ) (b : Bool) → m' ≡ cond b (marks_given m c) m → mem' ≡ mem →
      seen m' mem' ≡ cond b (given_back (seen m mem) c) (seen m mem)
  give_back_means m m' mem mem' c b marks memory = ap (seen m') memory ∙ view_marks_given rows (count mem) (at mem) m m' c b marks

  pub write_means :
      {A : Type 0} (replaced : X) (m m' : Marks) (mem mem' : X) (c row : ℕ) (l : Line) (r : Result A StoreFault) →
      (c < count mem → is_out (out_of (count mem) m) c ≡ true → row < rows → seen m replaced ≡ written (seen m mem) c row l) →
      refusal r ≡ row_refusal rows (out_of (count mem) m) c row → m' ≡ m → mem' ≡ cond (is_ok r) replaced mem →
      seen m' mem' ≡ cond (is_ok r) (written (seen m mem) c row l) (seen m mem)
  write_means replaced m m' mem mem' c row l (Ok x) meant said marks memory =
      let met = row_accepted rows (out_of (count mem) m) c row (sym said) in
      ap₂ seen marks memory ∙ meant (out_below (count mem) m c met.0) met.0 met.1
  write_means replaced m m' mem mem' c row l (Err e) meant said marks memory = ap₂ seen marks memory

  -- memory that no chunk has stays as it is
  pub take_beyond :
      {Y : Type 0} (beyond : X → Y) (cleared : X → ℕ → X) (m m' : Marks) (mem mem' : X) (r : Result ℕ StoreFault) →
      ((c : ℕ) → c < count mem → beyond (cleared mem c) ≡ beyond mem) →
      MarksTook (out_of (count mem) m) m r m' →
      MatchResult r (λ c. mem' ≡ cleared mem c) (λ _. mem' ≡ mem) →
      beyond mem' ≡ beyond mem
  take_beyond beyond cleared m m' mem mem' (Ok c) stays marks memory = ap beyond memory ∙ stays c (free_below (count mem) m c marks.0)
  take_beyond beyond cleared m m' mem mem' (Err e) stays marks memory = ap beyond memory

  pub write_beyond :
      {A Y : Type 0} (beyond : X → Y) (replaced : X) (m : Marks) (mem mem' : X) (c row : ℕ) (r : Result A StoreFault) →
      (c < count mem → row < rows → beyond replaced ≡ beyond mem) →
      refusal r ≡ row_refusal rows (out_of (count mem) m) c row → mem' ≡ cond (is_ok r) replaced mem →
      beyond mem' ≡ beyond mem
  write_beyond beyond replaced m mem mem' c row (Ok x) stays said memory =
      let met = row_accepted rows (out_of (count mem) m) c row (sym said) in
      ap beyond memory ∙ stays (out_below (count mem) m c met.0) met.1
  write_beyond beyond replaced m mem mem' c row (Err e) stays said memory = ap beyond memory

-- what lies past a part that was written over
pub drop_past : {A : Type 0} (xs ys : List A) (a n k : ℕ) → a + n ≤ length xs → n ≤ length ys → a + n ≤ k → drop k (paste xs a ys n) ≡ drop k xs
drop_past {A = A} xs ys a n k h e past =
    let i : ℕ = k - (a + n) in
    let at : a + n + i ≡ k = omega arith in
    let cut : (zs : List A) → drop k zs ≡ drop i (drop (a + n) zs) = λ zs. ap (λ m. drop m zs) (sym at) ∙ sym (drop-drop i (a + n) zs) in
    cut (paste xs a ys n) ∙ ap (drop i) (drop-paste xs a ys n (omega arith) e) ∙ sym (cut xs)
