-- What holds of each element of an array that a closure made.
use Rattle.std.proofs.Common.{◌≡◌, ℕ, zero, suc, ◌+◌, ◌<◌, ◌≤◌, List, get_or, refl, sym, subst, arith}
use Rattle.std.proofs.Math.Decide.{dec_le}
use denote.Param.Members.{Mut}
use Rattle.std.specs.Array.{IsFromFnResultFrom, IsFromFnResult}
use Rattle.std.specs.Fn.{Called}

made_from : {F B : Type 0} (g : Mut F (ℕ × Unit {0}) B) (P : ℕ → B → Type 0) (f : F) (top : ℕ) → ((i : ℕ) (y : B) (q : F) → i < top → Called g f (i, tt) y q → P i y × (q ≡ f)) → (ys : List B) (n i : ℕ) (q : F) → q ≡ f → i + n ≤ top → IsFromFnResultFrom g q ys i n → (k : ℕ) (d : B) → i ≤ k → k < i + n → P k (get_or ys k d)
made_from g P f top each ys zero i q e fits made k d low high = absurd (omega arith)
made_from g P f top each ys (suc n) i q e fits (q', y, at, call, rest) k d low high =
    let here = each i y q' (omega arith) (subst (λ x. Called g x (i, tt) y q') e call) in
    elim (dec_le k i) [
      | yes le ↦ let same : k ≡ i = omega arith in subst (λ j. P j (get_or ys j d)) (sym same) (subst (P i) (sym (at.1 d)) here.0)
      | no more ↦ made_from g P f top each ys n (i + 1) q' here.1 (omega arith) rest k d (omega arith) (omega arith)
    ]

-- each element has P, where a call of the closure, which the calls leave as it was, gives P
pub made_by : {F B : Type 0} (g : Mut F (ℕ × Unit {0}) B) (P : ℕ → B → Type 0) (f : F) (ys : List B) (n : ℕ) → ((i : ℕ) (y : B) (q : F) → i < n → Called g f (i, tt) y q → P i y × (q ≡ f)) → IsFromFnResult g f ys n → (k : ℕ) (d : B) → k < n → P k (get_or ys k d)
made_by g P f ys n each made k d h = made_from g P f n each ys n 0 f refl (omega arith) made.each k d (omega arith) (omega arith)
