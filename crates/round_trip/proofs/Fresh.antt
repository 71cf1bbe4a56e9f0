-- A store all of whose chunks are free.
use Rattle.std.proofs.Common.{◌≡◌, ℕ, zero, suc, Bool, true, false, cond, ltb, List, length, replicate, refl, ap, ◌∙◌, ap₂, arith}
use Rattle.std.proofs.lemmas.List.Sums.{sum_by-cons}
use Rattle.stores.specs.Chunks.{free_count}
use Rattle.stores.specs.Choices.{chosen}

free_count-replicate : (n : ℕ) → free_count (replicate n false) ≡ n
free_count-replicate zero = refl
free_count-replicate (suc n) = let e = free_count-replicate n in rw sum_by-cons (omega arith)

either : (b : Bool) → cond {A = ℕ} b 0 0 ≡ 0
either true = refl
either false = refl

first_chosen : (n : ℕ) → chosen (replicate n false) 0 ≡ 0
first_chosen zero = refl
first_chosen (suc n) = either (ltb 0 (length (replicate (suc n) false)))

-- what follows from how many chunks are free, which is taken and what the memory holds, in a new store
pub fresh : {X Y : Type 0} (F : ℕ → ℕ → X → Y) (out : List Bool) (mark n : ℕ) (mem lent : X) → out ≡ replicate n false → mark ≡ 0 → mem ≡ lent → F (free_count out) (chosen out mark) mem ≡ F n 0 lent
fresh F out mark n mem lent free start same =
    let count = ap free_count free ∙ free_count-replicate n in
    let which = ap₂ chosen free start ∙ first_chosen n in
    ap₂ (λ k m. F k (chosen out mark) m) count same ∙ ap (λ c. F n c lent) which
