-- What it means that a call was accepted, and that a refusal is told.
use Rattle.std.proofs.Common.{◌≡◌, ℕ, suc, ◌<◌, Bool, true, false, cond, ltb, List, [], ◌∷◌, length, refl, ap, arith}
use Rattle.std.proofs.lemmas.Bool.{ltb-true}
use Rattle.stores.specs.Chunks.{is_out}
use Rattle.stores.specs.declared.faults.StoreFault.{StoreFault}
use Rattle.stores.specs.declared.faults.StoreFault.TheVariants.{TooFewFree, NoneFree, NotOut, NoSuchRow}
use Rattle.stores.specs.Refusals.{row_refusal, told}

-- an accepted call passed its test
passed : (b : Bool) (x : ℕ) (xs : List ℕ) → cond b [] (x ∷ xs) ≡ [] → b ≡ true
passed true x xs e = refl
passed false x xs e = let n : suc (length xs) ≡ 0 = ap length e in absurd (omega arith)

both_passed : (a b : Bool) (x y : ℕ) → cond a (cond b [] (y ∷ [])) (x ∷ []) ≡ [] → (a ≡ true) × (b ≡ true)
both_passed true b x y e = (refl, passed b y [] e)
both_passed false b x y e = let n : ◌≡◌ {A = ℕ} 1 0 = ap length e in absurd (omega arith)

pub row_accepted : (rows : ℕ) (out : List Bool) (c r : ℕ) → row_refusal rows out c r ≡ [] → (is_out out c ≡ true) × (r < rows)
row_accepted rows out c r e = let b = both_passed (is_out out c) (ltb r rows) 17 18 e in (b.0, ltb-true r rows b.1)

-- a refusal is told
pub some_told : (e : StoreFault) → told e ≡ [] → ⊥
some_told (TooFewFree needed free) h = cc
some_told NoneFree h = cc
some_told NotOut h = cc
some_told NoSuchRow h = cc
