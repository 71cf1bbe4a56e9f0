-- A row of a chunk just taken.
use Rattle.std.proofs.Common.{◌≡◌, ℕ, ◌<◌, Bool, true, false, List, [], set, ◌∙◌, arith, get_or-set_same}
use Rattle.std.proofs.lemmas.Bool.Decides.{nat_tests}
use Rattle.std.proofs.lemmas.Nat.{pow_pos}
use Rattle.stores.specs.Chunks.{Free, is_out}
use Rattle.stores.specs.declared.faults.StoreFault.{StoreFault}
use Rattle.stores.specs.Refusals.{row_refusal, told}
use Rattle.stores.specs.Stores.{RowsPerChunk}
use Rattle.stores.proofs.Choosing.{some_free}
use Rattle.stores.proofs.Refusing.{some_told}
use Rattle.round_trip.specs.Trips.{trip_refusal}

-- it is refused as that of a chunk yet to be taken
pub row_taken : (rows : ℕ) (out : List Bool) (c r : ℕ) → Free out c → row_refusal rows (set out c true) c r ≡ trip_refusal rows out r
row_taken rows out c r f =
    let here : is_out (set out c true) c ≡ true = get_or-set_same out c true false f.0 in
    let some = some_free out c f in
    grind (arith, nat_tests)

-- a row that it has is not refused
pub row_there : (rows : ℕ) (out : List Bool) (c r : ℕ) → RowsPerChunk rows → Free out c → (0 < rows → r < rows) → row_refusal rows (set out c true) c r ≡ []
row_there rows out c r power f there =
    let here : is_out (set out c true) c ≡ true = get_or-set_same out c true false f.0 in
    let within : r < rows = there (omega (arith, pow_pos power.0, power.2)) in
    grind (arith, nat_tests)

-- so no refusal of it is told
pub none_told : (rows : ℕ) (out : List Bool) (c r : ℕ) (e : StoreFault) → RowsPerChunk rows → Free out c → told e ≡ row_refusal rows (set out c true) c r → (0 < rows → r < rows) → ⊥
none_told rows out c r e power f said there = some_told e (said ∙ row_there rows out c r power f there)
