-- The numbers of the mix and table families have 32 bits.
use Rattle.std.specs.Prelude.{ℕ, zero, suc, ◌*◌, ◌^◌, ◌<◌}
use Rattle.std.proofs.Common.{arith, lit<}
use Rattle.std.proofs.lemmas.Nat.{xor_lt}
use Rattle.families.specs.Words.{xor_left, xor_right, xorshift}
use Rattle.families.specs.Mixes.{mix_number}
use Rattle.families.specs.Tables.{table_at, joined, table_number}
use Rattle.families.specs.Knowing.{where_known_small}
use Rattle.families.specs.Rotations.{rotl_small}

pub mix_number_small : (w c : ℕ) → mix_number w c < 2 ^ 32
mix_number_small w c = where_known_small w c _ (λ h. rotl_small 16 _ (omega arith) (omega arith))

step_small : (x : ℕ) → x < 2 ^ 32 → xorshift x < 2 ^ 32
step_small x h =
    let a : xor_left 13 x < 2 ^ 32 = xor_lt 32 _ _ h (omega arith) in
    let b : xor_right 17 (xor_left 13 x) < 2 ^ 32 = xor_lt 32 _ _ a (omega arith) in
    xor_lt 32 _ _ b (omega arith)

table_small : (k : ℕ) → table_at k < 2 ^ 32
unfolding table_at
table_small zero = lit< tt
table_small (suc k) = step_small (table_at k) (table_small k)

joined_small : (c k : ℕ) → joined c k < 2 ^ 32
unfolding joined
joined_small c zero = lit< tt
joined_small c (suc k) = xor_lt 32 _ _ (joined_small c k) (table_small _)

pub table_number_small : (w c : ℕ) → table_number w c < 2 ^ 32
table_number_small w c = where_known_small w c _ (λ h. rotl_small (11 * w) _ (omega arith) (joined_small c 5))
