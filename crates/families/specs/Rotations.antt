-- Rotations of 32 bits: what the machine's gives, and that it keeps to 32 bits.
use Rattle.std.specs.Prelude.{◌≡◌, ℕ, zero, suc, ◌+◌, ◌-◌, ◌*◌, ◌/◌, ◌%◌, ◌^◌, ◌<◌, ◌≤◌, bit_or}
use Rattle.std.proofs.Common.{sym, ap, subst, ◌∙◌, arith}
use Rattle.std.proofs.Math.Nat.{mul-mod_left}
use Rattle.std.specs.Int.Bits.{or_self}
use Rattle.std.proofs.lemmas.Nat.{mod-pow-add, shl-shr, shr_below, or_shifted, mul-add-lt, pow-add, pow_pos, mod_below}
use Rattle.families.specs.Words.{rotl}

-- of 32 bits shifted left by k, the lower 32 - k stay
stays : (k x : ℕ) → k ≤ 32 → (x * 2 ^ k) % 2 ^ 32 ≡ (x % 2 ^ (32 - k)) * 2 ^ k
stays k x h =
    let e : 32 - k + k ≡ 32 = omega arith in
    subst (λ n. (x * 2 ^ k) % 2 ^ n ≡ (x % 2 ^ (32 - k)) * 2 ^ k) e
    (mod-pow-add (x * 2 ^ k) (32 - k) k ∙ rw (shl-shr x k, mul-mod_left x (2 ^ k)) (omega arith))

-- and the upper k leave
leaves : (k x : ℕ) → k ≤ 32 → x < 2 ^ 32 → x / 2 ^ (32 - k) < 2 ^ k
leaves k x h s = let e : 32 ≡ k + (32 - k) = omega arith in shr_below x k (32 - k) (subst (λ n. x < 2 ^ n) e s)

pub rotl_small : (k x : ℕ) → k ≤ 32 → x < 2 ^ 32 → rotl k x < 2 ^ 32
unfolding rotl
rotl_small k x h s =
    let e : k + (32 - k) ≡ 32 = omega arith in
    let whole : 2 ^ k * 2 ^ (32 - k) ≡ 2 ^ 32 = sym (pow-add 2 k (32 - k)) ∙ ap (λ n. 2 ^ n) e in
    let low : x % 2 ^ (32 - k) < 2 ^ (32 - k) = mod_below x (2 ^ (32 - k)) (pow_pos (32 - k)) in
    omega (arith, whole, stays k x h, mul-add-lt (x % 2 ^ (32 - k)) (2 ^ k) (x / 2 ^ (32 - k)) (2 ^ (32 - k)) low (leaves k x h s))

-- what `rotate_left` gives
pub rotated : (k x : ℕ) → k < 32 → x < 2 ^ 32 → bit_or ((x * 2 ^ (k % 32)) % 2 ^ 32) (x / 2 ^ ((32 - k % 32) % 32)) ≡ rotl k x
unfolding rotl
rotated zero x h s =
    let e : x * 1 % 2 ^ 32 ≡ x = omega arith in
    let f : x / 1 ≡ x = omega arith in
    rw (e, f) (or_self x ∙ omega arith)
rotated (suc m) x h s =
    let k : ℕ = suc m in
    let e : k % 32 ≡ k = omega arith in
    let f : (32 - k) % 32 ≡ 32 - k = omega arith in
    rw (e, f, stays k x (omega arith)) (or_shifted (x % 2 ^ (32 - k)) k (x / 2 ^ (32 - k)) (leaves k x (omega arith) s))
