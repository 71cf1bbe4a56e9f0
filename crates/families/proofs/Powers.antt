-- Powers of eight are powers of two.
use Rattle.std.proofs.Common.{◌≡◌, ℕ, zero, suc, ◌*◌, ◌^◌, refl, ap, pow-suc, mul-suc}
use Rattle.std.proofs.lemmas.Nat.{pow-add}

pub eight_pow : (w : ℕ) → 2 ^ (3 * w) ≡ 8 ^ w
eight_pow zero = refl
eight_pow (suc w) = rw (mul-suc 3 w, pow-add 2 (3 * w) 3, pow-suc 8 w) (ap (λ n. n * 8) (eight_pow w))
