-- What has 32 bits where it is known has 32 bits everywhere.
use Rattle.std.specs.Prelude.{◌≡◌, ℕ, ◌^◌, ◌<◌, true, nat_lt}
use Rattle.std.proofs.Common.{lit<}
use Rattle.std.proofs.lemmas.Bool.{and_parts, ltb-true, cond_both}
use Rattle.families.specs.Known.{known, where_known}

known_way : (w c : ℕ) → known w c ≡ true → w < 3
known_way w c e = ltb-true w 3 (and_parts (nat_lt w 3) (nat_lt c (2 ^ 33)) e).0

pub where_known_small : (w c n : ℕ) → (w < 3 → n < 2 ^ 32) → where_known w c n < 2 ^ 32
where_known_small w c n h = cond_both (known w c) n 0 (λ m. m < 2 ^ 32) (λ e. h (known_way w c e)) (λ e. lit< tt)
