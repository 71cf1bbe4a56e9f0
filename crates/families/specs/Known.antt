-- The ways and clusters that a family has numbers for.
use Rattle.std.specs.Prelude.{ℕ, ◌^◌, Bool, cond, ◌&&◌, nat_lt}

-- a family has three ways, and clusters of 33 bits
abbrev pub known : ℕ → ℕ → Bool
known w c = nat_lt w 3 && nat_lt c (2 ^ 33)

-- the number n where the way and the cluster are known, and 0 elsewhere
abbrev pub where_known : ℕ → ℕ → ℕ → ℕ
where_known w c n = cond (known w c) n 0
