-- The numbers of the mix family.
use Rattle.std.specs.Prelude.{ℕ, ◌+◌, ◌*◌, ◌/◌, ◌%◌, ◌^◌, [], ◌∷◌, slice_index}
use Rattle.families.specs.Known.{where_known}
use Rattle.families.specs.Words.{rotl}

-- the cluster's low 32 bits, with those above folded in
abbrev pub folded : ℕ → ℕ
folded c = (c % 2 ^ 32 + c / 2 ^ 32 * 0x9E3779B9) % 2 ^ 32

-- what ways 0, 1 and 2 multiply by
abbrev pub multiplier : ℕ → ℕ
multiplier w = slice_index (0x9E3779B1 ∷ 0x85EBCA6B ∷ 0xC2B2AE35 ∷ []) w

-- the product's 32 bits, rotated by half a word
abbrev pub mix_number : ℕ → ℕ → ℕ
mix_number w c = where_known w c (rotl 16 (folded c * multiplier w % 2 ^ 32))
