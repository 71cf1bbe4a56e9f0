-- What is done to numbers of 32 bits.
use Rattle.std.specs.Prelude.{ℕ, ◌+◌, ◌-◌, ◌*◌, ◌/◌, ◌%◌, ◌^◌, bit_xor}

-- 32 bits rotated left by k: those that leave at the top come in at the bottom
unfoldable pub rotl : ℕ → ℕ → ℕ
rotl k x = (x * 2 ^ k) % 2 ^ 32 + x / 2 ^ (32 - k)

-- 32 bits, xor themselves shifted left by k
abbrev pub xor_left : ℕ → ℕ → ℕ
xor_left k x = bit_xor x ((x * 2 ^ k) % 2 ^ 32)

-- 32 bits, xor themselves shifted right by k
abbrev pub xor_right : ℕ → ℕ → ℕ
xor_right k x = bit_xor x (x / 2 ^ k)

-- the xorshift step: left by 13, then right by 17, then left by 5
abbrev pub xorshift : ℕ → ℕ
xorshift x = xor_left 5 (xor_right 17 (xor_left 13 x))

-- byte j of a number, counted from the lowest
abbrev pub byte_of : ℕ → ℕ → ℕ
byte_of c j = c / 2 ^ (8 * j) % 256
