-- The numbers of the table family.
use Rattle.std.specs.Prelude.{ℕ, zero, suc, ◌+◌, ◌*◌, bit_xor}
use Rattle.families.specs.Known.{where_known}
use Rattle.families.specs.Words.{rotl, xorshift, byte_of}

-- the table: it begins with 1, and each next number is the xorshift step of the one before
unfoldable pub table_at : ℕ → ℕ
table_at zero = 1
table_at (suc k) = xorshift (table_at k)

-- the number that byte j of a cluster chooses: each byte has 256 of its own
abbrev pub chosen : ℕ → ℕ → ℕ
chosen c j = table_at (256 * j + byte_of c j)

-- the xor of what the lowest k bytes of a cluster choose
unfoldable pub joined : ℕ → ℕ → ℕ
joined c zero = 0
joined c (suc j) = bit_xor (joined c j) (chosen c j)

-- the xor of what the five bytes of a cluster choose, rotated by 11 bits more in each next way
abbrev pub table_number : ℕ → ℕ → ℕ
table_number w c = where_known w c (rotl (11 * w) (joined c 5))
