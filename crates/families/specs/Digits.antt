-- The numbers of the digit family.
use Rattle.std.specs.Prelude.{ℕ, ◌/◌, ◌%◌, ◌^◌}
use Rattle.families.specs.Known.{where_known}

-- the cluster without its lowest w octal digits, to 32 bits
abbrev pub digit_number : ℕ → ℕ → ℕ
digit_number w c = where_known w c (c / 8 ^ w % 2 ^ 32)
