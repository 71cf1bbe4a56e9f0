-- What number a field writes, and which three numbers a line has.
use Rattle.std.specs.Prelude.{ℕ, ◌+◌, ◌-◌, ◌*◌, ◌^◌, Bool, true, cond, ◌&&◌, List, [], ◌∷◌, length, Some, None, Option, nat_le}
use Rattle.reading.specs.Parts.{fields_of}

-- whether a byte is one of the ASCII digits
abbrev pub is_digit : ℕ → Bool
is_digit b = nat_le 48 b && nat_le b 57

-- the value of a digit
abbrev pub digit_of : ℕ → Option ℕ
digit_of b = cond (is_digit b) (Some (b - 48)) None

-- whether all bytes are digits
abbrev pub all_digits : List ℕ → Bool
all_digits [] = true
all_digits (b ∷ bs) = is_digit b && all_digits bs

-- the value of digits, the first being the highest
abbrev pub value_of : List ℕ → ℕ
value_of [] = 0
value_of (b ∷ bs) = (b - 48) * 10 ^ length bs + value_of bs

-- whether a field writes a number: 1 to 15 digits
abbrev pub is_number : List ℕ → Bool
is_number field = nat_le 1 (length field) && nat_le (length field) 15 && all_digits field

-- the number that a field writes
abbrev pub number_of : List ℕ → Option ℕ
number_of field = cond (is_number field) (Some (value_of field)) None

-- three numbers, where each is there
abbrev pub together : Option ℕ → Option ℕ → Option ℕ → Option (ℕ × ℕ × ℕ)
together None b c = None
together (Some a) None c = None
together (Some a) (Some b) None = None
together (Some a) (Some b) (Some c) = Some (a, b, c)

-- the numbers of just three fields
abbrev pub three_in : List (List ℕ) → Option (ℕ × ℕ × ℕ)
three_in [] = None
three_in (a ∷ []) = None
three_in (a ∷ b ∷ []) = None
three_in (a ∷ b ∷ c ∷ []) = together (number_of a) (number_of b) (number_of c)
three_in (a ∷ b ∷ c ∷ d ∷ more) = None

-- the three numbers of a line that has just three fields
abbrev pub three_of : List ℕ → Option (ℕ × ℕ × ℕ)
three_of line = three_in (fields_of line)
