-- Amounts and counts, as people read them.
use Rattle.std.specs.Prelude.{ℕ, ℤ, pos, negsuc, zero, suc, ◌+◌, ◌/◌, ◌%◌, ◌^◌, ◌==◌, ◌&&◌, ◌++◌, ◌∷◌, [], Bool, List}
use Rattle.std.specs.Prelude.{codes, decimal, filter, if◌then◌else◌, length, nat_le, nat_lt}
use Rattle.std.specs.Str.Parse.{digits_value}

-- U+2212, the minus sign, and U+202F, a narrow space at which no line breaks
abbrev pub minus : List ℕ
minus = 0xE2 ∷ 0x88 ∷ 0x92 ∷ []

abbrev pub narrow_space : List ℕ
narrow_space = 0xE2 ∷ 0x80 ∷ 0xAF ∷ []

-- digits in groups of three, counted from the right
unfoldable pub grouped : List ℕ → List ℕ
grouped [] = []
grouped (digit ∷ rest) =
    (if (length rest % 3 == 0) && nat_lt 0 (length rest) then digit ∷ narrow_space else digit ∷ []) ++ grouped rest

-- the last digits of a number, as many as are counted
unfoldable pub last_digits : ℕ → ℕ → List ℕ
last_digits zero n = []
last_digits (suc count) n = last_digits count (n / 10) ++ (48 + n % 10) ∷ []

abbrev pub count_text : ℕ → List ℕ
count_text n = grouped (decimal n)

-- minor units, of which a unit has ten to the power of `decimals`, without their sign
abbrev pub size_text : (decimals : ℕ) → ℕ → List ℕ
size_text decimals size =
    count_text (size / 10 ^ decimals) ++ (if nat_lt 0 decimals then codes "." ++ last_digits decimals size else [])

-- with its sign
abbrev pub amount_text : (decimals : ℕ) → ℤ → List ℕ
amount_text decimals (pos n) = size_text decimals n
amount_text decimals (negsuc n) = minus ++ size_text decimals (suc n)

-- What a reader makes of it: a digit counts, whatever stands between it and the next.
abbrev pub is_digit : ℕ → Bool
is_digit byte = nat_le 48 byte && nat_le byte 57

abbrev pub number_in : List ℕ → ℕ
number_in text = digits_value 10 (filter is_digit text)
