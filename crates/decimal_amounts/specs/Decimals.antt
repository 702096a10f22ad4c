-- Amounts as decimal numbers in text: maybe a `-`, then digits, and maybe a mark with decimals behind it. Before a mark
-- the digits may be left out, or stand in groups of three; without one they may not, since `1,234` is 1234 to some and
-- 1.234 to others.
use Rattle.std.specs.Prelude.{ℕ, ℤ, pos, neg_ℤ, ◌≡◌, ◌≤◌, ◌<◌, ◌-◌, ◌%◌, ◌⊎◌, ◌++◌, ◌∷◌, ◌&&◌, Bool, List, [], All}
use Rattle.std.specs.Prelude.{length, nat_le, slice_index, if◌then◌else◌}
use Rattle.std.specs.List.{filter}
use Rattle.std.specs.Str.Parse.{digits_value}
use Rattle.csv_table.specs.Forms.{has_minus, without_minus}
use Rattle.line_split.specs.declared.TheConstants.{MOST_AMOUNT}
use Rattle.decimal_amounts.specs.declared.amount.AmountFault.{AmountFault}
use Rattle.decimal_amounts.specs.declared.amount.AmountFault.TheVariants.{Long, Form, Fine, Large}
use Rattle.decimal_amounts.specs.declared.amount.Mark.{Mark}
use Rattle.decimal_amounts.specs.declared.amount.Mark.TheVariants.{Point, Comma}
use Rattle.decimal_amounts.specs.Scaled.{IsWorth}

-- ---- digits, and the bytes between them

abbrev pub IsDigit : ℕ → Type 0
IsDigit byte = (48 ≤ byte) × (byte ≤ 57)

abbrev pub is_digit : ℕ → Bool
is_digit byte = nat_le 48 byte && nat_le byte 57

-- the byte before the decimals, and the one between groups of three digits
abbrev pub mark_byte : Mark → ℕ
mark_byte Point = 46
mark_byte Comma = 44

abbrev pub group_byte : Mark → ℕ
group_byte Point = 44
group_byte Comma = 46

-- digits alone
abbrev pub ArePlain : List ℕ → Type 0
ArePlain text = All IsDigit text

-- the byte at a place of a text in groups: counted from the last, which is the first, each fourth stands between two
abbrev pub IsInGroups : (group count place byte : ℕ) → Type 0
IsInGroups group count place byte =
    ((count - place) % 4 ≡ 0 → byte ≡ group) × (¬ ((count - place) % 4 ≡ 0) → IsDigit byte)

-- digits in more groups than one, of three each but for the first, which has one to three
pub record AreGrouped (group : ℕ) (text : List ℕ) : Type 0 where
  pub some : 3 < length text
  pub first : ¬ (length text % 4 ≡ 0)
  pub each : (place : ℕ) → place < length text → IsInGroups group (length text) place (slice_index text place)

abbrev pub IsWhole : (group : ℕ) → List ℕ → Type 0
IsWhole group text = ArePlain text ⊎ AreGrouped group text

-- ---- numbers without a sign

-- what stands before the mark, and the decimals behind it
pub record IsNumber (mark : Mark) (text whole decimals : List ℕ) : Type 0 where
  pub some : 0 < length text
  pub form : ((text ≡ whole) × (decimals ≡ []) × ArePlain whole)
      ⊎ ((text ≡ whole ++ mark_byte mark ∷ decimals) × (0 < length decimals) × IsWhole (group_byte mark) whole)
  pub plain : ArePlain decimals

-- what all its digits write, as if there were no mark
abbrev pub value_of : List ℕ → ℕ
value_of text = digits_value 10 (filter is_digit text)

-- ---- amounts

-- A number without its sign writes so many units of 10 ^ -places, exactly.
pub record IsSize (mark : Mark) (text : List ℕ) (places size : ℕ) : Type 0 where
  pub whole : List ℕ
  pub decimals : List ℕ
  pub number : IsNumber mark text whole decimals
  pub worth : IsWorth (value_of text) (length decimals) places size
  pub small : size ≤ MOST_AMOUNT

-- a text writes an amount: its sign and its size
abbrev pub IsAmount : Mark → (text : List ℕ) → (places : ℕ) → ℤ → Type 0
IsAmount mark text places amount = (length text ≤ 38) × (size : ℕ) × IsSize mark (without_minus text) places size
    × (amount ≡ (if has_minus text then neg_ℤ (pos size) else pos size))

-- a number, which so many decimals are of
abbrev pub HasDecimals : Mark → List ℕ → (count : ℕ) → Type 0
HasDecimals mark text count =
    (whole : List ℕ) × (decimals : List ℕ) × IsNumber mark text whole decimals × (length decimals ≡ count)

-- why a text without its sign has no size
abbrev pub HasNoSize : Mark → List ℕ → (places : ℕ) → AmountFault → Type 0
HasNoSize mark text places Long = ⊥
HasNoSize mark text places Form = (count : ℕ) → ¬ HasDecimals mark text count
HasNoSize mark text places Fine =
    (count : ℕ) × HasDecimals mark text count × ((units : ℕ) → ¬ IsWorth (value_of text) count places units)
HasNoSize mark text places Large = (count : ℕ) × (units : ℕ) × HasDecimals mark text count
    × IsWorth (value_of text) count places units × (MOST_AMOUNT < units)

-- why a text is no amount
abbrev pub IsFaultOf : Mark → List ℕ → (places : ℕ) → AmountFault → Type 0
IsFaultOf mark text places fault = ((38 < length text) × (fault ≡ Long))
    ⊎ ((length text ≤ 38) × HasNoSize mark (without_minus text) places fault)

-- ---- laws

-- a text has one amount
abbrev pub AmountsAreOne : Type 0
AmountsAreOne = (mark : Mark) (text : List ℕ) (places : ℕ) (amount other : ℤ)
    → IsAmount mark text places amount → IsAmount mark text places other → amount ≡ other
