-- Usage lines that are the same as an earlier one.
use Rattle.std.specs.Prelude.{ℕ, ◌&&◌, Bool, true, false, List, nat_eq}
use Rattle.std.specs.List.{list_any}
use Rattle.std.specs.Ordering.{int_eq}
use Rattle.std.specs.Cmp.Lexicographic.{pointwise}
use Rattle.cwr_share.specs.PassedOver.{numbers_of}
use Rattle.line_split.specs.UsageLine.{UsageLine}
use Rattle.line_split.specs.declared.usage.Right.{Right}
use Rattle.line_split.specs.declared.usage.Right.TheVariants.{P, M, S}

abbrev pub is_same_right : Right → Right → Bool
is_same_right P P = true
is_same_right M M = true
is_same_right S S = true
is_same_right _ _ = false

-- all five fields are the same
abbrev pub is_same_line : UsageLine → UsageLine → Bool
is_same_line line other =
    pointwise nat_eq line.usage other.usage && pointwise nat_eq line.work other.work
    && nat_eq line.territory other.territory && is_same_right line.right other.right
    && int_eq line.amount other.amount

-- a line before it is the same
abbrev pub is_repeated : List UsageLine → UsageLine → Bool
is_repeated before line = list_any (is_same_line line) before

-- the rows of a usage list whose line is the same as that of an earlier row, counted below the header
abbrev pub repeated_rows : List UsageLine → List ℕ
repeated_rows lines = numbers_of is_repeated lines
