-- Portions of usage lines that are reversals: their own amount is below 0.
use Rattle.std.specs.Prelude.{pos, Bool, List, filter, int_lt}
use Rattle.payee_portions.specs.Portions.{Portion}

abbrev pub is_reversal : Portion → Bool
is_reversal portion = int_lt portion.line.amount (pos 0)

abbrev pub reversals_of : List Portion → List Portion
reversals_of portions = filter is_reversal portions
