-- What usage lines come to.
use Rattle.std.specs.Prelude.{ℕ, ℤ, pos, ◌≤◌, ◌*◌, List, filter, int_lt, length, unsigned_abs}
use Rattle.line_split.specs.Signs.{int_sum_by}
use Rattle.line_split.specs.UsageLine.{UsageLine}
use Rattle.line_split.specs.declared.TheConstants.{MOST_AMOUNT, MOST_LINES}
use Rattle.line_split.specs.declared.usage.Right.{Right}
use Rattle.overview_documents.specs.declared.lines.LineSum as kept
use Rattle.payee_portions.specs.Sums.{is_same}

-- a number of lines, and what they come to
pub record LineSum : Type 0 where
  pub lines : ℕ
  pub amount : ℤ

-- as it is kept
abbrev pub sum_shown : kept.LineSum → LineSum
sum_shown sum = record { lines = sum.lines; amount = sum.amount }

abbrev pub line_sum : List UsageLine → LineSum
line_sum usage = record { lines = length usage; amount = int_sum_by (λ line. line.amount) usage }

-- those of a right
abbrev pub lines_for : Right → List UsageLine → List UsageLine
lines_for right usage = filter (λ line. is_same line.right right) usage

-- those that are reversals
abbrev pub reversals_of : List UsageLine → List UsageLine
reversals_of usage = filter (λ line. int_lt line.amount (pos 0)) usage

-- they are of no more lines than there can be
pub record IsOfLines (sum : kept.LineSum) : Type 0 where
  pub lines : sum.lines ≤ MOST_LINES
  pub amount : unsigned_abs sum.amount ≤ MOST_LINES * MOST_AMOUNT
