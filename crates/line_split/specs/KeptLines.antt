-- Usage lines as they are kept: what their uses are called in one list, and the rest in another.
use Rattle.std.specs.Prelude.{ℕ, List, map, zip}
use Rattle.line_split.specs.UsageLine.{UsageLine}
use Rattle.line_split.specs.declared.usage.UsageDetail.{UsageDetail}

-- a line of its two parts
abbrev pub line_with : List ℕ → UsageDetail → UsageLine
line_with name detail = record {
  usage = name;
  work = detail.work;
  territory = detail.territory;
  right = detail.right;
  amount = detail.amount;
}

-- the lines of two such lists
abbrev pub lines_of : List (List ℕ) → List UsageDetail → List UsageLine
lines_of names details = map (λ line. line_with line.0 line.1) (zip names details)
