-- Rows of the table of usage lines below its header, or some of them. The first counts as 1.
use Rattle.std.specs.Prelude.{ℕ, ◌≡◌, ◌≤◌, ◌<◌, ◌+◌, List}
use Rattle.csv_table.specs.RowTable as tables
use Rattle.line_split.specs.UsageLine.{UsageLine}
use Rattle.line_split.specs.UsageTable.{usage_rules}
use Rattle.line_split.specs.declared.TheConstants.{MOST_LINES}
use Rattle.line_split.specs.declared.line_fault.LineFault.{LineFault}
use Rattle.line_split.specs.declared.line_fault.LineFault.TheVariants.{Csv, Fields, Territory, Right, Amount, Lines, Memory}

-- they are these lines
abbrev pub AreLinesOf : List (List (List ℕ)) → List UsageLine → Type 0
AreLinesOf = tables.AreItems usage_rules

-- what they are refused for: memory, or else the first row that is no line
abbrev pub IsFaultIn : List (List (List ℕ)) → LineFault → Type 0
IsFaultIn = tables.IsFaultIn usage_rules

-- a fault of a row, by its number, where so many rows stand before the first
abbrev pub IsMoved : ℕ → ℕ → (ℕ → LineFault) → LineFault → Type 0
IsMoved rows row fault moved = (rows + row ≤ MOST_LINES → moved ≡ fault (rows + row)) × (MOST_LINES < rows + row → moved ≡ Lines)

-- the fault of the whole
abbrev pub IsBehind : ℕ → LineFault → LineFault → Type 0
IsBehind rows (Csv row) moved = IsMoved rows row Csv moved
IsBehind rows (Fields row) moved = IsMoved rows row Fields moved
IsBehind rows (Territory row) moved = IsMoved rows row Territory moved
IsBehind rows (Right row) moved = IsMoved rows row Right moved
IsBehind rows (Amount row) moved = IsMoved rows row Amount moved
IsBehind rows Lines moved = moved ≡ Lines
IsBehind rows Memory moved = moved ≡ Memory
