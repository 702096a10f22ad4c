-- What a run is over: how its lines are divided, what they are, and how many accounts there are.
use Rattle.std.specs.Prelude.{ℕ, ℤ, List, length}
use Rattle.line_split.specs.UsageLine.{UsageLine}
use Rattle.split_run.specs.Divisions.{division_by}
use Rattle.split_run.specs.declared.working.Inputs.{Inputs}

-- how these inputs divide a usage line
abbrev pub division_in : Inputs → UsageLine → List (ℕ × ℤ)
division_in inputs = division_by inputs.tis.now inputs.registry.now

-- their usage lines
abbrev pub lines_in : Inputs → List UsageLine
lines_in inputs = inputs.usage.now

-- how many usage lines they have
abbrev pub line_count : Inputs → ℕ
line_count inputs = length inputs.usage.now

-- how many accounts they have, the residue's included
abbrev pub account_count : Inputs → ℕ
account_count inputs = length inputs.registry.now.accounts
