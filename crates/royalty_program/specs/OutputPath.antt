-- The path of an output, beside those of the inputs of a run.
use Rattle.std.specs.Prelude.{◌≢◌, ◌⊎◌, List, None, Option, Some, ℕ}
use Rattle.run_inputs.specs.Inputs.{HoldsOfEach}
use Rattle.run_inputs.specs.declared.inputs.Inputs.{Inputs}

-- it is another path than this
abbrev pub IsOther : (path other : List ℕ) → Type 0
IsOther path other = path ≢ other

-- it is the path of no input
abbrev pub IsNoInput : (paths : Inputs (List ℕ)) → (path : List ℕ) → Type 0
IsNoInput paths path = HoldsOfEach (IsOther path) paths

-- there is a path, and it is one of these
abbrev pub IsOfGiven : (P : List ℕ → Type 0) → Option (List ℕ) → Type 0
IsOfGiven P None = ⊥
IsOfGiven P (Some path) = P path

-- some input has such a path
abbrev pub IsOfSomeInput : (P : List ℕ → Type 0) → Inputs (List ℕ) → Type 0
IsOfSomeInput P paths = P paths.territories ⊎ IsOfGiven P paths.payees ⊎ P paths.registrations ⊎ P paths.usage
