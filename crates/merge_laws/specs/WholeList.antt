-- A list of usage lines that is spread over several files.
use Rattle.std.specs.Prelude.{ℕ, ◌≡◌, ◌++◌, ◌∷◌, [], List, drop, flat_map}
use Rattle.csv_table.specs.Table.{rows_of}
use Rattle.line_split.specs.UsageLine.{UsageLine}
use Rattle.line_split.specs.UsageTable.{header}
use Rattle.run_inputs.specs.Inputs.{IsReading, with_lines, with_usage}
use Rattle.run_inputs.specs.declared.inputs.Inputs.{Inputs}
use Rattle.run_inputs.specs.declared.inputs.Tables.{Tables}
use Rattle.settle_run.specs.Settled.{AreStatementsFor}

-- The usage lines are those of the first file and then those of the files behind it, each of which has no more lines
-- than a run takes. With each of these files the other inputs are read as the same.
abbrev pub AreLinesOf : (inputs : Inputs (List ℕ)) → (usage_files : List (List ℕ)) → Tables → Type 0
AreLinesOf inputs [] tables = tables.usage ≡ []
AreLinesOf inputs (file ∷ files) tables =
    (first : List UsageLine) × (others : List UsageLine) × (tables.usage ≡ first ++ others)
    × IsReading (with_usage file inputs) (with_lines first tables)
    × AreLinesOf inputs files (with_lines others tables)

-- The text of the statements of a whole list, of however many lines.
pub record AreStatementsOfAll (inputs : Inputs (List ℕ)) (usage_files : List (List ℕ)) (text : List ℕ) : Type 0 where
  pub tables : Tables
  pub read : AreLinesOf inputs usage_files tables
  pub statements : AreStatementsFor tables text

-- One file has the rows of several: the header once, and the rows below the header of each file, in order.
abbrev pub HasRowsOfAll : (usage_files : List (List ℕ)) → (whole : List ℕ) → Type 0
HasRowsOfAll usage_files whole = rows_of whole ≡ header ∷ flat_map (λ file. drop 1 (rows_of file)) usage_files
