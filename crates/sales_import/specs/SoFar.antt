-- An import as it goes on.
use Rattle.std.specs.Io.KnownBytes.{Appends}
use Rattle.std.specs.List.{filter, sum_by}
use Rattle.std.specs.Prelude.{ℕ, ◌≡◌, ◌==◌, ◌+◌, ◌+ℤ◌, ◌++◌, List, Option, IfSome, length, slice_index_or, ⊤}
use Rattle.export_rows.specs.Places.{AreRowsOf, HasRead, Place}
use Rattle.export_rows.specs.declared.delimiter.Delimiter.{Delimiter}
use Rattle.sales_lines.specs.declared.reason.Reason.{Reason}
use Rattle.sales_lines.specs.declared.settings.Settings.{Settings}
use Rattle.sales_import.specs.Imported.{AreMade, Made, Reject, both, line_amounts, lines_text, output}
use Rattle.sales_import.specs.Imported.{reject_amounts, rejects_text}
use Rattle.sales_import.specs.Tallies.{AreWithin, all_reasons, no_rows, place_of, tally_of}
use Rattle.sales_import.specs.declared.going.Going.{Going}
use Rattle.sales_import.specs.declared.import_fault.ImportFault.{ImportFault}
use Rattle.sales_import.specs.declared.import_fault.ImportFault.TheVariants.{Lines, Rejects, Headless, Column, Memory}
use Rattle.sales_import.specs.declared.summary.Summary.{Summary}
use Rattle.sales_import.specs.declared.tally.Tally.{Tally}

-- the rows that were rejected for a reason
abbrev pub rejected_for : Reason → List Reject → List Reject
rejected_for reason = filter (λ reject. place_of reject.reason == place_of reason)

-- how many rows were rejected for it, as it was counted
abbrev pub tally_for : Reason → Summary → Tally
tally_for reason told = slice_index_or told.reasons (place_of reason) no_rows

-- what was made is counted, and its amounts are added: all rows, usage lines, rejected rows, these by reason, and rows
-- that are passed over
pub record AreCounted (made : Made) (told : Summary) : Type 0 where
  pub all : told.all ≡ tally_of made.all
  pub lines : told.lines ≡ tally_of (line_amounts made.lines)
  pub rejected : told.rejected ≡ tally_of (reject_amounts made.rejects)
  pub reasons : (reason : Reason)
      → tally_for reason told ≡ tally_of (reject_amounts (rejected_for reason made.rejects))
  pub passed : told.passed ≡ tally_of made.passed

-- The whole comes to its parts: rows that became usage lines, were rejected and were passed over, and so do the amounts,
-- and the rows that have none that can be read. The rejected rows are those of all reasons.
pub record AddsUp (count : ℕ) (told : Summary) : Type 0 where
  pub all : told.all.rows ≡ count
  pub rows : told.all.rows ≡ told.lines.rows + told.rejected.rows + told.passed.rows
  pub without : told.all.without ≡ told.lines.without + told.rejected.without + told.passed.without
  pub amount : told.all.amount ≡ told.lines.amount +ℤ told.rejected.amount +ℤ told.passed.amount
  pub reasons : sum_by (λ reason. (tally_for reason told).rows) all_reasons ≡ told.rejected.rows

-- what is made of one row more is counted too
abbrev pub IsCounted : (own : Made) → (old new : Summary) → Type 0
IsCounted own old new = (made : Made) → AreCounted made old → AreCounted (both made own) new

-- and the rows of it were added to both tables
pub record IsAdded {W X : Type 0} (made : Made) (lines_in : W → Option (List ℕ)) (rejects_in : X → Option (List ℕ))
    (old : Going) (old_lines : W) (old_rejects : X) (new : Going) (new_lines : W) (new_rejects : X) : Type 0 where
  pub lines : Appends (output lines_in old_lines old.lines) (output lines_in new_lines new.lines) (lines_text made)
  pub rejects : Appends (output rejects_in old_rejects old.rejects) (output rejects_in new_rejects new.rejects)
      (rejects_text made)
  pub counted : IsCounted made old.summary new.summary

-- The rows of an export below those that were read before: each became a usage line, or was rejected, or passed over.
pub record IsImportOf (settings : Settings) (below : List (List (List ℕ)))
    (old_lines new_lines old_rejects new_rejects : Option (List ℕ)) (told : Summary) : Type 0 where
  pub made : Made
  pub are : AreMade settings 1 below made
  pub lines : Appends old_lines new_lines (lines_text made)
  pub rejects : Appends old_rejects new_rejects (rejects_text made)
  pub counted : AreCounted made told

abbrev pub IsImported : Settings → Place → (old_lines new_lines old_rejects new_rejects : Option (List ℕ)) → Summary
    → Type 0
IsImported settings place old_lines new_lines old_rejects new_rejects summary =
    (delimiter : Delimiter) (from : Option (List ℕ)) (before : List (List (List ℕ)))
    → HasRead delimiter from before place
    → IfSome from (λ text. (rows : List (List (List ℕ))) × AreRowsOf delimiter text (before ++ rows)
    × IsImportOf settings rows old_lines new_lines old_rejects new_rejects summary)

-- Where an import stands: what was read since the start, what was made of it, and what both tables have, with the pages
-- that are on their way to them.
pub record IsGoing (settings : Settings) (start place : Place)
    (old_lines lines_now old_rejects rejects_now : Option (List ℕ)) (number : ℕ) (told : Summary) : Type 0 where
  pub below : List (List (List ℕ))
  pub made : Made
  pub are : AreMade settings 1 below made
  pub next : number ≡ length below + 1
  pub read : (delimiter : Delimiter) (from : Option (List ℕ)) (before : List (List (List ℕ)))
      → HasRead delimiter from before start → HasRead delimiter from (before ++ below) place
  pub lines : Appends old_lines lines_now (lines_text made)
  pub rejects : Appends old_rejects rejects_now (rejects_text made)
  pub counted : AreCounted made told
  pub within : AreWithin number told

-- a write of the usage lines, or memory, was refused
abbrev pub IsOfLines : ImportFault → Type 0
IsOfLines (Lines error) = ⊤
IsOfLines Memory = ⊤
IsOfLines _ = ⊥

-- a write of the rejected rows, or memory, was refused
abbrev pub IsOfRejected : ImportFault → Type 0
IsOfRejected (Rejects error) = ⊤
IsOfRejected Memory = ⊤
IsOfRejected _ = ⊥

-- a read, a write or memory was refused
abbrev pub IsOfRows : ImportFault → Type 0
IsOfRows Headless = ⊥
IsOfRows (Column fault word) = ⊥
IsOfRows _ = ⊤
