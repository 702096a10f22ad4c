use Rattle.std.proofs.Common.{◌≡◌, ◌++◌, map, take}
use Rattle.csv_table.specs.Written.{text_of}
use Rattle.payee_documents.specs.Sheet.{sheet_row}
use Rattle.payee_portions.specs.Shown.{portions_shown}
use Rattle.payee_documents.proofs.sheet.sheet_of.Given as goal

-- the portions so far are added
abbrev pub invariant-loop-place : goal.invariant-loop-place
invariant-loop-place l = l.rows.text ≡ l.initial.rows.text ++ text_of (map sheet_row (portions_shown (take l.place l.portions)))
