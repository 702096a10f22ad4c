use Rattle.std.proofs.Common.{◌≡◌, drop, map, take}
use Rattle.csv_table.specs.Table.{rows_of}
use Rattle.document_names.specs.FirstTexts.{first_text}
use Rattle.document_names.specs.Payees.{names_in_rows}
use Rattle.document_names.proofs.payees.names_in_table.Given as goal

-- the names of the accounts so far
abbrev pub invariant-loop-place : goal.invariant-loop-place
invariant-loop-place l =
    map (λ name. name.items) l.names.items
    ≡ map (λ account. first_text (names_in_rows (drop 1 (rows_of l.table))) account.items) (take l.place l.accounts)
