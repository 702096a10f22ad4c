use Rattle.std.proofs.Common.{◌≡◌, All, vec_items, vec_len}
use Rattle.csv_table.specs.Written.{empty_page}
use Rattle.payee_book.proofs.sheets.blank_sheets.Given as goal

-- the sheets so far are blank
abbrev pub invariant-loop : goal.invariant-loop
invariant-loop l = record {
  count : vec_len l.sheets ≡ l.counter;
  blank : All (λ sheet. sheet.rows ≡ empty_page) (vec_items l.sheets);
}
