use Rattle.std.proofs.Common.{map, refl}
use Rattle.csv_table.specs.Written.{text_of}
use Rattle.adjust_statements.proofs.RowLemmas.{next_row, nothing_read, row_there}
use Rattle.adjust_statements.specs.SoFar.{named_row}
use Rattle.adjust_statements.proofs.sums.count_next.Goals as goal

pub returns-in_ok-count_row-clause-row : goal.returns-in_ok-count_row-clause-row
returns-in_ok-count_row-clause-row c = λ kind row others of named is.
    let line = c.next.new.self.line in
    let read = next_row kind row (text_of (map (named_row kind) others)) line c.in-Some.row.kind.now c.in-Some.row.payee_or_reason.now c.in-Some.row.usage_or_count.now c.in-Some.row.amount_or_total.now
    c.args.rows.now.left c.next.new.self.left is (c.in-Ok-true.ensures.found c.in-Ok-true.field-0-test) c.in-Some.ensures.row in
    (refl, read.rest, c.in_ok-count_row.ensures.counted kind row named read.same)

pub returns-in_ok-count_row-clause-end : goal.returns-in_ok-count_row-clause-end
returns-in_ok-count_row-clause-end c = λ is.
    absurd (nothing_read c.args.rows.now.left c.next.new.self.left c.next.new.self.line is (c.in-Ok-true.ensures.found c.in-Ok-true.field-0-test))

pub returns-in_default-clause-row : goal.returns-in_default-clause-row
returns-in_default-clause-row c = λ kind row others of named is.
    absurd (c.in_default.ensures.none (named_row kind row) refl
    (row_there kind row (text_of (map (named_row kind) others)) c.next.new.self.line c.args.rows.now.left c.next.new.self.left is of named (c.in-Ok-true.ensures.found c.in-Ok-true.field-0-test) (c.in-Ok-true.ensures.one c.in-Ok-true.field-0-test)))

pub returns-in_default-clause-end : goal.returns-in_default-clause-end
returns-in_default-clause-end c = λ is.
    absurd (nothing_read c.args.rows.now.left c.next.new.self.left c.next.new.self.line is (c.in-Ok-true.ensures.found c.in-Ok-true.field-0-test))
