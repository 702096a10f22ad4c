use Rattle.std.proofs.Common.{List, subst, sym, ℕ}
use Rattle.std.specs.Prelude.{IfErr, IfOk}
use Rattle.csv_table.specs.Table.{rows_of}
use Rattle.line_split.specs.UsageParts.{AreLinesOf, IsFaultIn}
use Rattle.line_split.proofs.UsageRows.{lines_of_parts}
use Rattle.line_split.proofs.parts.«+fn-lines_in_parts-join+arg2+fn-lines_in_parts-join+arg3+lines_in_parts».Goals as goal

pub returns-in-Ok-clause-lines : goal.returns-in-Ok-clause-lines
returns-in-Ok-clause-lines g t c =
    let first = rows_of c.in-Some.first.now in
    let second = rows_of c.in-Some.second.now in
    let lines = rw c.in-Ok.is at c.join-more.ensures.second.0 in
    let parts = lines_of_parts (rows_of c.args.bytes.now) first second c.in-Ok.lines c.in-Some.ensures lines in
    subst (λ (rows : List (List (List ℕ))). IfOk c.joined.result (AreLinesOf rows)) (sym parts) (c.joined.ensures.lines first second lines c.join-more.ensures.first.0)

pub returns-in-Ok-clause-fault : goal.returns-in-Ok-clause-fault
returns-in-Ok-clause-fault g t c =
    let first = rows_of c.in-Some.first.now in
    let second = rows_of c.in-Some.second.now in
    let lines = rw c.in-Ok.is at c.join-more.ensures.second.0 in
    let more = c.join-more.ensures.first in
    let parts = lines_of_parts (rows_of c.args.bytes.now) first second c.in-Ok.lines c.in-Some.ensures lines in
    subst (λ (rows : List (List (List ℕ))). IfErr c.joined.result (IsFaultIn rows)) (sym parts) (c.joined.ensures.fault first second lines more.0 more.1)
