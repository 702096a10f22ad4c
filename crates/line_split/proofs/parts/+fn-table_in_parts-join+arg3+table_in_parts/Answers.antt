use Rattle.std.proofs.Common.{◌++◌}
use Rattle.csv_table.specs.Table.{rows_of}
use Rattle.line_split.proofs.UsageRows.{headed_faults, headed_tables, table_of_parts}
use Rattle.line_split.proofs.parts.«+fn-table_in_parts-join+arg3+table_in_parts».Goals as goal

pub returns-in-Ok-clause-lines : goal.returns-in-Ok-clause-lines
returns-in-Ok-clause-lines g t c =
    let all = rows_of c.args.bytes.now in
    let second = rows_of c.in-Some.second.now in
    let table = rw c.in-Ok.is at c.join-more.ensures.second.0 in
    let parts = table_of_parts all (rows_of c.in-Some.first.now) second c.in-Ok.table c.in-Some.ensures table in
    headed_tables all (parts.0 ++ second) c.joined.result parts.1 (c.joined.ensures.lines parts.0 second parts.2 c.join-more.ensures.first.0)

pub returns-in-Ok-clause-fault : goal.returns-in-Ok-clause-fault
returns-in-Ok-clause-fault g t c =
    let all = rows_of c.args.bytes.now in
    let second = rows_of c.in-Some.second.now in
    let table = rw c.in-Ok.is at c.join-more.ensures.second.0 in
    let more = c.join-more.ensures.first in
    let parts = table_of_parts all (rows_of c.in-Some.first.now) second c.in-Ok.table c.in-Some.ensures table in
    headed_faults all (parts.0 ++ second) c.joined.result parts.1 (c.joined.ensures.fault parts.0 second parts.2 more.0 more.1)
