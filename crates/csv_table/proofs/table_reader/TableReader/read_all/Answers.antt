use Rattle.csv_table.proofs.ItemWalks.{read_to_a_fault, read_to_the_end}
use Rattle.csv_table.proofs.table_reader.TableReader.read_all.Goals as goal

pub returns-in-Ok-Some-clause-fault : goal.returns-in-Ok-Some-clause-fault
returns-in-Ok-Some-clause-fault g c =
    let items = g.T.RowTable.items in
    let from = c.args.self in
    let to = c.next_fault.new.self in
    read_to_a_fault (g.T.RowTable.rules (g.T.RowTable.known from.table)) from.left to.left to.row c.in-Ok-Some.fault from.number to.number (items from.table) (items to.table) c.requires
    (rw c.in-Ok-Some.field-0-is at c.in-Ok-Some.ensures.fault)

pub returns-in-Ok-None-clause-items : goal.returns-in-Ok-None-clause-items
returns-in-Ok-None-clause-items g c =
    let items = g.T.RowTable.items in
    let from = c.args.self in
    let to = c.next_fault.new.self in
    let (on, all) = rw c.in-Ok-None.field-0-is at c.in-Ok-None.ensures.none in
    rw c.finish.ensures (read_to_the_end (g.T.RowTable.rules (g.T.RowTable.known from.table)) from.left to.left from.number to.number (items from.table) (items to.table) c.requires on all)
