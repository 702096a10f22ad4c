use Rattle.std.proofs.Common.{◌≡◌, ◌<◌, ◌+◌, [], false, length}
use Rattle.std.specs.Prelude.{◌^◌}
use Rattle.csv_table.specs.ReadOn.{ReadsOn}
use Rattle.csv_table.specs.RowTable.{LeavesOut, Reads, Stops}
use Rattle.csv_table.proofs.table_reader.TableReader.next_fault.Given as goal

abbrev pub invariant-loop-self : goal.invariant-loop-self
invariant-loop-self g l =
    let its = g.T.RowTable.rules (g.T.RowTable.known l.fn.self.table) in
    (l.self-inside.has_stopped ≡ false)
    × (l.self-inside.number + length l.self-inside.rows.left < 2 ^ 64)
    × ReadsOn (Reads its) (LeavesOut its) (Stops its) (g.T.RowTable.items l.fn.self.table) l.fn.self.number l.fn.self.left []
    (g.T.RowTable.items l.self-inside.table) l.self-inside.number l.self-inside.rows.left
    × (l.self-inside.is_headed ≡ l.fn.self.is_headed)
    × (g.T.RowTable.known l.self-inside.table ≡ g.T.RowTable.known l.fn.self.table)

abbrev pub decreases-loop-self : goal.decreases-loop-self
decreases-loop-self g l = length l.self-inside.rows.left
