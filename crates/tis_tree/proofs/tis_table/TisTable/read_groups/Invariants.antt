use Rattle.tis_tree.proofs.GroupWords.{Named}
use Rattle.tis_tree.proofs.tis_table.TisTable.read_groups.Given as goal

abbrev pub invariant-loop : goal.invariant-loop
invariant-loop l = Named l.self l.text l.rest l.fn.set.words l.set.words l.groups.items l.counter
