use Rattle.std.proofs.Common.{◌≡◌, All, length}
use Rattle.tis_tree.proofs.tis_table.TisTable.new.Given as goal

abbrev pub invariant-loop : goal.invariant-loop
invariant-loop l = (length l.places.items ≡ l.counter) × All (λ place. place ≡ 0) l.places.items
