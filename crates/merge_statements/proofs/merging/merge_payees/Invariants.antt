use Rattle.std.proofs.Common.{◌≤◌, List, Option, ℕ}
use Rattle.merge_statements.specs.SoFar.{AreMergedSoFar, AreOpen, output}
use Rattle.merge_statements.proofs.merging.merge_payees.Given as goal

-- some payees are merged, each of which has a portion
abbrev pub invariant-loop-done : goal.invariant-loop-done
invariant-loop-done g l =
    ((starts : List (Option (List ℕ))) → AreOpen starts l.fn.parts
    → AreMergedSoFar starts l.parts (output g.W.Write.contents l.fn.out l.fn.page) (output g.W.Write.contents l.out l.page) l.all.0 l.all.1)
    × (l._done ≤ l.all.0)
