use Rattle.std.proofs.Common.{◌+◌, ◌^◌, ◌≤◌, List, Option, unsigned_abs, ℕ}
use Rattle.merge_statements.specs.SoFar.{output}
use Rattle.adjust_statements.specs.SoFar.{AreAdjustedSoFar, IsOpen}
use Rattle.adjust_statements.proofs.adjusting.adjust_payees.Given as goal

-- some payees were compared, each of which has a portion
abbrev pub invariant-loop-done : goal.invariant-loop-done
invariant-loop-done g l = record {
  so_far : (paid_start right_start : Option (List ℕ)) → IsOpen paid_start l.fn.texts.paid → IsOpen right_start l.fn.texts.right
      → AreAdjustedSoFar paid_start right_start l.texts.paid l.texts.right (output g.W.Write.contents l.fn.out l.fn.page) (output g.W.Write.contents l.out l.page) l.all.0 l.all.1;
  done : l._done ≤ l.texts.paid.at.portions + l.texts.right.at.portions;
  few : l.all.0 ≤ 10 ^ 18;
  small : unsigned_abs l.all.1 ≤ 10 ^ 30;
}
