use Rattle.std.proofs.Common.{◌≡◌, ◌≤◌, ◌++◌}
use Rattle.page_text.specs.Figures.{last_digits}
use Rattle.page_text.proofs.figures.add_last_digits.Given as goal

abbrev pub invariant-loop-left : goal.invariant-loop-left
invariant-loop-left l = (l.left ≤ l.count) × (l.text.items ++ last_digits l.left l.number ≡ l.initial.text.items ++ last_digits l.count l.number)

abbrev pub decreases-loop-left : goal.decreases-loop-left
decreases-loop-left l = l.left
