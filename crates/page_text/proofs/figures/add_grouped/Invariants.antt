use Rattle.std.proofs.Common.{◌≡◌, ◌++◌, drop}
use Rattle.page_text.specs.Figures.{grouped}
use Rattle.page_text.proofs.figures.add_grouped.Given as goal

abbrev pub invariant-loop-place : goal.invariant-loop-place
invariant-loop-place l = l.text.items ++ grouped (drop l.place l.digits) ≡ l.initial.text.items ++ grouped l.digits
