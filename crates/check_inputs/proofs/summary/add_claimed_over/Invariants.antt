use Rattle.std.proofs.Common.{◌≡◌, ◌++◌, flat_map, take}
use Rattle.check_inputs.specs.Report.{claimed_over_line}
use Rattle.check_inputs.proofs.summary.add_claimed_over.Given as goal

abbrev pub invariant-loop-place : goal.invariant-loop-place
invariant-loop-place l = l.text.items ≡ l.initial.text.items ++ flat_map (claimed_over_line l.path) (take l.place l.works)
