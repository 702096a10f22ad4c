use Rattle.std.proofs.Common.{◌≡◌, ◌++◌, flat_map, take}
use Rattle.check_inputs.specs.Report.{open_line}
use Rattle.check_inputs.proofs.summary.add_open_works.Given as goal

abbrev pub invariant-loop-place : goal.invariant-loop-place
invariant-loop-place l = l.text.items ≡ l.initial.text.items ++ flat_map (open_line l.path) (take l.place l.first)
