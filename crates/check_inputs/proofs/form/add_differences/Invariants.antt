use Rattle.std.proofs.Common.{◌≡◌, ◌++◌, flat_map, take}
use Rattle.check_inputs.specs.Form.{difference_text}
use Rattle.check_inputs.specs.Messages.{remark_line}
use Rattle.check_inputs.proofs.form.add_differences.Given as goal

abbrev pub invariant-loop-place : goal.invariant-loop-place
invariant-loop-place l = l.text.items ≡ l.initial.text.items ++ flat_map (λ it. remark_line l.path (difference_text it)) (take l.place l.first)
