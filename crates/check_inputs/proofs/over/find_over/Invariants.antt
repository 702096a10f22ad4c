use Rattle.std.proofs.Common.{◌≡◌, ◌≤◌, None, take}
use Rattle.line_split.specs.declared.TheConstants.{MOST_CLAIMS}
use Rattle.check_inputs.specs.SubmittedOver.{first_over}
use Rattle.check_inputs.proofs.over.find_over.Given as goal

-- none of the lines so far
abbrev pub invariant-loop-place : goal.invariant-loop-place
invariant-loop-place l = (first_over l.tis l.registry (take l.place l.lines) l.work ≡ None) × (MOST_CLAIMS ≤ l.claims.room)
