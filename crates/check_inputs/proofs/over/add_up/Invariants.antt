use Rattle.std.proofs.Common.{◌≡◌, take}
use Rattle.std.specs.List.{filter_map}
use Rattle.linked_works.specs.Rows.{names_by}
use Rattle.check_inputs.specs.SubmittedOver.{claim_of_submitter}
use Rattle.check_inputs.proofs.over.add_up.Given as goal

-- what the submitters so far claim
abbrev pub invariant-loop-place : goal.invariant-loop-place
invariant-loop-place l = l.sums.items ≡ filter_map (claim_of_submitter l.claims) (names_by (take l.place l.names))
