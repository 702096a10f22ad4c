use Rattle.std.proofs.Common.{◌≡◌, ◌≤◌, ◌*◌, take}
use Rattle.std.specs.Prelude.{unwrap_or}
use Rattle.std.specs.Option.{option_map}
use Rattle.cwr_share.specs.declared.TheConstants.{MOST_SHARES}
use Rattle.check_inputs.specs.SubmittedOver.{claim_of_submitter}
use Rattle.check_inputs.proofs.over.claim_of.Given as goal

-- what it claims by the claims so far
abbrev pub invariant-loop-place : goal.invariant-loop-place
invariant-loop-place l =
    (option_map (λ claim. (l.submitter, claim)) l.sum ≡ claim_of_submitter (take l.place l.claims) l.submitter)
    × (unwrap_or l.sum 0 ≤ 65535 * MOST_SHARES * l.place)
