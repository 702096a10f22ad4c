use Rattle.std.proofs.Common.{◌≡◌, ◌∙◌, [], ℕ, List, Option, Some, None, refl}
use Rattle.std.specs.Prelude.{unwrap_or}
use Rattle.cwr_share.proofs.ClaimLemmas.{against_work}
use Rattle.cwr_share.specs.ClaimsOn.{claims_by, claims_on, reason_against}
use Rattle.cwr_share.specs.Registered.{Registered}
use Rattle.cwr_share.specs.Registrations.{ShareLine, find_work}
use Rattle.line_split.specs.UsageLine.{UsageLine}
use Rattle.explain_line.proofs.ClaimedLemmas.{divided}
use Rattle.explain_line.proofs.laws.law_the_claims_shown_of_submitters_are_those_divided.Goals as goal

-- a work against which no reason stands has share lines, and the claims are those by them
of_shares : (table : List (ℕ × List ℕ)) (registered : Registered) (line : UsageLine) (shares : Option (List ShareLine)) → find_work line.work registered.works ≡ shares
    → reason_against table registered line ≡ None → claims_by table registered line (unwrap_or shares []) ≡ claims_on table registered line
of_shares table registered line None found free = let reason = (against_work table registered line found).0 in cc
of_shares table registered line (Some shares) found free = divided table registered line shares found free

pub returns : goal.returns
returns g c = λ names inputs tables line read free.
    of_shares tables.territories tables.registry line _ (read.registrations.0.in_force line.work) free
