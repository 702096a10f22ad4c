use Rattle.linked_works.proofs.LinkRows.{of_one_submitter}
use Rattle.linked_works.proofs.laws.law_submitters_share_no_party.Goals as goal

pub returns : goal.returns
returns c = of_one_submitter
