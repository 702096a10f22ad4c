use Rattle.cwr_share.proofs.OneRegistry.{no_fault}
use Rattle.cwr_share.proofs.laws.law_a_file_of_registrations_has_no_fault.Goals as goal

pub returns : goal.returns
returns c = no_fault
