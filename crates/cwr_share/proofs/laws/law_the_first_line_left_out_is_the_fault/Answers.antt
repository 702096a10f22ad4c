use Rattle.cwr_share.proofs.CwrReadings.{first_fault_of_many, first_fault_read}
use Rattle.cwr_share.proofs.laws.law_the_first_line_left_out_is_the_fault.Goals as goal

pub returns-clause-few : goal.returns-clause-few
returns-clause-few c = first_fault_read

pub returns-clause-many : goal.returns-clause-many
returns-clause-many c = first_fault_of_many
