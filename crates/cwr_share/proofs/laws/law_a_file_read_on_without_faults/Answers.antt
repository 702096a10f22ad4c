use Rattle.cwr_share.proofs.CwrReadings.{file_read_whole}
use Rattle.cwr_share.proofs.laws.law_a_file_read_on_without_faults.Goals as goal

pub returns : goal.returns
returns c = file_read_whole
