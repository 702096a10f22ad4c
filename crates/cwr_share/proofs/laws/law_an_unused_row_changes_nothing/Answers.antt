use Rattle.cwr_share.proofs.OneRegistry.{unused_in_fault, unused_in_file}
use Rattle.cwr_share.proofs.laws.law_an_unused_row_changes_nothing.Goals as goal

pub returns-clause-file : goal.returns-clause-file
returns-clause-file c before after row lines registered unused is = unused_in_file before after row lines unused registered is

pub returns-clause-fault : goal.returns-clause-fault
returns-clause-fault c before after row lines fault unused = unused_in_fault before after row lines unused fault
