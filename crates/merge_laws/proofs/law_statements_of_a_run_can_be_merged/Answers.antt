use Rattle.settle_run.specs.Settled.{reason_of}
use Rattle.split_run.specs.Divisions.{division_by}
use Rattle.merge_laws.proofs.Runs.{text_said}
use Rattle.merge_laws.proofs.Said.{said_of}
use Rattle.merge_laws.proofs.law_statements_of_a_run_can_be_merged.Goals as goal

pub returns : goal.returns
returns c = λ files text is.
    let says = text_said files text is.tables is.read is.statements in
    (said_of (division_by is.tables.territories is.tables.registry) (reason_of is.tables.territories is.tables.registry) is.read.accounts.names is.tables.usage, says.sound, says.is)
