use Rattle.csv_table.specs.Table.{rows_of}
use Rattle.csv_table.proofs.ItemWalks.{one_table}
use Rattle.line_split.specs.UsageTable.{usage_rules}
use Rattle.settle_run.proofs.OneText.{one_text, read_alike}
use Rattle.settle_run.proofs.laws.law_inputs_have_one_text.Goals as goal

pub returns : goal.returns
returns c = λ files text other is of.
    one_text is.tables of.tables text other (read_alike files files.usage is.tables of.tables is.read of.read)
    (one_table usage_rules (rows_of files.usage) of.tables.usage is.tables.usage of.read.uses is.read.uses) is.statements of.statements
