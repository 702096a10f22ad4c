use Rattle.split_run.proofs.TakenLemmas.{whole_statement}
use Rattle.split_run.proofs.laws.law_what_was_sent_is_the_statement.Goals as goal

pub returns : goal.returns
returns c = λ division usage account workers drawn got statement once sent has rising. whole_statement division account usage workers drawn got statement once sent has rising
