use Rattle.merge_laws.proofs.OneList.{one_of_run, one_text_of_all, run_of_one}
use Rattle.merge_laws.proofs.law_a_list_has_one_text.Goals as goal

pub returns-clause-one : goal.returns-clause-one
returns-clause-one c = one_text_of_all

pub returns-clause-run : goal.returns-clause-run
returns-clause-run c = λ inputs text. (run_of_one inputs inputs.usage text, one_of_run inputs inputs.usage text)
