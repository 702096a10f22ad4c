use Rattle.works_laws.proofs.OneLists.{accounts_of_lists, answers_of_lists}
use Rattle.submitted_laws.proofs.Alike.{alike_back, answer_alike, statements_alike}
use Rattle.submitted_laws.specs.Alike.{AnswerAlike}
use Rattle.submitted_laws.proofs.laws.law_one_list_has_the_same_statements.Goals as goal

pub returns : goal.returns
returns c = λ rows shares_of single_of tables other text lists territories usage of is other_of other_is.
    let alike : AnswerAlike tables other = answer_alike tables other territories usage
    (accounts_of_lists rows shares_of single_of lists tables.registry other.registry of is other_of other_is)
    (answers_of_lists rows shares_of single_of lists tables.registry other.registry of is other_of other_is) in
    (statements_alike tables other alike text, statements_alike other tables (alike_back tables other alike) text)
