use Rattle.merge_laws.proofs.Parts.{merged_list}
use Rattle.merge_laws.proofs.law_statements_of_parts_merge_to_those_of_the_list.Goals as goal

pub returns : goal.returns
returns c = merged_list
