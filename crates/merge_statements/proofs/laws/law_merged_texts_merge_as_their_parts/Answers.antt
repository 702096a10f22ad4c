use Rattle.merge_statements.proofs.Merges.{merged_in_groups}
use Rattle.merge_statements.proofs.laws.law_merged_texts_merge_as_their_parts.Goals as goal

pub returns : goal.returns
returns c = merged_in_groups
