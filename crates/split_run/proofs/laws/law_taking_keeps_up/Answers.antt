use Rattle.split_run.proofs.TakenLemmas.{has_end, has_none, has_post}
use Rattle.split_run.proofs.laws.law_taking_keeps_up.Goals as goal

pub returns : goal.returns
returns c = record { none = has_none; post = has_post; end_mark = has_end }
