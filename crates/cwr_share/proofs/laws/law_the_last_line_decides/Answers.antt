use Rattle.std.proofs.Common.{◌∙◌}
use Rattle.cwr_share.proofs.LawLemmas.{excluded, last_decides}
use Rattle.cwr_share.proofs.laws.law_the_last_line_decides.Goals as goal

pub returns-clause-decides : goal.returns-clause-decides
returns-clause-decides c = last_decides

pub returns-clause-out : goal.returns-clause-out
returns-clause-out c = λ table land right lines line over out. last_decides table land right lines line over ∙ excluded right line out
