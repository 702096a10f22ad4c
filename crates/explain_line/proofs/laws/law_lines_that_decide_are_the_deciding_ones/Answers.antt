use Rattle.std.proofs.Common.{[], refl}
use Rattle.explain_line.proofs.Postings.{deciding_from}
use Rattle.explain_line.proofs.laws.law_lines_that_decide_are_the_deciding_ones.Goals as goal

pub returns : goal.returns
returns c = λ table land shares. deciding_from table land shares [] shares 0 refl refl
