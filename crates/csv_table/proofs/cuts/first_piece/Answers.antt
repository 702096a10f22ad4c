use Rattle.std.proofs.Common.{arith}
use Rattle.std.proofs.lemmas.Bool.{eq-eqb, eqb-true}
use Rattle.csv_table.proofs.PieceLemmas.{cut_first, cut_nowhere}
use Rattle.csv_table.proofs.cuts.first_piece.Goals as goal

pub returns-in-Some-clause-pieces : goal.returns-in-Some-clause-pieces
returns-in-Some-clause-pieces c =
    let found = c.in-Some.ensures in
    λ _. cut_first _ _ _ found.0.high (λ k lt is. found.0.before k (omega arith) lt (eq-eqb _ _ is)) (eqb-true _ _ found.1)

pub returns-in-None-clause-pieces : goal.returns-in-None-clause-pieces
returns-in-None-clause-pieces c = λ some. cut_nowhere _ _ some (λ k lt is. c.in-None.ensures k (omega arith) lt (eq-eqb _ _ is))
