use Rattle.std.proofs.Common.{◌∙◌, sym, arith}
use Rattle.std.proofs.lemmas.Bool.{eq-eqb}
use Rattle.csv_table.proofs.RowParts.{no_mark}
use Rattle.csv_table.proofs.cuts.begins_as_a_mark.Goals as goal

pub returns-then-text-gt0 : goal.returns-then-text-gt0
returns-then-text-gt0 c = λ other. no_mark c.args.text.now (λ some is. cc (sym (eq-eqb _ 239 is) ∙ other))

pub returns-else-text-gt0 : goal.returns-else-text-gt0
returns-else-text-gt0 c = λ _. no_mark c.args.text.now (λ some is. absurd (omega (arith, some, c.if-text-gt0.false)))
