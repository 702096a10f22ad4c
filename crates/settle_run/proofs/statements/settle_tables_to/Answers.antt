use Rattle.std.proofs.lemmas.Result.{on_ok_weaker}
use Rattle.settle_run.specs.Divided.{text_in}
use Rattle.settle_run.proofs.statements.settle_tables_to.Goals as goal

pub returns-clause-statements : goal.returns-clause-statements
returns-clause-statements g c =
    let d = c.in_ok-divided.divided in
    on_ok_weaker c.print.result (λ printed. (
      text_in d,
      rw (c.parties-parties.ensures, c.as_slice-reasons.ensures.value) at printed,
      c.in_ok-divided.ensures.statements,
    )) c.print.ensures
