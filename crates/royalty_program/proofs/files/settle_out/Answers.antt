use Rattle.std.proofs.Common.{◌≡◌, ◌∙◌, None, Some, inr, sym}
use Rattle.std.proofs.lemmas.Result.{IfOk-weaker, on_ok_weaker}
use Rattle.royalty_program.proofs.OutputLemmas.{put_printed}
use Rattle.royalty_program.proofs.files.settle_out.Goals as goal

pub returns-in-None-clause-statements : goal.returns-in-None-clause-statements
returns-in-None-clause-statements g c =
    let none : c.args.asked.output ≡ None = sym c.take.ensures.value ∙ c.in-None.is in
    IfOk-weaker c.settle_files.result _ _
    (λ printed. on_ok_weaker printed (λ wrote. (wrote.0, put_printed c.args.asked.output _ _ _ wrote.0 none wrote.1, wrote.2)))
    c.settle_files.ensures.statements

pub returns-in_ok-settle_kept-in-Some-clause-left : goal.returns-in_ok-settle_kept-in-Some-clause-left
returns-in_ok-settle_kept-in-Some-clause-left g c =
    let some : c.args.asked.output ≡ Some c.in-Some.path = sym c.take.ensures.value ∙ c.in-Some.is in
    rw some (inr c.in_ok-settle_kept-in-Some.ensures.statements)
