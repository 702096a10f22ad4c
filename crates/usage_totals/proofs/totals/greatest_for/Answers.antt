use Rattle.std.proofs.Common.{◌∙◌}
use Rattle.std.proofs.lemmas.Result.{IfOk-weaker}
use Rattle.usage_totals.specs.Totals.{is_same}
use Rattle.usage_totals.proofs.totals.greatest_for.Goals as goal

pub returns : goal.returns
returns g c =
    IfOk-weaker c.greatest.result _ _ (λ ranked are given is.
    are (λ line. is_same c.args.reason (given line)) (λ line. line.amount) (c.as_slice.ensures.value ∙ c.in_ok-amounts.ensures.amounts given is)) c.greatest.ensures
