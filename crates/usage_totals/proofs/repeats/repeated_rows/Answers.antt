use Rattle.std.proofs.Common.{List, ℕ, subst}
use Rattle.cwr_share.specs.PassedOver.{IsTallyOf}
use Rattle.usage_totals.specs.RepeatsSoFar.{AreMarks}
use Rattle.usage_totals.proofs.MarkLemmas.{marked_repeated}
use Rattle.usage_totals.proofs.repeats.repeated_rows.Goals as goal

pub returns : goal.returns
returns c =
    let marks = c.as_slice-2.result.now in
    let are : AreMarks c.args.usage.now marks = rw c.as_slice-2.ensures.value c.in_ok-repeated.ensures.marks in
    subst (λ (rows : List ℕ). IsTallyOf rows c.rows_marked.result) (marked_repeated c.args.usage.now marks are) c.rows_marked.ensures
