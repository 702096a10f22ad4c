use Rattle.std.proofs.Common.{Some, refl}
use Rattle.check_inputs.proofs.Telling.{three_behind}
use Rattle.check_inputs.proofs.report.Sheet.totals.Goals as goal

pub returns : goal.returns
returns c =
    let run = rw (c.as_str.ensures.value, c.as_str-2.ensures.value, c.as_str-3.ensures.value, c.len.ensures.lines) at c.in_ok-add_totals.ensures in
    let over = rw (c.as_str-4.ensures.value, c.as_slice.ensures.value) at c.in_ok-add_claimed_over.ensures in
    let further = rw c.as_str-5.ensures.value at c.in_ok-add_further_over.ensures in (
      Some c.in_ok-totals.totals,
      rw (c.if-not-self.false, c.in-Some.is) c.in_ok-totals.ensures,
      record { in_words = refl; in_numbers = three_behind _ _ _ _ _ _ _ run over further; sound = refl },
    )
