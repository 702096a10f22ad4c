use Rattle.std.proofs.Common.{◌∙◌, ◌<◌, ap, arith, length, sym}
use Rattle.std.proofs.lemmas.Option.{get_or_from_slice_get}
use Rattle.line_split.specs.UsageLine.{UsageLine, usage_line_of}
use Rattle.usage_totals.specs.Totals.{is_same, total_of_lines}
use Rattle.usage_totals.specs.SoFar.{line_at}
use Rattle.usage_totals.proofs.TotalLemmas.{amount_kept, kept_more, left_more, line_stays, reason_told, total_push, within_later, within_more}
use Rattle.usage_totals.proofs.reasons.total_for.Goals as goal
use Rattle.usage_totals.proofs.reasons.total_for.Goals.{then-eq, else-eq}

pub loop-place-preserved : goal.loop-place-preserved
loop-place-preserved c =
    let place = c.loop-place.place in
    let usage = c.args.usage.now in
    let below : place < length usage = omega (arith, c.len-place-end.ensures.lines, c.loop-place-test.true) in
    elim c.if-eq.branch [
      | then-eq w ↦
          let line = usage_line_of w.line.result in
          let at = get_or_from_slice_get usage place line line w.line.ensures.line in
          let more = rw (amount_kept line.amount w.line.ensures.sound.amount) at w.with-total.ensures in
          rw w.total-is record {
            so_far = λ given is.
                let told = reason_told given c.args.reason c.args.reasons.now usage place _ line c.eq.result is below at c.eq.ensures in
                more
                ∙ total_push _ line c.loop-place.total (c.loop-place.invariant.so_far given is)
                ∙ ap total_of_lines (sym (kept_more (λ (l : UsageLine). is_same c.args.reason (given l)) usage place line below at (told ∙ w.if-eq.true)));
            within = rw more (within_more place c.loop-place.total line.amount c.loop-place.invariant.within w.line.ensures.sound.amount);
          }
      | else-eq w ↦
          rw w.total-is record {
            so_far = λ given is.
                let told = reason_told given c.args.reason c.args.reasons.now usage place _ (line_at usage place) c.eq.result is below (line_stays usage place below) c.eq.ensures in
                c.loop-place.invariant.so_far given is
                ∙ ap total_of_lines (sym (left_more (λ (l : UsageLine). is_same c.args.reason (given l)) usage place (line_at usage place) below (line_stays usage place below) (told ∙ w.if-eq.false)));
            within = within_later place c.loop-place.total c.loop-place.invariant.within;
          }
    ]
