use Rattle.std.proofs.Common.{◌∙◌, ◌<◌, ◌^◌, ℕ, Bool, true, ap, arith, get_or, length, set, slice_index}
use Rattle.std.specs.Prelude.{◌&&◌}
use Rattle.std.proofs.lemmas.List.{length-set}
use Rattle.usage_totals.specs.RepeatsSoFar.{is_repeated_at, place_in}
use Rattle.usage_totals.proofs.RepeatLemmas.{all_found, marked, unmarked}
use Rattle.usage_totals.proofs.repeats.marks.Goals as goal
use Rattle.usage_totals.proofs.repeats.marks.Goals.{then-has_same_before, else-has_same_before}

pub loop-next-preserved : goal.loop-next-preserved
loop-next-preserved c =
    let usage = c.args.usage.now in
    let order = c.args.order.now in
    let next = c.loop-next.next in
    let marks = c.loop-next.repeated.items in
    let below : next < length order = omega (arith, c.loop-next-test.true, c.loop-next.auto.next-end) in
    let each = c.loop-next.invariant.each in
    elim c.if-has_same_before.branch [
      | then-has_same_before w ↦
          let within : place_in (slice_index order next) < length marks = omega (arith, c.requires.within next 0 below, c.loop-next.invariant.long) in
          rw w.repeated-is record {
            long = length-set marks w.place_of.result true ∙ c.loop-next.invariant.long;
            each = λ place d there.
                ap (λ (n : ℕ). get_or (set marks n true) place d) w.place_of.ensures
                ∙ marked usage order next below marks place d (each place d there) within w.if-has_same_before.ensures;
          }
      | else-has_same_before w ↦ rw w.repeated-is record {
        long = c.loop-next.invariant.long;
        each = λ place d there. unmarked usage order next below marks place d (each place d there) w.if-has_same_before.ensures;
      }
    ]

pub returns-clause-marks : goal.returns-clause-marks
returns-clause-marks c =
    let usage = c.args.usage.now in
    let few : length usage < 2 ^ 32 = omega (arith, c.len.ensures.lines, c.len.ensures.few) in
    record {
      long = c.loop-next.invariant.long;
      each = λ place d below.
          c.loop-next.invariant.each place d below
          ∙ ap (λ (b : Bool). b && is_repeated_at usage place) (all_found usage c.args.order.now c.requires few place c.loop-next.next below (omega (arith, c.loop-next-test.false)));
    }
