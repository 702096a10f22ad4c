use Rattle.std.proofs.Common.{◌<◌, List, ℕ, false, arith, length, subst, sym, take}
use Rattle.std.proofs.lemmas.List.{length-take-le}
use Rattle.cwr_share.specs.PassedOver.{IsTallyOf}
use Rattle.usage_totals.specs.RepeatsSoFar.{rows_marked}
use Rattle.usage_totals.proofs.MarkLemmas.{rows_few, rows_no, rows_yes}
use Rattle.usage_totals.proofs.repeats.rows_marked.Goals as goal
use Rattle.usage_totals.proofs.repeats.rows_marked.Goals.{then-marks-place, else-marks-place}

pub add-requires : goal.add-requires
add-requires c =
    let place = c.loop-place.place in
    let marks = c.args.marks.now in
    omega (arith, c.loop-place.invariant.count, rows_few (take place marks), length-take-le place marks (omega arith), c.requires)

pub loop-place-preserved : goal.loop-place-preserved
loop-place-preserved c =
    let place = c.loop-place.place in
    let marks = c.args.marks.now in
    let below : place < length marks = omega arith in
    elim c.if-marks-place.branch [
      | then-marks-place w ↦
          let rows = rows_yes marks place false below w.if-marks-place.true in
          rw w.tally-is (subst (λ (l : List ℕ). IsTallyOf l w.add.new.self) (sym rows) (w.add.ensures (rows_marked (take place marks)) c.loop-place.invariant))
      | else-marks-place w ↦
          rw w.tally-is (subst (λ (rows : List ℕ). IsTallyOf rows c.loop-place.tally) (sym (rows_no marks place false below w.if-marks-place.false)) c.loop-place.invariant)
    ]
