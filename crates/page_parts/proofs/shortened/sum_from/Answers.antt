use Rattle.page_parts.proofs.RowSums.{amount_fits, amount_more, count_fits, count_more}
use Rattle.page_parts.proofs.shortened.sum_from.Goals as goal

pub overflow_add-others : goal.overflow_add-others
overflow_add-others c =
    count_fits c.args.rows.now c.requires.small c.args.from c.loop-place.place _ c.loop-place-test.true c.loop-place.others.count c.loop-place.invariant.count

pub overflow_add-others-in-loop-place : goal.overflow_add-others-in-loop-place
overflow_add-others-in-loop-place c =
    amount_fits c.args.rows.now c.requires.small c.args.from c.loop-place.place _ c.loop-place-test.true c.loop-place.others.amount c.loop-place.invariant.amount

pub loop-place-preserved : goal.loop-place-preserved
loop-place-preserved c = record {
  rows = c.loop-place.invariant.rows;
  count = count_more c.args.rows.now c.requires.small c.args.from c.loop-place.place _ c.loop-place-test.true c.loop-place.others.count c.loop-place.invariant.count;
  amount = amount_more c.args.rows.now c.requires.small c.args.from c.loop-place.place _ c.loop-place-test.true c.loop-place.others.amount c.loop-place.invariant.amount;
}
