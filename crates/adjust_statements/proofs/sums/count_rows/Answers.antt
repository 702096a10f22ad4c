use Rattle.std.proofs.Common.{◌≤◌, ◌+◌, ◌*◌, ◌^◌, arith, length, unsigned_abs}
use Rattle.std.proofs.lemmas.List.Elements.{All-weaker}
use Rattle.merge_statements.specs.Statements.{Portion}
use Rattle.adjust_statements.proofs.RowLemmas.{counts_all, counts_first, counts_last, counts_more}
use Rattle.adjust_statements.proofs.sums.count_rows.Goals as goal

pub loop-row-init : goal.loop-row-init
loop-row-init c = record {
  counted = λ kind rows of. counts_first c.args.is_paid c.args.name.now kind rows c.args.text.now c.args.sums.now c.in_ok-rows.rows.left c.in_ok-rows.ensures.left of;
  small = λ count were. All-weaker (λ (sum : Portion). unsigned_abs sum.amount ≤ 1000000000000 * count) (λ (sum : Portion). unsigned_abs sum.amount ≤ 1000000000000 * (count + 0))
      (λ sum is. omega (arith, is)) c.args.sums.now were;
}

pub loop-row-preserved : goal.loop-row-preserved
loop-row-preserved c =
    let l = c.loop-row in
    let step = c.in_ok-found.ensures in
    record {
      counted = λ kind rows of. counts_more c.args.is_paid c.args.name.now kind rows c.args.text.now c.args.sums.now l.rows.left c.count_next.new.rows.left l.sums c.count_next.new.sums l._row
          c.in_ok-found.found c.if-not-found.false of.of_portions (l.invariant.counted kind rows of) step.row step.end;
      small = λ count were. All-weaker (λ (sum : Portion). unsigned_abs sum.amount ≤ 1000000000000 * (count + l._row + 1)) (λ (sum : Portion). unsigned_abs sum.amount ≤ 1000000000000 * (count + (l._row + 1)))
          (λ sum is. omega (arith, is)) c.count_next.new.sums (step.small (count + l._row) (l.invariant.small count were));
    }

pub count_next-requires : goal.count_next-requires
count_next-requires c =
    let l = c.loop-row in
    All-weaker (λ (sum : Portion). unsigned_abs sum.amount ≤ 1000000000000 * (2 ^ 64 + l._row)) (λ (sum : Portion). unsigned_abs sum.amount ≤ 1000000000000 * 2 ^ 66)
    (λ sum is. omega (arith, is)) l.sums (l.invariant.small (2 ^ 64) c.requires)

pub returns-then-not-found-clause-counted : goal.returns-then-not-found-clause-counted
returns-then-not-found-clause-counted c = λ kind rows of.
    let l = c.loop-row in
    let step = c.in_ok-found.ensures in
    counts_last c.args.is_paid c.args.name.now kind rows c.args.text.now c.args.sums.now l.rows.left c.count_next.new.rows.left l.sums c.count_next.new.sums l._row
    c.in_ok-found.found c.if-not-found.true of.of_portions (l.invariant.counted kind rows of) step.row step.end

pub returns-then-not-found-clause-small : goal.returns-then-not-found-clause-small
returns-then-not-found-clause-small c = λ count were.
    let l = c.loop-row in
    All-weaker (λ (sum : Portion). unsigned_abs sum.amount ≤ 1000000000000 * (count + l._row + 1)) (λ (sum : Portion). unsigned_abs sum.amount ≤ 1000000000000 * (count + length c.args.text.now))
    (λ sum is. omega (arith, is, c.loop-row-test.true)) c.count_next.new.sums (c.in_ok-found.ensures.small (count + l._row) (l.invariant.small count were))

pub returns-clause-counted : goal.returns-clause-counted
returns-clause-counted c = λ kind rows of.
    let l = c.loop-row in
    counts_all c.args.is_paid c.args.name.now kind rows c.args.text.now c.args.sums.now l.rows.left l.sums l._row c.loop-row-test.false (l.invariant.counted kind rows of)

pub returns-clause-small : goal.returns-clause-small
returns-clause-small c = λ count were.
    let l = c.loop-row in
    All-weaker (λ (sum : Portion). unsigned_abs sum.amount ≤ 1000000000000 * (count + l._row)) (λ (sum : Portion). unsigned_abs sum.amount ≤ 1000000000000 * (count + length c.args.text.now))
    (λ sum is. omega (arith, is, l.auto._row-end)) l.sums (l.invariant.small count were)
