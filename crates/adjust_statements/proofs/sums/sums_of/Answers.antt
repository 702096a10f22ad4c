use Rattle.std.proofs.Common.{◌∙◌, ◌≤◌, ◌+◌, ◌*◌, ◌^◌, length, ap, arith, false, subst, sym, true, unsigned_abs}
use Rattle.std.proofs.lemmas.List.Elements.{All-nil, All-weaker}
use Rattle.merge_statements.specs.Statements.{Portion}
use Rattle.adjust_statements.proofs.RowLemmas.{sums_are}
use Rattle.adjust_statements.specs.Adjusted.{rests_for}
use Rattle.adjust_statements.specs.SoFar.{AreSmall, AreSums, with_rows}
use Rattle.adjust_statements.proofs.sums.sums_of.Goals as goal

pub count_rows-requires-2 : goal.count_rows-requires-2
count_rows-requires-2 c =
    let none : AreSmall 0 c.new-sums.result = subst (AreSmall 0) (sym c.new-sums.ensures) (All-nil (λ (sum : Portion). unsigned_abs sum.amount ≤ 1000000000000 * 0)) in
    All-weaker (λ (sum : Portion). unsigned_abs sum.amount ≤ 1000000000000 * (0 + length c.args.paid.now)) (λ (sum : Portion). unsigned_abs sum.amount ≤ 1000000000000 * 2 ^ 64)
    (λ sum is. omega (arith, is, c.in_ok-count_rows.ensures.short)) c.count_rows.new.sums (c.in_ok-count_rows.ensures.small 0 none)

pub returns : goal.returns
returns c = λ kind before after paid right.
    subst (AreSums (rests_for c.args.name.now before) (rests_for c.args.name.now after)) (sym (c.in_ok-count_rows-2.ensures.counted kind after right
    ∙ ap (with_rows false c.args.name.now after) (c.in_ok-count_rows.ensures.counted kind before paid ∙ ap (with_rows true c.args.name.now before) c.new-sums.ensures)))
    (sums_are c.args.name.now before after paid.sound right.sound)
