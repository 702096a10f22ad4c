use Rattle.std.proofs.Common.{◌≡◌, ◌+◌, ◌*◌, ◌<◌, ◌^◌, ◌+ℤ◌, ◌∙◌, ap, arith, false, length, rules, sym, take, to_z, true, unsigned_abs, w64}
use Rattle.std.proofs.lemmas.Option.{get_or_from_slice_get}
use Rattle.line_split.specs.declared.TheConstants.{MOST_AMOUNT}
use Rattle.line_split.specs.UsageLine.{UsageLine, usage_line_of}
use Rattle.line_split.specs.Signs.{int_sum_by}
use Rattle.line_split.proofs.IntSums.{size_plus, sum_handed_on}
use Rattle.payee_portions.specs.Sums.{is_same}
use Rattle.overview_documents.specs.Lines.{lines_for}
use Rattle.overview_documents.proofs.Filtered.{count_more, filter_with, filter_without, int_sum_more}
use Rattle.overview_documents.proofs.lines.sum_of_right.Goals as goal
use Rattle.overview_documents.proofs.lines.sum_of_right.Goals.{then-eq, else-eq}

pub loop-place-preserved : goal.loop-place-preserved
loop-place-preserved c =
    let usage = c.args.usage.now in
    let place = c.loop-place.place in
    let line = usage_line_of c.line-line.result in
    let total = to_z w64 c.loop-place.amount-bits in
    let next = to_z w64 c.if-eq.amount-bits in
    let so_far = c.loop-place.invariant.small in
    let small = c.line-line.ensures.sound.amount in
    let kept = lines_for c.args.right (take place usage) in
    let kept_next = lines_for c.args.right (take (place + 1) usage) in
    let few : (place + 1) * MOST_AMOUNT < 2 ^ 63 = omega (arith, c.len-place-end.ensures.few, c.loop-place-test.true) in
    let below : place < length usage = omega (arith, c.len-place-end.ensures.lines) in
    let here = get_or_from_slice_get usage place line line c.line-line.ensures.line in
    elim c.if-eq.branch [
      | then-eq w ↦
          let passes : is_same line.right c.args.right ≡ true = search rules in
          let more : next ≡ total +ℤ line.amount =
          w.amount-is ∙ sum_handed_on total c.line-line.result.amount (place * MOST_AMOUNT) MOST_AMOUNT so_far small (omega (arith, few)) in
          let is = filter_with (λ (line : UsageLine). is_same line.right c.args.right) usage place line below here passes in record {
            count = w.lines-is ∙ count_more kept kept_next line is c.loop-place.lines c.loop-place.invariant.count;
            few = omega (arith, w.lines-is, c.loop-place.invariant.few);
            sum = more ∙ int_sum_more kept kept_next line is (λ (line : UsageLine). line.amount) total c.loop-place.invariant.sum;
            small = omega (arith, ap unsigned_abs more, size_plus total line.amount (place * MOST_AMOUNT) MOST_AMOUNT so_far small);
          }
      | else-eq w ↦
          let fails : is_same line.right c.args.right ≡ false = search rules in
          let is = filter_without (λ (line : UsageLine). is_same line.right c.args.right) usage place line below here fails in record {
            count = omega (arith, w.lines-is, c.loop-place.invariant.count, ap length is);
            few = omega (arith, w.lines-is, c.loop-place.invariant.few);
            sum = w.amount-is ∙ (c.loop-place.invariant.sum ∙ ap (int_sum_by (λ (line : UsageLine). line.amount)) (sym is));
            small = omega (arith, ap unsigned_abs w.amount-is, so_far);
          }
    ]
