use Rattle.std.proofs.Common.{◌≡◌, ◌+◌, ◌*◌, ◌<◌, ◌^◌, ◌+ℤ◌, ◌∙◌, ap, arith, false, int_lt, length, pos, sym, take, to_z, true, unsigned_abs, w64}
use Rattle.std.proofs.lemmas.Int.{ints, to_z-of_z}
use Rattle.std.proofs.lemmas.Option.{get_or_from_slice_get}
use Rattle.line_split.specs.declared.TheConstants.{MOST_AMOUNT}
use Rattle.line_split.specs.UsageLine.{UsageLine, usage_line_of}
use Rattle.line_split.specs.Signs.{int_sum_by}
use Rattle.line_split.proofs.IntSums.{size_plus, sum_handed_on}
use Rattle.overview_documents.specs.Lines.{reversals_of}
use Rattle.overview_documents.proofs.Filtered.{count_more, filter_with, filter_without, int_sum_more}
use Rattle.overview_documents.proofs.lines.sum_of_reversals.Goals as goal
use Rattle.overview_documents.proofs.lines.sum_of_reversals.Goals.{then-line-lt0, else-line-lt0}

pub loop-place-preserved : goal.loop-place-preserved
loop-place-preserved c =
    let usage = c.args.usage.now in
    let place = c.loop-place.place in
    let line = usage_line_of c.line-line.result in
    let total = to_z w64 c.loop-place.amount-bits in
    let next = to_z w64 c.if-line-lt0.amount-bits in
    let so_far = c.loop-place.invariant.small in
    let small = c.line-line.ensures.sound.amount in
    let kept = reversals_of (take place usage) in
    let kept_next = reversals_of (take (place + 1) usage) in
    let few : (place + 1) * MOST_AMOUNT < 2 ^ 63 = omega (arith, c.len-place-end.ensures.few, c.loop-place-test.true) in
    let below : place < length usage = omega (arith, c.len-place-end.ensures.lines) in
    let here = get_or_from_slice_get usage place line line c.line-line.ensures.line in
    elim c.if-line-lt0.branch [
      | then-line-lt0 w ↦
          let passes : int_lt line.amount (pos 0) ≡ true = grind (arith, ints, to_z-of_z) in
          let more : next ≡ total +ℤ line.amount =
          w.amount-is ∙ sum_handed_on total c.line-line.result.amount (place * MOST_AMOUNT) MOST_AMOUNT so_far small (omega (arith, few)) in
          let is = filter_with (λ (line : UsageLine). int_lt line.amount (pos 0)) usage place line below here passes in record {
            count = w.lines-is ∙ count_more kept kept_next line is c.loop-place.lines c.loop-place.invariant.count;
            few = omega (arith, w.lines-is, c.loop-place.invariant.few);
            sum = more ∙ int_sum_more kept kept_next line is (λ (line : UsageLine). line.amount) total c.loop-place.invariant.sum;
            small = omega (arith, ap unsigned_abs more, size_plus total line.amount (place * MOST_AMOUNT) MOST_AMOUNT so_far small);
          }
      | else-line-lt0 w ↦
          let fails : int_lt line.amount (pos 0) ≡ false = grind (arith, ints, to_z-of_z) in
          let is = filter_without (λ (line : UsageLine). int_lt line.amount (pos 0)) usage place line below here fails in record {
            count = omega (arith, w.lines-is, c.loop-place.invariant.count, ap length is);
            few = omega (arith, w.lines-is, c.loop-place.invariant.few);
            sum = w.amount-is ∙ (c.loop-place.invariant.sum ∙ ap (int_sum_by (λ (line : UsageLine). line.amount)) (sym is));
            small = omega (arith, ap unsigned_abs w.amount-is, so_far);
          }
    ]
