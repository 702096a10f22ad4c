use Rattle.std.proofs.Common.{◌∙◌, ◌+◌, ◌*◌, ◌<◌, ◌≤◌, ◌^◌, ◌+ℤ◌, ℤ, ap, arith, subst, sym, to_z, unsigned_abs, w64}
use Rattle.std.proofs.lemmas.Option.{get_or_from_slice_get}
use Rattle.line_split.specs.declared.TheConstants.{MOST_AMOUNT}
use Rattle.line_split.specs.UsageLine.{UsageLine, usage_line_of}
use Rattle.line_split.proofs.IntSums.{int_sum_by_more, size_plus, sum_handed_on}
use Rattle.overview_documents.proofs.lines.sum_of_lines.Goals as goal

pub loop-place-preserved : goal.loop-place-preserved
loop-place-preserved c =
    let line = usage_line_of c.line.result in
    let total = to_z w64 c.loop-place.amount-bits in
    let more = int_sum_by_more (λ (line : UsageLine). line.amount) c.args.usage.now c.loop-place.place line (omega arith) in
    let at = ap (λ (line : UsageLine). line.amount) (get_or_from_slice_get c.args.usage.now c.loop-place.place line line c.line.ensures.line) in
    let few : (c.loop-place.place + 1) * MOST_AMOUNT < 2 ^ 63 = omega (arith, c.len-place-end.ensures.few, c.loop-place-test.true) in
    let sum = sum_handed_on total c.line.result.amount (c.loop-place.place * MOST_AMOUNT) MOST_AMOUNT c.loop-place.invariant.small c.line.ensures.sound.amount (omega (arith, few)) in
    let size = size_plus total c.line.result.amount (c.loop-place.place * MOST_AMOUNT) MOST_AMOUNT c.loop-place.invariant.small c.line.ensures.sound.amount in
    record {
      sum = sum ∙ ((λ i. c.loop-place.invariant.sum i +ℤ sym at i) ∙ sym more);
      small = subst (λ (z : ℤ). unsigned_abs z ≤ (c.loop-place.place + 1) * MOST_AMOUNT) (sym sum) (omega (arith, size));
    }
