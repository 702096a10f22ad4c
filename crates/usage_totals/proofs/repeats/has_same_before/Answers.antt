use Rattle.std.proofs.Common.{◌≡◌, ◌∙◌, ◌-◌, ⊎_elim, ℕ, List, Some, ap, arith, slice_get, slice_index, sym}
use Rattle.std.proofs.lemmas.Bool.{cases_lt}
use Rattle.std.proofs.lemmas.Option.{get_or_from_slice_get}
use Rattle.line_split.specs.UsageLine.{UsageLine}
use Rattle.usage_totals.specs.Repeats.{is_same_line}
use Rattle.usage_totals.specs.RepeatsSoFar.{place_in}
use Rattle.usage_totals.specs.SoFar.{line_at, some_line}
use Rattle.usage_totals.proofs.RepeatLemmas.{has_none, has_same}
use Rattle.usage_totals.proofs.repeats.has_same_before.Goals as goal

-- what the test of two lines says
tested : (lines : List UsageLine) (place place' one other : ℕ) (x y : UsageLine) → place ≡ one → place' ≡ other → slice_get lines place ≡ Some x → slice_get lines place' ≡ Some y
    → is_same_line (line_at lines one) (line_at lines other) ≡ is_same_line x y
tested lines place place' one other x y same same' first second =
    let x_at : line_at lines one ≡ x = ap (line_at lines) (sym same) ∙ get_or_from_slice_get lines place x some_line first in
    let y_at : line_at lines other ≡ y = ap (line_at lines) (sym same') ∙ get_or_from_slice_get lines place' y some_line second in
    λ i. is_same_line (x_at i) (y_at i)

pub returns-then-are_same : goal.returns-then-are_same
returns-then-are_same c =
    let told = tested c.args.usage.now c.place_of.result c.place_of-in-loop-before.result _ _ _ _ c.place_of.ensures c.place_of-in-loop-before.ensures c.line-line.ensures.line c.line.ensures.line in
    sym (has_same c.args.usage.now c.args.order.now c.requires.order c.args.next c.requires.next (c.loop-before.before - 1) (omega (arith, c.loop-before-test.true, c.loop-before.invariant.low))
    c.if-order-before.true (told ∙ sym c.if-are_same.ensures))

pub loop-before-preserved : goal.loop-before-preserved
loop-before-preserved c =
    let usage = c.args.usage.now in
    let order = c.args.order.now in
    let before = c.loop-before.before in
    let told = tested usage c.place_of.result c.place_of-in-loop-before.result _ _ _ _ c.place_of.ensures c.place_of-in-loop-before.ensures c.line-line.ensures.line c.line.ensures.line in
    record {
      low = omega (arith, c.loop-before.invariant.low);
      none = λ k from below. ⊎_elim
          (λ lt.
          let here : k ≡ before - 1 = omega (arith, lt, from) in
          ap (λ n. is_same_line (line_at usage (place_in (slice_index order c.args.next))) (line_at usage (place_in (slice_index order n)))) here ∙ told ∙ sym c.if-are_same.ensures)
          (λ later. c.loop-before.invariant.none k later below)
          (cases_lt k before);
    }

pub returns-else-order-before : goal.returns-else-order-before
returns-else-order-before c =
    sym (has_none c.args.usage.now c.args.order.now c.requires.order c.args.next c.requires.next c.loop-before.before c.loop-before.invariant.low
    (λ some. c.if-order-before.false) c.loop-before.invariant.none)

pub returns-after-loop-before : goal.returns-after-loop-before
returns-after-loop-before c =
    sym (has_none c.args.usage.now c.args.order.now c.requires.order c.args.next c.requires.next c.loop-before.before c.loop-before.invariant.low
    (λ some. absurd (omega (arith, some, c.loop-before-test.false))) c.loop-before.invariant.none)
