use Rattle.std.proofs.Common.{◌≡◌, ◌∙◌, ◌+◌, ◌<◌, ℕ, Bool, Some, arith, length, nat_eq, sym}
use Rattle.std.specs.Prelude.{◌&&◌}
use Rattle.std.specs.Cmp.Lexicographic.{pointwise}
use Rattle.std.proofs.lemmas.Option.{get_or_from_slice_get}
use Rattle.line_split.specs.UsageLine.{UsageLine, usage_line_of}
use Rattle.line_split.specs.declared.reason.Reason.TheVariants.{Over}
use Rattle.usage_totals.specs.Totals.{is_same, reason_of}
use Rattle.check_inputs.proofs.Overclaims.{first_here, none_more}
use Rattle.check_inputs.proofs.over.find_over.Goals as goal

pub returns-then-is_over_of-clause-some : goal.returns-then-is_over_of-clause-some
returns-then-is_over_of-clause-some c =
    let lines = c.args.lines.now in
    let place = c.loop-place.place in
    let line = usage_line_of c.line-line.result in
    let passes : UsageLine → Bool = λ l. pointwise nat_eq l.work c.args.work.now && is_same Over (reason_of c.args.tis.now c.args.registry.now l) in
    let below : place < length lines = omega (arith, c.len-place-end.ensures.lines, c.loop-place-test.true) in
    let at = get_or_from_slice_get lines place line line c.line-line.ensures.line in
    let first = first_here passes 1 lines place line below at (sym c.is_over_of.ensures.over ∙ c.if-is_over_of.true) c.loop-place.invariant.0 in (
      below,
      λ d. first ∙ (λ i. Some (one_on place i, sym (get_or_from_slice_get lines place line d c.line-line.ensures.line) i)),
    )
  where
    one_on : (place : ℕ) → 1 + place ≡ place + 1
    one_on place = omega arith

pub loop-place-preserved : goal.loop-place-preserved
loop-place-preserved c =
    let lines = c.args.lines.now in
    let line = usage_line_of c.line-line.result in
    let passes : UsageLine → Bool = λ l. pointwise nat_eq l.work c.args.work.now && is_same Over (reason_of c.args.tis.now c.args.registry.now l) in
    let below : c.loop-place.place < length lines = omega (arith, c.len-place-end.ensures.lines, c.loop-place-test.true) in
    let at = get_or_from_slice_get lines c.loop-place.place line line c.line-line.ensures.line in (
      none_more passes 1 lines c.loop-place.place line below at (sym c.is_over_of.ensures.over ∙ c.if-is_over_of.false) c.loop-place.invariant.0,
      omega (arith, c.is_over_of.ensures.room, c.loop-place.invariant.1),
    )
