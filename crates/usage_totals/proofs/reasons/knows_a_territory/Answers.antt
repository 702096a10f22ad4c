use Rattle.std.proofs.Common.{◌∙◌, ◌<◌, Bool, ap, arith, length, sym}
use Rattle.std.specs.Prelude.{◌||◌}
use Rattle.std.proofs.lemmas.List.Folds.{list_any_at, list_any_more}
use Rattle.std.proofs.lemmas.Option.{get_or_from_slice_get}
use Rattle.cwr_share.specs.ClaimsOn.{is_known}
use Rattle.line_split.specs.UsageLine.{UsageLine, usage_line_of}
use Rattle.usage_totals.proofs.reasons.knows_a_territory.Goals as goal

pub returns-then-knows : goal.returns-then-knows
returns-then-knows c =
    let usage = c.args.usage.now in
    let line = usage_line_of c.line.result in
    let known : UsageLine → Bool = λ l. is_known c.args.tis.now l.territory in
    let below : c.loop-place.place < length usage = omega (arith, c.len-place-end.ensures.lines, c.loop-place-test.true) in
    let at = get_or_from_slice_get usage c.loop-place.place line line c.line.ensures.line in
    sym (list_any_at known usage c.loop-place.place line below (ap known at ∙ sym c.if-knows.ensures))

pub loop-place-preserved : goal.loop-place-preserved
loop-place-preserved c =
    let usage = c.args.usage.now in
    let line = usage_line_of c.line.result in
    let known : UsageLine → Bool = λ l. is_known c.args.tis.now l.territory in
    let below : c.loop-place.place < length usage = omega (arith, c.len-place-end.ensures.lines, c.loop-place-test.true) in
    let at = get_or_from_slice_get usage c.loop-place.place line line c.line.ensures.line in
    list_any_more known usage c.loop-place.place line below ∙ (λ i. c.loop-place.invariant i || (ap known at ∙ sym c.if-knows.ensures) i)
