use Rattle.std.proofs.Common.{filter, map}
use Rattle.std.specs.List.Sorted.{IsPermutation}
use Rattle.std.proofs.lemmas.Result.{IfOk-weaker}
use Rattle.line_split.specs.UsageLine.{UsageLine}
use Rattle.usage_totals.specs.SoFar.{amount_at}
use Rattle.usage_totals.proofs.AnyOrderLemmas.{amounts_moved, greatest_in_any_order}
use Rattle.usage_totals.proofs.by_key.greatest.Goals as goal

pub returns : goal.returns
returns g c =
    let usage = c.args.usage.now in
    let key = g.K.Key.key in
    let places = c.in_ok-places.places.items in
    let sorted = c.as_slice.result.now in
    let same : IsPermutation places sorted = rw c.as_slice.ensures.value c.bring_together.ensures.same in
    IfOk-weaker c.greatest_of.result _ _ (λ ranked are counts amount is.
    let these = filter counts usage in
    let moved = amounts_moved key amount usage these places sorted (c.in_ok-places.ensures.lines counts amount is) same in
    greatest_in_any_order g.K.PartialEq.eq (map (λ (line : UsageLine). (key line, amount line)) these) (map (amount_at key usage) sorted) moved
    g.K.Ord.cmp c.args.most ranked are) c.greatest_of.ensures
