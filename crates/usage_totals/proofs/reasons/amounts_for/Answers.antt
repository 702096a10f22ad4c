use Rattle.std.proofs.Common.{◌≡◌, ◌∙◌, ◌<◌, ◌≤◌, ◌++◌, ◌∷◌, [], ℤ, Bool, true, false, IfSome, List, None, Option, Some, ap, arith, cond, length, refl, sym, unsigned_abs}
use Rattle.std.specs.Bool.{then_some}
use Rattle.std.proofs.lemmas.List.{length_push, map_more}
use Rattle.std.proofs.lemmas.List.Elements.{All-push}
use Rattle.std.proofs.lemmas.Option.{get_or_from_slice_get}
use Rattle.line_split.specs.UsageLine.{UsageLine, usage_line_of}
use Rattle.line_split.specs.declared.TheConstants.{MOST_AMOUNT}
use Rattle.usage_totals.specs.SoFar.{picked}
use Rattle.usage_totals.specs.Totals.{is_same}
use Rattle.usage_totals.proofs.TotalLemmas.{amount_kept, reason_told}
use Rattle.usage_totals.proofs.reasons.amounts_for.Goals as goal

some_is : (b : Bool) (a : ℤ) → then_some b a ≡ cond b (Some a) None
some_is true a = refl
some_is false a = refl

some_small : (b : Bool) (a : ℤ) → unsigned_abs a ≤ MOST_AMOUNT → IfSome (then_some b a) (λ (x : ℤ). unsigned_abs x ≤ MOST_AMOUNT)
some_small true a small = small
some_small false a small = tt

pub loop-place-preserved : goal.loop-place-preserved
loop-place-preserved c =
    let place = c.loop-place.place in
    let usage = c.args.usage.now in
    let below : place < length usage = omega (arith, c.len-place-end.ensures.lines, c.loop-place-test.true) in
    let line = usage_line_of c.line-amount.result in
    let at = get_or_from_slice_get usage place line line c.line-amount.ensures.line in
    let kept = amount_kept line.amount c.line-amount.ensures.sound.amount in
    let some : c.then_some.result ≡ then_some c.eq.result line.amount = rw kept at c.then_some.ensures in
    let items = c.in_ok-push.ensures.items in
    let IsSmall : Option ℤ → Type 0 = λ o. IfSome o (λ (a : ℤ). unsigned_abs a ≤ MOST_AMOUNT) in
    record {
      so_far = λ given is.
          let told = reason_told given c.args.reason c.args.reasons.now usage place _ line c.eq.result is below at c.eq.ensures in
          let pick : UsageLine → Option ℤ = picked (λ (l : UsageLine). is_same c.args.reason (given l)) (λ (l : UsageLine). l.amount) in
          let one : c.then_some.result ≡ pick line =
          some ∙ some_is c.eq.result line.amount ∙ ap (λ (b : Bool). cond b (Some line.amount) None) (sym told) in
          items ∙ (λ i. c.loop-place.invariant.so_far given is i ++ (one ∙ ap pick (sym at)) i ∷ []) ∙ sym (map_more pick usage place line below);
      long = omega (arith, c.loop-place.invariant.long, length_push c.loop-place.amounts.items c.then_some.result, ap (λ (l : List (Option ℤ)). length l) items);
      small = rw (items, some)
          (All-push IsSmall c.loop-place.amounts.items (then_some c.eq.result line.amount) c.loop-place.invariant.small (some_small c.eq.result line.amount c.line-amount.ensures.sound.amount));
    }
