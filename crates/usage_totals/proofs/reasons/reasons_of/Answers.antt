use Rattle.std.proofs.Common.{◌≡◌, ◌∙◌, ◌+◌, ◌*◌, ◌<◌, ◌≤◌, ◌^◌, ◌++◌, ◌∷◌, ◌+ℤ◌, [], ℤ, IfSome, Option, ap, arith, cond, length, pos, subst, sym, to_z, unsigned_abs, unwrap_or, w64}
use Rattle.std.proofs.lemmas.List.{map_more}
use Rattle.std.proofs.lemmas.List.Elements.{All-push}
use Rattle.std.proofs.lemmas.Option.{get_or_from_slice_get}
use Rattle.line_split.proofs.IntSums.{size_plus, sum_handed_on}
use Rattle.line_split.specs.Signs.{signed_portions_of}
use Rattle.line_split.specs.UsageLine.{usage_line_of}
use Rattle.line_split.specs.declared.TheConstants.{MOST_AMOUNT, RESIDUE}
use Rattle.line_split.specs.declared.reason.Reason.TheVariants.{Open}
use Rattle.payee_book.specs.Run.{portion_for}
use Rattle.usage_totals.specs.SoFar.{picked}
use Rattle.usage_totals.specs.Totals.{is_same, reason_of, residue_of, stays_open}
use Rattle.usage_totals.proofs.LeftLemmas.{left_if, left_more, left_picked, small_unless_none, unless_none}
use Rattle.usage_totals.proofs.TotalLemmas.{amount_kept}
use Rattle.usage_totals.proofs.reasons.reasons_of.Goals as goal

pub loop-place-preserved : goal.loop-place-preserved
loop-place-preserved c =
    let place = c.loop-place.place in
    let tis = c.args.tis.now in
    let registry = c.args.registry.now in
    let usage = c.args.usage.now in
    let below : place < length usage = omega (arith, c.len-place-end.ensures.lines, c.loop-place-test.true) in
    let line = usage_line_of c.line-line.result in
    let at = get_or_from_slice_get usage place line line c.line-line.ensures.line in
    let reason : c.unwrap_or-reason.result ≡ reason_of tis registry line = c.unwrap_or-reason.ensures ∙ ap (λ o. unwrap_or o Open) c.claims-in-loop-place.ensures.reason in
    let left = c.left_of-left.result in
    let kept : left ≡ left_if tis registry line (is_same Open (reason_of tis registry line)) =
    c.left_of-left.ensures.portion
    ∙ (λ i. cond (is_same Open (reason i)) (portion_for RESIDUE (signed_portions_of (amount_kept line.amount c.line-line.ensures.sound.amount i) (c.claims-in-loop-place.ensures.claims i))) (pos 0)) in
    let small = c.left_of-left.ensures.small in
    let opened : c.unless_none.result ≡ picked (stays_open tis registry) (residue_of tis registry) line =
    c.unless_none.ensures ∙ ap unless_none (amount_kept left small ∙ kept) ∙ left_picked tis registry line in
    let each : IfSome c.unless_none.result (λ (a : ℤ). unsigned_abs a ≤ MOST_AMOUNT) = rw (c.unless_none.ensures, amount_kept left small) (small_unless_none left small) in
    let so_far = to_z w64 c.loop-place.residue-bits in
    let few : (place + 1) * MOST_AMOUNT < 2 ^ 63 = omega (arith, c.len-place-end.ensures.few, c.loop-place-test.true) in
    let sum = sum_handed_on so_far left (place * MOST_AMOUNT) MOST_AMOUNT c.loop-place.invariant.small small (omega (arith, few)) in
    let size = size_plus so_far left (place * MOST_AMOUNT) MOST_AMOUNT c.loop-place.invariant.small small in
    record {
      reasons =
          c.in_ok-push.ensures.items
          ∙ (λ i. c.loop-place.invariant.reasons i ++ (reason ∙ ap (reason_of tis registry) (sym at)) i ∷ [])
          ∙ sym (map_more (reason_of tis registry) usage place line below);
      left_open =
          c.in_ok-push-2.ensures.items
          ∙ (λ i. c.loop-place.invariant.left_open i ++ (opened ∙ ap (picked (stays_open tis registry) (residue_of tis registry)) (sym at)) i ∷ [])
          ∙ sym (map_more (picked (stays_open tis registry) (residue_of tis registry)) usage place line below);
      each_small = rw c.in_ok-push-2.ensures.items
          (All-push (λ (o : Option ℤ). IfSome o (λ (a : ℤ). unsigned_abs a ≤ MOST_AMOUNT)) c.loop-place.left_open.items c.unless_none.result c.loop-place.invariant.each_small each);
      residue =
          sum ∙ ap (λ (z : ℤ). so_far +ℤ z) kept
          ∙ left_more tis registry usage place line below at so_far c.loop-place.invariant.residue;
      small = subst (λ (z : ℤ). unsigned_abs z ≤ (place + 1) * MOST_AMOUNT) (sym sum) (omega (arith, size));
      claims_room = omega (arith, c.claims-in-loop-place.ensures.room, c.loop-place.invariant.claims_room);
      portions_room = omega (arith, c.left_of-left.ensures.room, c.loop-place.invariant.portions_room);
    }
