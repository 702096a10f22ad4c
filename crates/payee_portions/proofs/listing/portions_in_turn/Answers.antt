use Rattle.std.proofs.Common.{◌≤◌, ◌<◌, ◌∙◌, ◌++◌, ◌∷◌, [], ℕ, ℤ, List, Option, ap, arith, get_or, length, pos, slice_get, sym, unsigned_abs}
use Rattle.std.specs.Option.{option_map}
use Rattle.std.proofs.lemmas.List.{length_push, map_push}
use Rattle.std.proofs.lemmas.List.Elements.{All-push}
use Rattle.document_names.specs.FirstTexts.{text_in}
use Rattle.line_split.specs.declared.TheConstants.{MOST_AMOUNT}
use Rattle.payee_portions.specs.Portions as portions
use Rattle.payee_portions.specs.Portions.{portion_by}
use Rattle.payee_portions.specs.Shown.{portion_shown}
use Rattle.payee_portions.specs.declared.portion.Portion.{Portion}
use Rattle.payee_portions.proofs.TurnLemmas.{made_of, something_more}
use Rattle.payee_portions.proofs.listing.portions_in_turn.Goals as goal

pub loop-place-preserved : goal.loop-place-preserved
loop-place-preserved c =
    let statement = c.args.statement.now in
    let usage = c.args.usage.now in
    let place = c.loop-place.place in
    let made : ℕ × ℤ → Option portions.Portion =
    λ posting. option_map (portion_by c.args.tis.now c.args.registry.now (text_in c.args.titles.now) c.args.account posting) (slice_get usage posting.0) in
    let before = c.loop-place.list.items in
    let portion = c.portion_of.result in
    let none : ℕ × ℤ = (0, pos 0) in
    let within : place < length statement = c.loop-place-test.true in
    let inside = c.requires.lines place none within in
    let is = made_of usage (get_or statement place none).0 (portion_by c.args.tis.now c.args.registry.now (text_in c.args.titles.now) c.args.account (get_or statement place none))
    (portion_shown portion) inside c.portion_of.ensures.portion in record {
      portions =
          rw c.in_ok-push.ensures.items
          (map_push portion_shown before portion
          ∙ (ap (λ (l : List portions.Portion). l ++ portion_shown portion ∷ []) c.loop-place.invariant.portions
          ∙ sym (something_more made statement place none (portion_shown portion) within is)));
      count = omega (arith, ap length c.in_ok-push.ensures.items, length_push before portion, c.loop-place.invariant.count);
      small =
          rw c.in_ok-push.ensures.items
          (All-push (λ (p : Portion). unsigned_abs p.amount ≤ MOST_AMOUNT) before portion c.loop-place.invariant.small
          (rw c.portion_of.ensures.amount (c.requires.small place none within)));
      room = omega (arith, c.portion_of.ensures.room, c.loop-place.invariant.room);
    }
