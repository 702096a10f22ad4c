use Rattle.std.proofs.Common.{◌≡◌, ◌≤◌, ◌<◌, ◌∙◌, ◌++◌, ◌∷◌, [], ℕ, ℤ, Bool, List, None, Option, Some, ap, arith, cond, get_or, length, pos, slice_get, sym, unsigned_abs}
use Rattle.std.specs.Option.{option_map}
use Rattle.std.proofs.lemmas.List.{get_or_default, length_push, map_push}
use Rattle.std.proofs.lemmas.List.Elements.{All-push}
use Rattle.document_names.specs.FirstTexts.{text_in}
use Rattle.line_split.specs.UsageLine.{UsageLine}
use Rattle.line_split.specs.declared.TheConstants.{MOST_AMOUNT}
use Rattle.line_split.specs.declared.reason.Reason.TheVariants.{Open}
use Rattle.payee_portions.specs.Held.{held_by, is_reason}
use Rattle.payee_portions.specs.Portions as portions
use Rattle.payee_portions.specs.Shown.{portion_shown}
use Rattle.payee_portions.specs.declared.portion.Portion.{Portion}
use Rattle.payee_portions.proofs.TurnLemmas.{made_of, nothing_more, something_more}
use Rattle.payee_portions.proofs.held.held_in_turn.Goals as goal
use Rattle.payee_portions.proofs.held.held_in_turn.Goals.{then-is_for+in_ok-push, else-is_for}

pub loop-place-preserved : goal.loop-place-preserved
loop-place-preserved c =
    let residue = c.args.residue.now in
    let reasons = c.args.reasons.now in
    let usage = c.args.lines.usage.now in
    let place = c.loop-place.place in
    let none : ℕ × ℤ = (0, pos 0) in
    let posting = get_or residue place none in
    let by : ℕ × ℤ → UsageLine → portions.Portion = held_by c.args.lines.territories.now c.args.lines.registry.now (text_in c.args.lines.titles.now) in
    let made : ℕ × ℤ → Option portions.Portion =
    λ posting. cond (is_reason (get_or reasons posting.0 Open) c.args.reason) (option_map (by posting) (slice_get usage posting.0)) None in
    let within : place < length residue = c.loop-place-test.true in
    let inside = c.requires.lines place none within in
    let asked : is_reason (get_or reasons posting.0 Open) c.args.reason ≡ c.is_for.result =
    ap (λ r. is_reason r c.args.reason) (get_or_default reasons posting.0 Open _ (omega (arith, inside, c.requires.reasons))) ∙ sym c.is_for.ensures in
    elim c.if-is_for.branch [
      | then-is_for+in_ok-push w ↦
          let before = c.loop-place.list.items in
          let portion = w.held.result in
          let is : made posting ≡ Some (portion_shown portion) =
          ap (λ (b : Bool). cond b (option_map (by posting) (slice_get usage posting.0)) None) (asked ∙ w.if-is_for.true)
          ∙ made_of usage posting.0 (by posting) (portion_shown portion) inside w.held.ensures.portion in record {
            portions =
                rw (w.list-is, w.in_ok-push.ensures.items)
                (map_push portion_shown before portion
                ∙ (ap (λ (l : List portions.Portion). l ++ portion_shown portion ∷ []) c.loop-place.invariant.portions
                ∙ sym (something_more made residue place none (portion_shown portion) within is)));
            few = omega (arith, ap (λ v. length v.items) w.list-is, ap length w.in_ok-push.ensures.items, length_push before portion, c.loop-place.invariant.few);
            small =
                rw (w.list-is, w.in_ok-push.ensures.items)
                (All-push (λ (p : Portion). unsigned_abs p.amount ≤ MOST_AMOUNT) before portion c.loop-place.invariant.small
                (rw w.held.ensures.amount (c.requires.small place none within)));
            room = rw w.claims-is (omega (arith, w.held.ensures.room, c.loop-place.invariant.room));
          }
      | else-is_for w ↦
          let isnt : made posting ≡ None =
          ap (λ (b : Bool). cond b (option_map (by posting) (slice_get usage posting.0)) None) (asked ∙ w.if-is_for.false) in record {
            portions = rw w.list-is (c.loop-place.invariant.portions ∙ sym (nothing_more made residue place none within isnt));
            few = omega (arith, ap (λ v. length v.items) w.list-is, c.loop-place.invariant.few);
            small = rw w.list-is c.loop-place.invariant.small;
            room = rw w.claims-is c.loop-place.invariant.room;
          }
    ]
