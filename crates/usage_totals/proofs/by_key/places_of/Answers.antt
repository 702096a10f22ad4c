use Rattle.std.proofs.Common.{◌≡◌, ◌∙◌, ◌<◌, ◌≤◌, ◌++◌, ◌∷◌, [], List, None, ap, arith, length, map, sym, unsigned_abs}
use Rattle.std.specs.List.{All}
use Rattle.std.proofs.lemmas.List.{length_push, map_push}
use Rattle.std.proofs.lemmas.List.Elements.{All-push}
use Rattle.std.proofs.lemmas.Option.{get_or_from_slice_get}
use Rattle.line_split.specs.UsageLine.{usage_line_of}
use Rattle.line_split.specs.declared.TheConstants.{MOST_AMOUNT}
use Rattle.usage_totals.specs.SoFar.{counted_at, hash_by, line_at, some_line}
use Rattle.usage_totals.specs.declared.by_key.Hashed.{Hashed}
use Rattle.usage_totals.proofs.AmountLemmas.{none_more, one_more}
use Rattle.usage_totals.proofs.TotalLemmas.{amount_kept, line_stays}
use Rattle.usage_totals.proofs.by_key.places_of.Goals as goal
use Rattle.usage_totals.proofs.by_key.places_of.Goals.{in-Some+in_ok-push, in_default}

none_of : {X : Type 0} (P : X → Type 0) (xs : List X) → xs ≡ [] → All P xs
none_of P xs none = rw none (λ k d below. absurd (omega (arith, below)))

pub loop-place-init : goal.loop-place-init
loop-place-init g c =
    let usage = c.args.usage.now in
    let none = c.in_ok-places.ensures.items in
    let places = c.in_ok-places.places.items in
    record {
      within = none_of (λ (hashed : Hashed). hashed.place < length usage) places none;
      small = none_of (λ (hashed : Hashed). unsigned_abs hashed.amount ≤ MOST_AMOUNT) places none;
      each = none_of (λ (hashed : Hashed). hashed.hash ≡ hash_by (g.K.Hash.hash_input (g.K.Key.key (line_at usage hashed.place)))) places none;
      few = omega (arith, ap (λ (l : List Hashed). length l) none);
      lines = λ counts amount is. ap (map (counted_at usage)) none;
    }

pub loop-place-preserved : goal.loop-place-preserved
loop-place-preserved g c =
    let place = c.loop-place.place in
    let usage = c.args.usage.now in
    let amounts = c.args.amounts.now in
    let below : place < length usage = omega (arith, c.len-place-end.ensures.lines, c.loop-place-test.true) in
    let old = c.loop-place.places.items in
    let at = line_stays usage place below in
    let line = line_at usage place in
    elim c.match-amounts-place.branch [
      | in-Some+in_ok-push w ↦
          let told = w.in-Some.is in
          let small : unsigned_abs w.in-Some.amount ≤ MOST_AMOUNT = rw told at (c.requires.small place None (omega (arith, below, c.requires.length))) in
          let hashed : Hashed = record { hash = w.hash_of.result; place = place; amount = w.in-Some.amount } in
          let pushed : w.push.new.self.items ≡ old ++ hashed ∷ [] = rw (amount_kept w.in-Some.amount small) at w.in_ok-push.ensures.items in
          let read = get_or_from_slice_get usage place (usage_line_of w.line.result) some_line w.line.ensures.line in
          let hash : hashed.hash ≡ hash_by (g.K.Hash.hash_input (g.K.Key.key line)) =
          w.hash_of.ensures ∙ ap (λ k. hash_by (g.K.Hash.hash_input k)) (w.of_line-key.ensures ∙ ap g.K.Key.key (sym read)) in
          rw (w.places-is, pushed) record {
            within = All-push (λ (h : Hashed). h.place < length usage) old hashed c.loop-place.invariant.within below;
            small = All-push (λ (h : Hashed). unsigned_abs h.amount ≤ MOST_AMOUNT) old hashed c.loop-place.invariant.small small;
            each = All-push (λ (h : Hashed). h.hash ≡ hash_by (g.K.Hash.hash_input (g.K.Key.key (line_at usage h.place)))) old hashed c.loop-place.invariant.each hash;
            few = omega (arith, c.loop-place.invariant.few, length_push old hashed);
            lines = λ counts amount is.
                map_push (counted_at usage) old hashed
                ∙ one_more counts amount amounts usage place line is below at None w.in-Some.amount (map (counted_at usage) old) told (c.loop-place.invariant.lines counts amount is);
          }
      | in_default w ↦
          let told = w.in_default.not-Some in
          rw w.places-is record {
            within = c.loop-place.invariant.within;
            small = c.loop-place.invariant.small;
            each = c.loop-place.invariant.each;
            few = omega (arith, c.loop-place.invariant.few);
            lines = λ counts amount is. none_more counts amount amounts usage place line is below at None (map (counted_at usage) old) told (c.loop-place.invariant.lines counts amount is);
          }
    ]

pub returns-clause-hashed : goal.returns-clause-hashed
returns-clause-hashed g c = record {
  within = c.loop-place.invariant.within;
  small = c.loop-place.invariant.small;
  hash = λ k. hash_by (g.K.Hash.hash_input k);
  alike = λ x y same. ap hash_by (g.met.K.Hash.respects_eq x y same);
  each = c.loop-place.invariant.each;
}
