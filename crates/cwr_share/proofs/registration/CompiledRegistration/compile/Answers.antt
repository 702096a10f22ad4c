use Rattle.std.proofs.Common.{◌≡◌, ◌∙◌, ◌<◌, ◌≤◌, ◌++◌, [], All, AllPairs, List, ap, arith, length, map, refl, subst, sym, take, ℕ}
use Rattle.std.proofs.lemmas.List.{length-map, length-take-le, take_all}
use Rattle.std.proofs.lemmas.List.Elements.{All-nil, All-push}
use Rattle.std.specs.List.{HoldsAt}
use Rattle.std.proofs.lemmas.List.Sorted.{IsPermutation-refl}
use Rattle.std.specs.List.Sorted.{IsPermutation}
use Rattle.cwr_share.specs.declared.TheConstants.{MOST_SHARE_LINES}
use Rattle.cwr_share.specs.Compiled.{AreInOrder, IsCompiled, IsInOrder, Numbered, in_order, accounts_of, line_by, lines_of_parties, names_of, with_place}
use Rattle.cwr_share.specs.Registrations.{ShareLine}
use Rattle.cwr_share.specs.declared.claim_line.ClaimLine.{ClaimLine}
use Rattle.cwr_share.specs.declared.registration.Placed.{Placed}
use Rattle.cwr_share.specs.declared.share_line.RegisteredShare.{RegisteredShare}
use Rattle.cwr_share.proofs.ClaimLemmas.{length-lines_of_parties}
use Rattle.cwr_share.proofs.CompiledLemmas.{compiled_next, compiled_none, kept_next, once_from_pairs, own_places}
use Rattle.cwr_share.proofs.OrderLemmas.{IsGathered, each_in_order, moved_more, places_more}
use Rattle.cwr_share.proofs.PartyLemmas.{name_found, name_missing}
use Rattle.cwr_share.proofs.registration.CompiledRegistration.compile.Goals as goal
use Rattle.cwr_share.proofs.registration.CompiledRegistration.compile.Goals.{in-Some+in_ok-push+in_ok-push-2, in_default}

pub loop-place-init : goal.loop-place-init
loop-place-init c =
    rw (c.clear.ensures.items, c.clear-2.ensures.items, c.clear-3.ensures.items) (record {
      gathered = record {
        claimants = [];
        compiled = compiled_none (names_of c.args.accounts.now.entries);
        places = All-nil (λ (claimant : ℕ × List ℕ). AllPairs (λ place later. place < later) claimant.1);
        moved = IsPermutation-refl [];
      };
      kept = refl;
      known = All-nil (λ (share : RegisteredShare). share.party < length c.args.accounts.now.entries);
      none = refl;
    })

-- the claimants of share lines that are gathered are in order
their_order : (parties : List (List ℕ)) (lines : List ShareLine) (order : List Placed) (gathered : IsGathered parties lines order) → length lines ≤ MOST_SHARE_LINES → AreInOrder gathered.claimants
their_order parties lines order gathered few = record {
  rising = gathered.compiled.rising;
  places = gathered.places;
  few = λ k d within i e inside. omega (arith, gathered.compiled.within k d within i e inside, few);
}

pub loop-place-preserved : goal.loop-place-preserved
loop-place-preserved c =
    let entries = c.args.accounts.now.entries in
    let parties = names_of entries in
    let lines = c.args.shares.now in
    let place = c.loop-place.place in
    let line = c.index-shares-place.result in
    let inside : place < length lines = omega arith in
    let number : c.share.inside.party.items ≡ line.party = ap (λ (line : ShareLine). line.party) c.share.view_is in
    let gathered = c.loop-place.invariant.gathered in
    let before : All (λ claimant. All (λ other. other < place) claimant.1) gathered.claimants = λ k d within i e low.
    omega (arith, gathered.compiled.within k d within i e low, length-take-le place lines (omega (arith, inside))) in
    elim c.match-get_index_of.branch [
      | in-Some+in_ok-push+in_ok-push-2 w ↦
          let party = w.in-Some.party in
          let (known, whose) = name_found c.share.inside.party.items entries party (sym w.in-Some.ensures.index) in
          let within : party < length parties = omega (arith, known, length-map entries (λ (entry : Numbered). entry.0.items)) in
          rw w.self-is (record {
            gathered = record {
              claimants = with_place party place gathered.claimants;
              compiled = compiled_next parties lines place line party gathered.claimants (with_place party place gathered.claimants)
                  (once_from_pairs parties c.requires.once) inside c.index-shares-place.is within (whose ∙ number) gathered.compiled refl;
              places = places_more party place gathered.claimants gathered.compiled.rising gathered.places before;
              moved = rw w.in_ok-push-2.ensures.items (moved_more party place gathered.claimants c.loop-place.self.order.items gathered.compiled.rising gathered.moved);
            };
            kept = rw w.in_ok-push.ensures.items
                (kept_next parties lines place line c.loop-place.self.shares.items w.kept.result inside c.index-shares-place.is c.loop-place.invariant.kept (w.kept.ensures.line parties (whose ∙ number)));
            known = rw w.in_ok-push.ensures.items
                (All-push (λ (share : RegisteredShare). share.party < length entries) c.loop-place.self.shares.items w.kept.result c.loop-place.invariant.known (omega (arith, known, w.kept.ensures.party)));
            none = c.loop-place.invariant.none;
          })
      | in_default w ↦
          let known = c.requires.known place line inside in
          absurd (name_missing c.share.inside.party.items entries (sym w.in_default.ensures.found) (rw (number, c.index-shares-place.is) known))
    ]

-- the lines that are kept are as many as those that are compiled
as_many : (parties : List (List ℕ)) (lines : List ShareLine) (kept : List RegisteredShare) → map (line_by parties) kept ≡ lines → length kept ≡ length lines
as_many parties lines kept same = sym (length-map kept (line_by parties)) ∙ ap (λ (l : List ShareLine). length l) same

-- the places as they are put in order
put_now : (parties : List (List ℕ)) (lines : List ShareLine) (place : ℕ) (old new : List Placed) (gathered : IsGathered parties (take place lines) old) → length lines ≤ MOST_SHARE_LINES
    → place ≤ length lines → ((claimants : List (ℕ × List ℕ)) → AreInOrder claimants → IsPermutation old (in_order claimants) → new ≡ in_order claimants)
    → new ≡ in_order gathered.claimants
put_now parties lines place old new gathered few within is =
    is gathered.claimants (their_order parties (take place lines) old gathered (omega (arith, few, within, length-take-le place lines within))) gathered.moved

pub add_lines-requires-clause-known : goal.add_lines-requires-clause-known
add_lines-requires-clause-known c = rw c.as_slice.ensures.value c.loop-place.invariant.known

pub add_lines-requires-clause-within : goal.add_lines-requires-clause-within
add_lines-requires-clause-within c =
    let gathered = c.loop-place.invariant.gathered in
    let put = put_now (names_of c.args.accounts.now.entries) c.args.shares.now c.loop-place.place c.loop-place.self.order.items c.put_in_order.new.order.items gathered c.requires.few (omega arith) c.put_in_order.ensures in
    rw (c.as_slice.ensures.value, c.as_slice-2.ensures.value, put, as_many (names_of c.args.accounts.now.entries) (take c.loop-place.place c.args.shares.now) c.loop-place.self.shares.items c.loop-place.invariant.kept)
    (each_in_order (λ (entry : Placed). entry.place < length (take c.loop-place.place c.args.shares.now)) gathered.claimants gathered.compiled.within)

pub add_lines-requires-clause-own : goal.add_lines-requires-clause-own
add_lines-requires-clause-own c =
    let entries = c.args.accounts.now.entries in
    let parties = names_of entries in
    let kept = c.loop-place.self.shares.items in
    let gathered = c.loop-place.invariant.gathered in
    let compiled = subst (λ lines. IsCompiled parties lines gathered.claimants) (sym c.loop-place.invariant.kept) gathered.compiled in
    let known = subst (λ n. All (λ (share : RegisteredShare). share.party < n) kept) (sym (length-map entries (λ (entry : Numbered). entry.0.items))) c.loop-place.invariant.known in
    let put = put_now (names_of c.args.accounts.now.entries) c.args.shares.now c.loop-place.place c.loop-place.self.order.items c.put_in_order.new.order.items gathered c.requires.few (omega arith) c.put_in_order.ensures in
    rw (c.as_slice.ensures.value, c.as_slice-2.ensures.value, put)
    (each_in_order (λ (entry : Placed). HoldsAt (λ share. share.party ≡ entry.party) kept entry.place) gathered.claimants
    (own_places parties kept gathered.claimants (once_from_pairs parties c.requires.once) known compiled))

-- the lines are those of the claimants
module _ (c : goal.In_ok-add_lines) where
  added : c.add_lines.new.lines.items ≡ lines_of_parties (accounts_of c.args.accounts.now.entries) (map (line_by []) c.loop-place.self.shares.items) c.loop-place.invariant.gathered.claimants
  added =
      let entries = c.args.accounts.now.entries in
      let gathered = c.loop-place.invariant.gathered in
      let claimants = gathered.claimants in
      let ordered : IsInOrder claimants c.put_in_order.new.order.items = record { rising = gathered.compiled.rising; exact = put_now (names_of c.args.accounts.now.entries) c.args.shares.now c.loop-place.place c.loop-place.self.order.items c.put_in_order.new.order.items gathered c.requires.few (omega arith) c.put_in_order.ensures } in
      let lines = (rw (c.as_slice.ensures.value, c.as_slice-2.ensures.value) at c.in_ok-add_lines.ensures) claimants ordered in
      lines ∙ ap (λ (l : List ClaimLine). l ++ lines_of_parties (accounts_of entries) (map (line_by []) c.loop-place.self.shares.items) claimants) c.loop-place.invariant.none

pub returns-clause-kept : goal.returns-clause-kept
returns-clause-kept c =
    let gathered = c.loop-place.invariant.gathered in
    let compiled = subst (λ lines. IsCompiled (names_of c.args.accounts.now.entries) lines gathered.claimants) (sym c.loop-place.invariant.kept) gathered.compiled in
    record { claimants = gathered.claimants; compiled = compiled; lines = added c }

pub returns-clause-paired : goal.returns-clause-paired
returns-clause-paired c =
    let entries = c.args.accounts.now.entries in
    let gathered = c.loop-place.invariant.gathered in
    omega (
      arith,
      ap (λ (l : List ClaimLine). length l) (added c),
      length-lines_of_parties (accounts_of entries) (map (line_by []) c.loop-place.self.shares.items) gathered.claimants,
      gathered.compiled.total,
      as_many (names_of entries) (take c.loop-place.place c.args.shares.now) c.loop-place.self.shares.items c.loop-place.invariant.kept,
    )

pub returns-clause-shares : goal.returns-clause-shares
returns-clause-shares c = c.loop-place.invariant.kept ∙ take_all c.loop-place.place c.args.shares.now (omega arith)
