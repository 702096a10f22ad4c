use Rattle.std.proofs.Common.{◌≡◌, ◌∙◌, ◌+◌, ◌++◌, ◌∷◌, [], ℕ, List, Vec, Global, ap, sym, take}
use Rattle.std.proofs.lemmas.List.{map_push, take_more}
use Rattle.linked_works.specs.Rows.{names_by}
use Rattle.check_inputs.specs.SubmittedOver.{claim_of_submitter}
use Rattle.check_inputs.proofs.Overclaims.{kept_push, left_push}
use Rattle.check_inputs.proofs.over.add_up.Goals as goal
use Rattle.check_inputs.proofs.over.add_up.Goals.{in-Some+in_ok-push, in_default}

pub loop-place-preserved : goal.loop-place-preserved
loop-place-preserved c =
    let names = c.args.names.now in
    let place = c.loop-place.place in
    let vec = c.index-names-place.result in
    let name : List ℕ = c.as_slice-submitter.result.now in
    let before = names_by (take place names) in
    let sums = c.loop-place.sums.items in
    let more : names_by (take (place + 1) names) ≡ before ++ name ∷ [] =
    ap (λ (l : List (Vec ℕ Global)). names_by l) (take_more names place vec c.loop-place-test.true ∙ ap (λ (n : Vec ℕ Global). take place names ++ n ∷ []) (sym c.index-names-place.is))
    ∙ (map_push (λ (name : Vec ℕ Global). name.items) (take place names) vec ∙ ap (λ (n : List ℕ). before ++ n ∷ []) (sym c.as_slice-submitter.ensures.value)) in
    let own = claim_of_submitter c.args.claims.now in
    elim c.match-claim_of.branch [
      | in-Some+in_ok-push w ↦
          rw (w.sums-is, w.in_ok-push.ensures.items, more)
          (kept_push own before name sums c.loop-place.invariant (name, w.in-Some.claim) (sym w.in-Some.ensures))
      | in_default w ↦ rw (w.sums-is, more) (left_push own before name sums c.loop-place.invariant (sym w.in_default.ensures))
    ]
