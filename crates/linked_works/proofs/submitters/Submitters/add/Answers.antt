use Rattle.std.proofs.Common.{◌≡◌, ◌∙◌, ◌<◌, ◌∷◌, ◌++◌, [], ℕ, List, Vec, Global, Contains, ap, arith, get_or, length, refl, subst, sym}
use Rattle.std.proofs.lemmas.Bool.{false≢true}
use Rattle.std.proofs.lemmas.List.{get_or_default, length-map, map_push}
use Rattle.linked_works.specs.Rows.{names_by}
use Rattle.linked_works.specs.Submitters.{AreSubmitters}
use Rattle.linked_works.proofs.NameLemmas.{not_among, one_more}
use Rattle.linked_works.proofs.submitters.Submitters.add.Goals as goal
use Rattle.linked_works.proofs.submitters.Submitters.add.Goals.{In-None}

abbrev items_of : Vec ℕ Global → List ℕ
items_of name = name.items

new : (c : In-None) (place : ℕ) → place < length (names_by c.self.inside.names.items) → ¬ (get_or (names_by c.self.inside.names.items) place [] ≡ c.args.name.now)
new c place within =
    let all = c.as_slice.ensures.value in
    subst (λ (names : List (Vec ℕ Global)). ¬ (get_or (names_by names) place [] ≡ c.args.name.now)) all
    (c.in-None.ensures.none place (omega (arith, within, length-map c.self.inside.names.items items_of, ap (λ (names : List (Vec ℕ Global)). length names) all)))

pub invariant_of-self-in-None : goal.invariant_of-self-in-None
invariant_of-self-in-None c =
    let names = c.self.inside.names.items in
    let is = c.is_submitter.ensures.0 c.if-not-is_submitter.false in
    let added : names_by c.push.new.self.items ≡ names_by names ++ c.args.name.now ∷ [] =
    ap names_by c.in_ok-push-in-None.ensures.items
    ∙ (map_push items_of names c.in_ok-from_slice-in-None.field-0 ∙ ap (λ (text : List ℕ). names_by names ++ text ∷ []) c.in_ok-from_slice-in-None.ensures.items) in
    subst AreSubmitters (sym added) (one_more (names_by names) c.args.name.now (new (goal.at.invariant_of-self-in-None c).In-None) c.self.invariant is)

pub returns-in_ok-push-in-None-clause-added : goal.returns-in_ok-push-in-None-clause-added
returns-in_ok-push-in-None-clause-added c =
    let none = not_among (names_by c.self.inside.names.items) c.args.name.now (new (goal.at.returns-in_ok-push-in-None-clause-added c).In-None) in
    (λ _. (c.is_submitter.ensures.0 c.if-not-is_submitter.false, subst (λ (names : List (List ℕ)). ¬ Contains names c.args.name.now) c.self.view_is none), λ _. refl)

pub returns-in-Some-clause-added : goal.returns-in-Some-clause-added
returns-in-Some-clause-added c =
    let names = c.self.inside.names.items in
    let (within, at) = c.in-Some.ensures.some in
    let all = c.as_slice.ensures.value in
    let inside : c.in-Some.field-0 < length (names_by names) = omega (arith, within, length-map names items_of, ap (λ (names : List (Vec ℕ Global)). length names) all) in
    let here : get_or (names_by names) c.in-Some.field-0 [] ≡ c.args.name.now = subst (λ (names : List (Vec ℕ Global)). get_or (names_by names) c.in-Some.field-0 [] ≡ c.args.name.now) all at in
    let has : Contains (names_by names) c.args.name.now = (c.in-Some.field-0, inside, get_or_default (names_by names) c.in-Some.field-0 c.args.name.now [] inside ∙ here) in
    (λ e. absurd (false≢true e), λ both. absurd (both.1 (subst (λ (names : List (List ℕ)). Contains names c.args.name.now) c.self.view_is has)))
