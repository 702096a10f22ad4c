use Rattle.std.proofs.Common.{◌≡◌, ◌∙◌, ◌<◌, [], ℕ, List, Vec, Global, ap, arith, below_more, get_or, length, sym}
use Rattle.std.proofs.lemmas.Bool.{false≢true}
use Rattle.std.proofs.lemmas.List.{get_or-map}
use Rattle.std.proofs.lemmas.Slice.Eq.{bytes_eq-Decides}
use Rattle.linked_works.specs.Rows.{names_by}
use Rattle.linked_works.proofs.submitters.place_of.Goals as goal

-- the text of the name at a place
name_at : (names : List (Vec ℕ Global)) (place : ℕ) (name : Vec ℕ Global) (text : List ℕ) → place < length names → name ≡ get_or names place name → text ≡ name.items
    → get_or (names_by names) place [] ≡ text
name_at names place name text within is same =
    get_or-map (λ (name : Vec ℕ Global). name.items) names place name [] within ∙ (ap (λ (name : Vec ℕ Global). name.items) (sym is) ∙ sym same)

pub returns-then-eq-clause-some : goal.returns-then-eq-clause-some
returns-then-eq-clause-some c =
    let within : c.loop-place.place < length c.args.names.now = omega (arith, c.loop-place-test.true, c.loop-place.auto.place-end) in (
      within,
      name_at c.args.names.now c.loop-place.place c.index-names-place.result c.as_slice.result.now within c.index-names-place.is c.as_slice.ensures.value
          ∙ (bytes_eq-Decides c.as_slice.result.now c.args.name.now).0 (sym c.eq.ensures ∙ c.if-eq.true),
    )

pub loop-place-preserved : goal.loop-place-preserved
loop-place-preserved c =
    let within : c.loop-place.place < length c.args.names.now = omega (arith, c.loop-place-test.true, c.loop-place.auto.place-end) in
    let at = name_at c.args.names.now c.loop-place.place c.index-names-place.result c.as_slice.result.now within c.index-names-place.is c.as_slice.ensures.value in
    below_more _ _ c.loop-place.invariant
    (λ same. false≢true (sym (sym c.eq.ensures ∙ c.if-eq.false) ∙ (bytes_eq-Decides c.as_slice.result.now c.args.name.now).1 (sym at ∙ same)))
