use Rattle.std.proofs.Common.{◌≡◌, ◌∙◌, ◌<◌, ◌+◌, ◌++◌, ◌∷◌, [], ℕ, List, ap, get_or, length, map, sym, take}
use Rattle.std.proofs.lemmas.List.{map_more, take-map}
use Rattle.std.proofs.lemmas.Option.{get_or_from_slice_get, slice_get_within}
use Rattle.file_form.specs.SoFar.{type_with}
use Rattle.file_form.specs.declared.types.ForeignType.{ForeignType}
use Rattle.file_form.proofs.types.first_of.Goals as goal

pub loop-place-preserved : goal.loop-place-preserved
loop-place-preserved c =
    let entries = c.args.types.now.entries in
    let place = c.loop-place.place in
    let entry : List ℕ × ℕ = (c.in-Some.name.now, c.in-Some.records.now) in
    let found = sym c.in-Some.ensures.entry in
    let here : get_or entries place entry ≡ entry = get_or_from_slice_get entries place entry entry found in
    let within : place < length entries = slice_get_within entries place entry found in
    let name = c.in_ok-of.ensures ∙ c.as_slice.ensures in
    c.in_ok-push.ensures.items
    ∙ (ap (λ (n : List ℕ). c.loop-place.first.items ++ type_with (n, c.in-Some.records.now) ∷ []) name
    ∙ (ap (λ (l : List ForeignType). l ++ type_with entry ∷ []) c.loop-place.invariant
    ∙ (ap (λ (l : List ForeignType). l ++ type_with entry ∷ []) (take-map type_with place entries)
    ∙ (ap (λ (e : List ℕ × ℕ). map type_with (take place entries) ++ type_with e ∷ []) (sym here)
    ∙ (sym (map_more type_with entries place entry within) ∙ sym (take-map type_with (place + 1) entries))))))
