use Rattle.std.proofs.Common.{◌≡◌, ◌∙◌, ◌||◌, ◌∷◌, [], ℕ, Bool, Bor, List, ap, map, nat_eq, refl, rules, tests}
use Rattle.std.specs.List.{list_any}
use Rattle.std.specs.Cmp.Lexicographic.{pointwise}
use Rattle.std.proofs.lemmas.Iterator.{YieldsList-from_slice}
use Rattle.std.proofs.lemmas.Iterator.Search.{any_from_yields_List}
use Rattle.file_form.proofs.types.is_type.Goals as goal

-- the test of a name, of what it refers to
abbrev is_named : (name : List ℕ) → Bor (List ℕ) → Bool
is_named name other = pointwise nat_eq name other.now

among : (name : List ℕ) (names : List (Bor (List ℕ))) → list_any (is_named name) names ≡ list_any (pointwise nat_eq name) (map (λ other. other.now) names)
among name [] = refl
among name (other ∷ names) = ap (λ (later : Bool). is_named name other || later) (among name names)

pub returns : goal.returns
returns c =
    any_from_yields_List (is_named c.of-name.result.now) _ _ c.any.result c.any.ensures.ran (YieldsList-from_slice c.args.names.now cc) (λ x b q k. search (rules, tests))
    ∙ (among c.of-name.result.now c.args.names.now ∙ ap (λ (name : List ℕ). list_any (pointwise nat_eq name) (map (λ other. other.now) c.args.names.now)) c.of-name.ensures)
