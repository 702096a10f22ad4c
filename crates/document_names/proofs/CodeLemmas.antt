-- The names of territories by their codes.
use Rattle.std.proofs.Common.{◌≡◌, ◌∙◌, ◌∷◌, ◌<◌, ◌↔◌, [], ℕ, Bool, Contains, List, None, Option, Some, true, false, arith, ap, inl, inr, is_some, length, map, nat_eq, refl, subst, sym}
use Rattle.std.specs.List.{find}
use Rattle.std.specs.Map.{lookup}
use Rattle.std.specs.Option.{option_map, option_map_or}
use Rattle.std.proofs.lemmas.Bool.{cases_Bool, eqb-false, eqb-true, false≢true}
use Rattle.cwr_share.proofs.CompiledLemmas.{contains_cases, contains_later}
use Rattle.std.proofs.lemmas.Cmp.{nat_eq_equiv}
use Rattle.document_names.specs.Territories.{HasRow, name_of_code}

-- what a look-up finds is the name in the row of the code
looked_up : (names : List (ℕ × List ℕ)) (code : ℕ)
    → lookup (nat_eq code) names ≡ option_map (λ row. row.1) (find (λ row. nat_eq row.0 code) names)
looked_up [] code = refl
looked_up (row ∷ names) code =
    let turned = nat_eq_equiv.symm row.0 code in
    elim (cases_Bool (nat_eq code row.0)) [
      | inl its ↦ rw (turned, its) refl
      | inr other ↦ rw (turned, other) (looked_up names code)
    ]

pub name_found : (names : List (ℕ × List ℕ)) (code : ℕ) (name : List ℕ) → Some name ≡ lookup (nat_eq code) names → name ≡ name_of_code names code
name_found names code name found = on (find (λ row. nat_eq row.0 code) names) (found ∙ looked_up names code)
  where
    on : (row : Option (ℕ × List ℕ)) → Some name ≡ option_map (λ row. row.1) row → name ≡ option_map_or (λ row. row.1) row []
    on (Some row) is = cc
    on None is = cc

pub none_found : (names : List (ℕ × List ℕ)) (code : ℕ) → None ≡ lookup (nat_eq code) names → [] ≡ name_of_code names code
none_found names code found = on (find (λ row. nat_eq row.0 code) names) (found ∙ looked_up names code)
  where
    on : (row : Option (ℕ × List ℕ)) → None ≡ option_map (λ row. row.1) row → [] ≡ option_map_or (λ row. row.1) row []
    on None is = refl
    on (Some row) is = cc

-- whether a code has a row, by what a look-up of it finds
row_if_some : (names : List (ℕ × List ℕ)) (code : ℕ) → is_some (lookup (nat_eq code) names) ≡ true → HasRow names code
row_if_some [] code found = absurd (false≢true found)
row_if_some (row ∷ names) code found =
    elim (cases_Bool (nat_eq code row.0)) [
      | inl its ↦ (0, omega arith, sym (eqb-true code row.0 its))
      | inr other ↦ contains_later row.0 code (map (λ row. row.0) names) (row_if_some names code (rw other at found))
    ]

no_row_if_none : (names : List (ℕ × List ℕ)) (code : ℕ) → is_some (lookup (nat_eq code) names) ≡ false → ¬ HasRow names code
no_row_if_none [] code found (k, within, is) = absurd (omega (arith, within))
no_row_if_none (row ∷ names) code found there =
    elim (cases_Bool (nat_eq code row.0)) [
      | inl its ↦ absurd (false≢true (sym (rw its at found)))
      | inr other ↦
          elim (contains_cases row.0 code (map (λ row. row.0) names) there) [
            | inl is ↦ absurd (eqb-false code row.0 other (sym is))
            | inr later ↦ no_row_if_none names code (rw other at found) later
          ]
    ]

-- a code without a row finds nothing
none_if_not : {X : Type 0} (found : Option X) → false ≡ is_some found → found ≡ None
none_if_not None is = refl
none_if_not (Some x) is = absurd (false≢true is)

pub none_if_no_row : (names : List (ℕ × List ℕ)) (code : ℕ) → ¬ HasRow names code → lookup (nat_eq code) names ≡ None
none_if_no_row names code none =
    elim (cases_Bool (is_some (lookup (nat_eq code) names))) [
      | inl found ↦ absurd (none (row_if_some names code found))
      | inr nothing ↦ none_if_not (lookup (nat_eq code) names) (sym nothing)
    ]

-- a table tells whether a code has a row
pub has_row_told : (names others : List (ℕ × List ℕ)) (code : ℕ) (told : Bool) → names ≡ others → told ≡ is_some (lookup (nat_eq code) names)
    → (told ≡ true) ↔ HasRow others code
has_row_told names others code told same is = subst (λ (rows : List (ℕ × List ℕ)). (told ≡ true) ↔ HasRow rows code) same (
  λ there. row_if_some names code (sym is ∙ there),
  λ has. elim (cases_Bool told) [
    | inl there ↦ there
    | inr not_there ↦ absurd (no_row_if_none names code (sym is ∙ not_there) has)
  ],
)
