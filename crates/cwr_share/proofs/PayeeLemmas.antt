-- How a party's payee is found.
use Rattle.std.proofs.Common.{◌≡◌, ◌<◌, ◌↔◌, AllPairs, zero, suc, get_or, Bool, true, false, is_some, ℕ, List, Option, Some}
use Rattle.std.proofs.Common.{None, [], ◌∷◌, ◌++◌, length, map, nat_eq, ap, sym, refl, subst, ◌∙◌, inl, inr, arith}
use Rattle.std.specs.List.{find}
use Rattle.std.specs.Option.{option_map, option_map_or}
use Rattle.std.specs.Cmp.Lexicographic.{pointwise}
use Rattle.std.proofs.lemmas.Bool.{cases_Bool, false_from_ne_true, false≢true}
use Rattle.std.proofs.lemmas.Cmp.{nat_list_eq_equiv}
use Rattle.std.proofs.lemmas.List.{append-nil}
use Rattle.std.proofs.lemmas.List.Elements.{All-cons, All-head, All-tail}
use Rattle.std.proofs.lemmas.Option.{none-some}
use Rattle.std.proofs.lemmas.Slice.Eq.{bytes_eq-Decides}
use Rattle.indexmap.specs.IndexMap.{insert_entry}
use Rattle.std.specs.Map.{lookup}
use Rattle.cwr_share.specs.Payees.{AreNames, HasRow, IsName, payee_of}
use Rattle.cwr_share.proofs.CompiledLemmas.{contains_cases, contains_later}

-- what a look-up finds is the payee of the row of the party, and nothing where it has no row
pub looked_up : (payees : List (List ℕ × List ℕ)) (party : List ℕ)
    → lookup (λ other. pointwise nat_eq party other) payees ≡ option_map (λ row. row.1) (find (λ row. pointwise nat_eq row.0 party) payees)
looked_up [] party = refl
looked_up (row ∷ payees) party =
    let turned = nat_list_eq_equiv.symm row.0 party in
    elim (cases_Bool (pointwise nat_eq party row.0)) [
      | inl its ↦ rw (turned, its) refl
      | inr other ↦ rw (turned, other) (looked_up payees party)
    ]

-- so a party that is found is paid to the payee that is found
pub paid_as_found : (payees : List (List ℕ × List ℕ)) (party payee : List ℕ)
    → Some payee ≡ lookup (λ other. pointwise nat_eq party other) payees → payee ≡ payee_of payees party
paid_as_found payees party payee found = on (find (λ row. pointwise nat_eq row.0 party) payees) (found ∙ looked_up payees party)
  where
    on : (row : Option (List ℕ × List ℕ)) → Some payee ≡ option_map (λ row. row.1) row → payee ≡ option_map_or (λ row. row.1) row party
    on (Some row) is = cc
    on None is = cc

-- and one that is not found is paid itself
pub paid_itself : (payees : List (List ℕ × List ℕ)) (party : List ℕ)
    → None ≡ lookup (λ other. pointwise nat_eq party other) payees → party ≡ payee_of payees party
paid_itself payees party found = on (find (λ row. pointwise nat_eq row.0 party) payees) (found ∙ looked_up payees party)
  where
    on : (row : Option (List ℕ × List ℕ)) → None ≡ option_map (λ row. row.1) row → party ≡ option_map_or (λ row. row.1) row party
    on None is = refl
    on (Some row) is = cc

-- a row with names in both of its columns
abbrev are_names : List ℕ × List ℕ → Type 0
are_names row = (0 < length row.0) × IsName row.1

-- a payee that is found has a name
pub paid_named : (payees : List (List ℕ × List ℕ)) (party payee : List ℕ)
    → Some payee ≡ lookup (λ other. pointwise nat_eq party other) payees → AreNames payees → 0 < length payee
paid_named [] party payee found names = absurd (none-some payee (sym found))
paid_named (row ∷ payees) party payee found names = on (pointwise nat_eq party row.0) refl (paid_named payees party payee)
  where
    on : (told : Bool) → pointwise nat_eq party row.0 ≡ told
        → (Some payee ≡ lookup (λ other. pointwise nat_eq party other) payees → AreNames payees → 0 < length payee) → 0 < length payee
    on true its later =
        let same : Some payee ≡ Some row.1 = rw its at found in
        let is : payee ≡ row.1 = cc in
        subst (λ (text : List ℕ). 0 < length text) (sym is) (All-head are_names row payees names).1.0
    on false other later = later (rw other at found) (All-tail are_names row payees names)

-- whether a party has a row, by what a look-up of it finds
pub row_if_some : (payees : List (List ℕ × List ℕ)) (party : List ℕ)
    → is_some (lookup (λ other. pointwise nat_eq party other) payees) ≡ true → HasRow payees party
row_if_some [] party found = absurd (false≢true found)
row_if_some (row ∷ payees) party found =
    elim (cases_Bool (pointwise nat_eq party row.0)) [
      | inl its ↦ (0, omega arith, sym ((bytes_eq-Decides party row.0).0 its))
      | inr other ↦ contains_later row.0 party (map (λ row. row.0) payees) (row_if_some payees party (rw other at found))
    ]

pub no_row_if_none : (payees : List (List ℕ × List ℕ)) (party : List ℕ)
    → is_some (lookup (λ other. pointwise nat_eq party other) payees) ≡ false → ¬ HasRow payees party
no_row_if_none [] party found (k, within, is) = absurd (omega (arith, within))
no_row_if_none (row ∷ payees) party found there =
    elim (cases_Bool (pointwise nat_eq party row.0)) [
      | inl its ↦ absurd (false≢true (sym (rw its at found)))
      | inr other ↦
          elim (contains_cases row.0 party (map (λ row. row.0) payees) there) [
            | inl is ↦ absurd (false≢true (sym other ∙ (bytes_eq-Decides party row.0).1 (sym is)))
            | inr later ↦ no_row_if_none payees party (rw other at found) later
          ]
    ]

-- a table that takes a payee for a party, which may have a row, keeps names in both of its columns
pub names_inserted : (payees : List (List ℕ × List ℕ)) (party payee : List ℕ) → 0 < length party → IsName payee → AreNames payees
    → AreNames (insert_entry (pointwise nat_eq) payees party payee)
names_inserted [] party payee named paid names = All-cons are_names (party, payee) [] (named, paid) names
names_inserted (row ∷ payees) party payee named paid names =
    on (pointwise nat_eq party row.0) refl (names_inserted payees party payee named paid (All-tail are_names row payees names))
  where
    on : (told : Bool) → pointwise nat_eq party row.0 ≡ told
        → AreNames (insert_entry (pointwise nat_eq) payees party payee)
        → AreNames (insert_entry (pointwise nat_eq) (row ∷ payees) party payee)
    on true its later = rw its (All-cons are_names (row.0, payee) payees ((All-head are_names row payees names).0, paid) (All-tail are_names row payees names))
    on false other later = rw other (All-cons are_names row (insert_entry (pointwise nat_eq) payees party payee) (All-head are_names row payees names) later)

-- where a look-up finds nothing
pub none_if_not : {X : Type 0} (found : Option X) → false ≡ is_some found → found ≡ None
none_if_not None is = refl
none_if_not (Some x) is = absurd (false≢true is)

-- a party without a row finds nothing
pub none_if_no_row : (payees : List (List ℕ × List ℕ)) (party : List ℕ) → ¬ HasRow payees party → lookup (λ other. pointwise nat_eq party other) payees ≡ None
none_if_no_row payees party none =
    elim (cases_Bool (is_some (lookup (λ other. pointwise nat_eq party other) payees))) [
      | inl found ↦ absurd (none (row_if_some payees party found))
      | inr nothing ↦ none_if_not (lookup (λ other. pointwise nat_eq party other) payees) (sym nothing)
    ]

-- a table tells whether a party has a row
pub has_row_told : (payees others : List (List ℕ × List ℕ)) (party : List ℕ) (told : Bool) → payees ≡ others → told ≡ is_some (lookup (λ other. pointwise nat_eq party other) payees)
    → (told ≡ true) ↔ HasRow others party
has_row_told payees others party told same is = subst (λ (rows : List (List ℕ × List ℕ)). (told ≡ true) ↔ HasRow rows party) same (
  λ there. row_if_some payees party (sym is ∙ there),
  λ has. elim (cases_Bool told) [
    | inl there ↦ there
    | inr not_there ↦ absurd (no_row_if_none payees party (sym is ∙ not_there) has)
  ],
)

module _ (party : List ℕ) where
  -- a test that a row is the party's
  abbrev is_row_of : List ℕ × List ℕ → Bool
  is_row_of row = pointwise nat_eq row.0 party

  apart : (text : List ℕ) → ¬ (text ≡ party) → pointwise nat_eq text party ≡ false
  apart text other = false_from_ne_true (pointwise nat_eq text party) (λ same. other ((bytes_eq-Decides text party).0 same))

  -- rows of other parties are passed over
  pub passed_over : (payees after : List (List ℕ × List ℕ)) → ¬ HasRow payees party → find is_row_of (payees ++ after) ≡ find is_row_of after
  passed_over [] after none = refl
  passed_over (row ∷ payees) after none =
      let other = apart row.0 (λ is. none (0, omega arith, is)) in
      rw other (passed_over payees after (λ later. none (contains_later row.0 party (map (λ row. row.0) payees) later)))

  -- a row of another party
  pub one_over : (before after : List (List ℕ × List ℕ)) (row : List ℕ × List ℕ) → ¬ (row.0 ≡ party) → find is_row_of (before ++ row ∷ after) ≡ find is_row_of (before ++ after)
  one_over [] after row other = rw (apart row.0 other) refl
  one_over (first ∷ before) after row other = elim (cases_Bool (is_row_of first)) [
    | inl its ↦ rw its refl
    | inr not_its ↦ rw not_its (one_over before after row other)
  ]

-- the payee of a party is that of its row
pub payee_of_row : (before after : List (List ℕ × List ℕ)) (party payee : List ℕ) → ¬ HasRow before party → payee_of (before ++ (party, payee) ∷ after) party ≡ payee
payee_of_row before after party payee none = rw (passed_over party before ((party, payee) ∷ after) none, (bytes_eq-Decides party party).1 refl) refl

pub payee_of_others : (before after : List (List ℕ × List ℕ)) (row : List ℕ × List ℕ) (party : List ℕ) → ¬ (row.0 ≡ party)
    → payee_of (before ++ row ∷ after) party ≡ payee_of (before ++ after) party
payee_of_others before after row party other = rw (one_over party before after row other) refl

pub payee_of_itself : (payees : List (List ℕ × List ℕ)) (party : List ℕ) → ¬ HasRow payees party → payee_of payees party ≡ party
payee_of_itself payees party none =
    let nothing : find (is_row_of party) payees ≡ None = ap (find (is_row_of party)) (sym (append-nil payees)) ∙ passed_over party payees [] none in
    rw nothing refl

-- where each party has one row, the payee of a row's party is the row's
pub payee_at : (payees : List (List ℕ × List ℕ)) → AllPairs (λ row later. ¬ (row.0 ≡ later.0)) payees → (place : ℕ) (d : List ℕ × List ℕ) → place < length payees
    → payee_of payees (get_or payees place d).0 ≡ (get_or payees place d).1
payee_at [] once place d within = absurd (omega (arith, within))
payee_at (row ∷ payees) once zero d within = rw ((bytes_eq-Decides row.0 row.0).1 refl) refl
payee_at (row ∷ payees) once (suc place) d within =
    let party = (get_or payees place d).0 in
    let other : pointwise nat_eq row.0 party ≡ false =
    false_from_ne_true (pointwise nat_eq row.0 party) (λ told. once 0 (suc place) d (omega arith) within ((bytes_eq-Decides row.0 party).0 told)) in
    rw other (payee_at payees (λ i j e before inside. once (suc i) (suc j) e (omega (arith, before)) (omega (arith, inside))) place d (omega (arith, within)))
