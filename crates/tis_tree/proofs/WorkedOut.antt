-- What contains what, as it is worked out from the last row back, is what the definition says.
use Rattle.std.proofs.Common.{◌≡◌, ◌==◌, ◌||◌, ◌↔◌, ◌⊎◌, ℕ, Bool, true, false, List, [], ◌∷◌, ◌++◌, length, reverse, All, Contains, get_or, sym, refl, subst, inl, inr, arith}
use Rattle.std.specs.Prelude.{IsTrue, if◌then◌else◌}
use Rattle.std.specs.List.{list_any}
use Rattle.std.proofs.Math.Seq.{take-append_seam}
use Rattle.std.proofs.lemmas.Bool.{false≢true, or_cases}
use Rattle.std.proofs.lemmas.Bool.Decides.{Decides-eqb, eqb_tells, same_from_decides}
use Rattle.std.proofs.lemmas.List.{get_or_push, length_push, reverse-append, reverse-reverse}
use Rattle.std.proofs.lemmas.List.Elements.{All-contains_itself}
use Rattle.std.proofs.lemmas.List.Folds.{Any-from_list_any, list_any-from_Any}
use Rattle.tis_tree.proofs.Compiling.{encloses_group, encloses_new, known_cases, known_new, or_true}
use Rattle.tis_tree.proofs.Enclosing.{encloses_before, encloses_later, front_territories, land_known, last_new}
use Rattle.tis_tree.specs.Territories.{AreTerritories, Encloses, IsKnown, encloses, encloses_backwards, itself}

-- the groups of the last row have rows before it
last_groups : (table : List (ℕ × List ℕ)) (row : ℕ × List ℕ) → AreTerritories (table ++ row ∷ []) → All (IsKnown table) row.1
last_groups table row sound = λ k d lt.
    let group = get_or row.1 k d in
    let here = subst (λ (r : ℕ × List ℕ). Contains r.1 group) (sym (get_or_push table row (0, []) (length table) refl)) (All-contains_itself row.1 k d lt) in
    rw take-append_seam at (sound.earlier (length table) group (omega (arith, length_push table row)) here)

-- what contains the code of the last row, where what contains its groups is worked out
at_last : (table : List (ℕ × List ℕ)) (code : ℕ) (groups : List ℕ) (group : ℕ) (above : ℕ → Bool) → AreTerritories (table ++ (code, groups) ∷ [])
    → ((between : ℕ) → (above between ≡ true) ↔ Encloses table group between) → (((group == code) || list_any above groups) ≡ true) ↔ Encloses (table ++ (code, groups) ∷ []) group code
at_last table code groups group above sound is =
    (λ told. on (or_cases (group == code) (list_any above groups) told), λ found. or_true (group == code) (list_any above groups) (back found))
  where
    on : ((group == code) ≡ true) ⊎ (list_any above groups ≡ true) → Encloses (table ++ (code, groups) ∷ []) group code
    on (inl same) = rw ((Decides-eqb group code).0 same) (itself (known_new table (code, groups)))
    on (inr some) =
        let (k, between, lt, at, told) = Any-from_list_any above groups some in
        encloses_group table code groups group between (k, lt, at) ((is between).0 told)

    back : Encloses (table ++ (code, groups) ∷ []) group code → ((group == code) ≡ true) ⊎ (list_any above groups ≡ true)
    back found =
        elim (encloses_new table code groups group code (front_territories table (code, groups) sound) (last_new table (code, groups) sound) (last_groups table (code, groups) sound) refl found) [
          | inl same ↦ inl ((Decides-eqb group code).1 same)
          | inr (between, (k, lt, at), higher) ↦ inr (list_any-from_Any above groups (k, between, lt, at, (is between).1 higher))
        ]

-- what contains a code of another row is as it was
before_last : (table : List (ℕ × List ℕ)) (row : ℕ × List ℕ) (group land : ℕ) (told : Bool) → AreTerritories (table ++ row ∷ []) → ¬ (row.0 ≡ land)
    → (told ≡ true) ↔ Encloses table group land → (told ≡ true) ↔ Encloses (table ++ row ∷ []) group land
before_last table row group land told sound apart is =
    (λ yes. encloses_later table row group land (is.0 yes), λ found. is.1 (back found (known_cases table row land (land_known (table ++ row ∷ []) group land found))))
  where
    back : Encloses (table ++ row ∷ []) group land → IsKnown table land ⊎ (row.0 ≡ land) → Encloses table group land
    back found (inl known) = encloses_before table row group land (front_territories table row sound) (last_new table row sound) known found
    back found (inr same) = absurd (apart same)

-- one row more
with_last : (table : List (ℕ × List ℕ)) (row : ℕ × List ℕ) (group land : ℕ) (above : ℕ → Bool) → AreTerritories (table ++ row ∷ [])
    → ((between : ℕ) → (above between ≡ true) ↔ Encloses table group between)
    → ((if row.0 == land then (group == land) || list_any above row.1 else above land) ≡ true) ↔ Encloses (table ++ row ∷ []) group land
with_last table (code, groups) group land above sound is = elim (eqb_tells code land) [
  | inl (equal, same) ↦ rw (equal, sym same) (at_last table code groups group above sound is)
  | inr (unequal, apart) ↦ rw unequal (before_last table (code, groups) group land (above land) sound apart (is land))
]

-- it says for the rows, the last first, what they contain in their order
backwards : (rows : List (ℕ × List ℕ)) → AreTerritories (reverse rows) → (group land : ℕ) → (encloses_backwards rows group land ≡ true) ↔ Encloses (reverse rows) group land
unfolding encloses_backwards
backwards [] sound group land = (λ no. absurd (false≢true no), λ found. absurd (omega (arith, (land_known [] group land found).1)))
backwards (row ∷ before) sound group land =
    let whole = rw (reverse-append (row ∷ []) before) at sound in
    rw (reverse-append (row ∷ []) before)
    (with_last (reverse before) row group land (λ between. encloses_backwards before group between) whole (λ between. backwards before (front_territories (reverse before) row whole) group between))

-- a table's containment, worked out, is the containment
pub encloses-Encloses : (table : List (ℕ × List ℕ)) (group land : ℕ) → AreTerritories table → (encloses table group land ≡ true) ↔ Encloses table group land
encloses-Encloses table group land sound = rw reverse-reverse at (backwards (reverse table) (rw reverse-reverse sound) group land)

-- what says whether one code contains another says what is worked out
pub worked_out : (table : List (ℕ × List ℕ)) (group land : ℕ) (told : Bool) → AreTerritories table → IsTrue told ↔ Encloses table group land → told ≡ encloses table group land
worked_out table group land told sound is = same_from_decides told (encloses table group land) is (encloses-Encloses table group land sound)

-- where one code doesn't contain another, that is what is worked out
pub worked_out_apart : (table : List (ℕ × List ℕ)) (group land : ℕ) → AreTerritories table → ¬ Encloses table group land → false ≡ encloses table group land
worked_out_apart table group land sound apart = worked_out table group land false sound (λ no. absurd (false≢true no), λ above. absurd (apart above))
