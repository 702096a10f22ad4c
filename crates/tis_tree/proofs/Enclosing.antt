-- What follows from one code enclosing another.
use Rattle.std.proofs.Common.{◌≡◌, ◌≤◌, ◌<◌, ◌↔◌, ℕ, List, [], ◌∷◌, ◌++◌, length, take, ap, sym, refl, subst, ◌∙◌, inl, inr, arith}
use Rattle.std.specs.Prelude.{Contains, slice_index_or}
use Rattle.std.proofs.lemmas.Bool.{cases_lt}
use Rattle.std.proofs.lemmas.List.{get_or_default, get_or-map, get_or-take, get_or_append_left, length-map, length-take-le, length_push, take-append-le}
use Rattle.std.proofs.lemmas.List.Elements.{Contains-append_left, Contains-push_cases}
use Rattle.std.proofs.Math.Seq.{get_or-append_seam}
use Rattle.tis_tree.specs.Territories.{AreTerritories, Encloses, IsGroupOf, IsKnown, itself, through, row_at}

-- a known code has a row at a place
pub known_at : (table : List (ℕ × List ℕ)) (code : ℕ) → IsKnown table code → (place : ℕ) × (place < length table) × ((row_at table place).0 ≡ code)
known_at table code known =
    let lt : known.0 < length table = omega (arith, known.1, length-map table (λ row. row.0)) in
    (known.0, lt, sym (get_or-map (λ row. row.0) table known.0 (0, []) code lt) ∙ known.2)

-- a code that has a row at a place is known
pub at_known : (table : List (ℕ × List ℕ)) (code place : ℕ) (row : ℕ × List ℕ) → place < length table → (slice_index_or table place row).0 ≡ code → IsKnown table code
at_known table code place row lt is =
    (place, omega (arith, lt, length-map table (λ row. row.0)), get_or-map (λ row. row.0) table place row code lt ∙ is)

-- the code of the row at a place is known
pub code_known : (table : List (ℕ × List ℕ)) (place : ℕ) (row : ℕ × List ℕ) → place < length table → IsKnown table (slice_index_or table place row).0
code_known table place row lt = at_known table (slice_index_or table place row).0 place row lt refl

-- a row in the table makes its code known
pub row_known : (table : List (ℕ × List ℕ)) (code : ℕ) (groups : List ℕ) → Contains table (code, groups) → IsKnown table code
row_known table code groups has = at_known table code has.0 (code, groups) has.1 (ap (λ row. row.0) has.2)

-- what encloses a code has a row
pub group_known : (table : List (ℕ × List ℕ)) (group land : ℕ) → Encloses table group land → IsKnown table group
group_known table group land (itself known) = known
group_known table group _ (through land between named inner) = group_known table group between inner

-- what is enclosed has a row
pub land_known : (table : List (ℕ × List ℕ)) (group land : ℕ) → Encloses table group land → IsKnown table land
land_known table group land (itself known) = known
land_known table group _ (through land between named inner) = row_known table land named.0 named.1

-- what encloses a group of a land encloses the land
pub transitive : (table : List (ℕ × List ℕ)) (group between land : ℕ) → Encloses table group between → Encloses table between land → Encloses table group land
transitive table group between land outer (itself known) = outer
transitive table group between _ outer (through land middle named inner) =
    through land middle named (transitive table group between middle outer inner)

-- two rows of one code are one row
pub same_place : (table : List (ℕ × List ℕ)) → AreTerritories table → (i j : ℕ) → i < length table → j < length table → (row_at table i).0 ≡ (row_at table j).0 → i ≡ j
same_place table sound i j in_i in_j same = elim (cases_lt i j) [
  | inl before ↦ absurd (sound.once i j (0, []) before in_j same)
  | inr not_before ↦ elim (cases_lt j i) [
    | inl after ↦ absurd (sound.once j i (0, []) after in_i (sym same))
    | inr not_after ↦ omega (arith, not_before, not_after)
  ]
]

-- the row at the place where a table has it
pub row_is : (table : List (ℕ × List ℕ)) (row : ℕ × List ℕ) (has : Contains table row) → row_at table has.0 ≡ row
row_is table row has = get_or_default table has.0 (0, []) row has.1 ∙ has.2

-- each group of a row has an earlier row
pub earlier_group : (table : List (ℕ × List ℕ)) → AreTerritories table → (place land group : ℕ) → place < length table → (row_at table place).0 ≡ land → IsGroupOf table group land
    → (before : ℕ) × (before < place) × ((row_at table before).0 ≡ group)
earlier_group table sound place land group lt is named =
    let row : row_at table named.1.0 ≡ (land, named.0) = row_is table (land, named.0) named.1 in
    let same : named.1.0 ≡ place = same_place table sound named.1.0 place named.1.1 lt (ap (λ (r : ℕ × List ℕ). r.0) row ∙ sym is) in
    let row_here : row_at table place ≡ (land, named.0) = subst (λ (k : ℕ). row_at table k ≡ (land, named.0)) same row in
    let has : Contains (row_at table place).1 group = subst (λ (r : ℕ × List ℕ). Contains r.1 group) (sym row_here) named.2 in
    let known = known_at (take place table) group (sound.earlier place group lt has) in
    let low : known.0 < place = omega (arith, known.1, length-take-le place table (omega arith)) in
    (known.0, low, ap (λ (r : ℕ × List ℕ). r.0) (sym (get_or-take place table known.0 (0, []) low)) ∙ known.2)

-- what encloses a land stands in its row or an earlier one
pub stands_earlier : (table : List (ℕ × List ℕ)) → AreTerritories table → (group land : ℕ) → Encloses table group land → (place : ℕ) → place < length table → (row_at table place).0 ≡ land
    → (before : ℕ) × (before ≤ place) × ((row_at table before).0 ≡ group)
stands_earlier table sound group land (itself known) place lt is = (place, omega arith, is)
stands_earlier table sound group _ (through land between named inner) place lt is =
    let above = earlier_group table sound place land between lt is named in
    let top = stands_earlier table sound group between inner above.0 (omega (arith, above.1, lt)) above.2 in
    (top.0, omega (arith, top.1, above.1), top.2)

-- two codes that enclose each other are one
pub antisymmetric : (table : List (ℕ × List ℕ)) (group land : ℕ) → AreTerritories table → Encloses table group land → Encloses table land group → group ≡ land
antisymmetric table group land sound down up =
    let at = known_at table land (land_known table group land down) in
    let above = stands_earlier table sound group land down at.0 at.1 at.2 in
    let in_table : above.0 < length table = omega (arith, above.1, at.1) in
    let top = stands_earlier table sound land group up above.0 in_table above.2 in
    let same : top.0 ≡ at.0 = same_place table sound top.0 at.0 (omega (arith, top.1, in_table)) at.1 (top.2 ∙ sym at.2) in
    let met : above.0 ≡ at.0 = omega (arith, same, top.1, above.1) in
    sym above.2 ∙ ap (λ (k : ℕ). (row_at table k).0) met ∙ at.2

-- the rows before the last are a table
pub front_territories : (table : List (ℕ × List ℕ)) (row : ℕ × List ℕ) → AreTerritories (table ++ row ∷ []) → AreTerritories table
front_territories table row sound = record {
  few = omega (arith, sound.few, length_push table row);
  codes = λ k d lt. rw get_or_append_left at (sound.codes k d (omega (arith, lt, length_push table row)));
  once = λ i j d lt in_j same. sound.once i j d lt (omega (arith, in_j, length_push table row))
      (ap (λ (r : ℕ × List ℕ). r.0) (get_or_append_left table (row ∷ []) d i (omega (arith, lt, in_j))) ∙ same
      ∙ sym (ap (λ (r : ℕ × List ℕ). r.0) (get_or_append_left table (row ∷ []) d j in_j)));
  earlier = λ place group lt has.
      subst (λ (rows : List (ℕ × List ℕ)). IsKnown rows group) (take-append-le place table (row ∷ []) (omega (arith, lt)))
      (sound.earlier place group (omega (arith, lt, length_push table row))
      (subst (λ (r : ℕ × List ℕ). Contains r.1 group) (sym (get_or_append_left table (row ∷ []) (0, []) place lt)) has));
}

-- the last row's code is new
pub last_new : (table : List (ℕ × List ℕ)) (row : ℕ × List ℕ) → AreTerritories (table ++ row ∷ []) → ¬ IsKnown table row.0
last_new table row sound known =
    let at = known_at table row.0 known in
    sound.once at.0 (length table) (0, []) at.1 (omega (arith, length_push table row))
    (ap (λ (r : ℕ × List ℕ). r.0) (get_or_append_left table (row ∷ []) (0, []) at.0 at.1) ∙ at.2 ∙ sym (ap (λ (r : ℕ × List ℕ). r.0) (get_or-append_seam table row [] (0, []))))

-- a code that is known is known in a longer table
pub known_later : (table : List (ℕ × List ℕ)) (row : ℕ × List ℕ) (code : ℕ) → IsKnown table code → IsKnown (table ++ row ∷ []) code
known_later table row code known =
    let at = known_at table code known in
    at_known (table ++ row ∷ []) code at.0 (0, []) (omega (arith, at.1, length_push table row)) (ap (λ (r : ℕ × List ℕ). r.0) (get_or_append_left table (row ∷ []) (0, []) at.0 at.1) ∙ at.2)

-- what one code encloses, it encloses in a longer table
pub encloses_later : (table : List (ℕ × List ℕ)) (row : ℕ × List ℕ) (group land : ℕ) → Encloses table group land → Encloses (table ++ row ∷ []) group land
encloses_later table row group land (itself known) = itself (known_later table row land known)
encloses_later table row group _ (through land between named inner) =
    through land between (named.0, Contains-append_left table (row ∷ []) (land, named.0) named.1, named.2) (encloses_later table row group between inner)

-- a row of a known code is not the new one
old_row : (table : List (ℕ × List ℕ)) (row : ℕ × List ℕ) (land : ℕ) (groups : List ℕ) → ¬ IsKnown table row.0 → IsKnown table land → Contains (table ++ row ∷ []) (land, groups) → Contains table (land, groups)
old_row table row land groups new known has = elim (Contains-push_cases table row (land, groups) has) [
  | inl old ↦ old
  | inr is ↦ absurd (new (subst (λ (code : ℕ). IsKnown table code) (sym (ap (λ (r : ℕ × List ℕ). r.0) is)) known))
]

-- the group of a known land is known
pub group_before : (table : List (ℕ × List ℕ)) → AreTerritories table → (land group : ℕ) → IsGroupOf table group land → IsKnown table group
group_before table sound land group named =
    let at = known_at table land (row_known table land named.0 named.1) in
    let above = earlier_group table sound at.0 land group at.1 at.2 named in
    at_known table group above.0 (0, []) (omega (arith, above.1, at.1)) above.2

-- what encloses a known land does so without a later row
pub encloses_before : (table : List (ℕ × List ℕ)) (row : ℕ × List ℕ) (group land : ℕ) → AreTerritories table → ¬ IsKnown table row.0 → IsKnown table land
    → Encloses (table ++ row ∷ []) group land → Encloses table group land
encloses_before table row group land sound new known (itself later) = itself known
encloses_before table row group _ sound new known (through land between named inner) =
    let old : IsGroupOf table between land = (named.0, old_row table row land named.0 new known named.1, named.2) in
    through land between old (encloses_before table row group between sound new (group_before table sound land between old) inner)

-- a row more at the end changes nothing between the codes before it
pub later_row : (table : List (ℕ × List ℕ)) (row : ℕ × List ℕ) (group land : ℕ) → AreTerritories (table ++ row ∷ []) → IsKnown table land
    → Encloses (table ++ row ∷ []) group land ↔ Encloses table group land
later_row table row group land sound land_is =
    (encloses_before table row group land (front_territories table row sound) (last_new table row sound) land_is, encloses_later table row group land)
