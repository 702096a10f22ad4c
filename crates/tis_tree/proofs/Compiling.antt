-- How the table is kept as rows are added to it.
use Rattle.std.proofs.Common.{◌≡◌, ◌≤◌, ◌<◌, ◌+◌, ◌==◌, ◌||◌, ◌↔◌, ◌⊎◌, ℕ, Bool, true, false, List, [], ◌∷◌, ◌++◌, length, map, take, All, Contains, Option, Some, None, IfSome, IfNone, IsTrue, slice_index, slice_index_or, slice_set, ap, sym, refl, subst, ◌∙◌, inl, inr, arith}
use Rattle.std.specs.Option.{is_some}
use Rattle.std.proofs.Math.ListN.{length-set}
use Rattle.std.proofs.Math.Nat.{eq-or-lt_of_le}
use Rattle.std.proofs.Math.Seq.{take-append_seam}
use Rattle.std.proofs.lemmas.Bool.{cases_order, false≢true}
use Rattle.std.proofs.lemmas.Bool.Decides.{Decides-eqb}
use Rattle.std.proofs.lemmas.List.{get_or-set_other, get_or-set_same, get_or_append_left, get_or_push, length_push, map-append, take-append-le}
use Rattle.std.proofs.lemmas.List.Elements.{All-contains, All-nil, All-push, Contains-push, Contains-push_cases}
use Rattle.std.proofs.lemmas.List.Quantifiers.{all_pairs_push}
use Rattle.csv_table.specs.declared.forms.TheConstants.{MOST_CODE}
use Rattle.tis_tree.proofs.Enclosing.{code_known, encloses_before, encloses_later, group_known, row_known}
use Rattle.tis_tree.specs.Compiled.{IsCompiled, has_bit}
use Rattle.tis_tree.specs.Territories.{AreTerritories, Encloses, IsKnown, itself, row_at, through}
use Rattle.tis_tree.specs.declared.TheConstants.{MOST_ROWS}

-- rows of a code and its groups
abbrev Table : Type 0
Table = List (ℕ × List ℕ)

-- the codes that have rows
abbrev codes_of : Table → List ℕ
codes_of table = map (λ row. row.0) table

-- a code is of the table with one row more where it is of the table or of the row
pub known_cases : (table : Table) (row : ℕ × List ℕ) (code : ℕ) → IsKnown (table ++ row ∷ []) code → IsKnown table code ⊎ (row.0 ≡ code)
known_cases table row code known =
    Contains-push_cases (codes_of table) row.0 code
    (subst (λ (codes : List ℕ). Contains codes code) (map-append (λ (row : ℕ × List ℕ). row.0) table (row ∷ [])) known)

-- the code of the new row is known
pub known_new : (table : Table) (row : ℕ × List ℕ) → IsKnown (table ++ row ∷ []) row.0
known_new table row =
    subst (λ (codes : List ℕ). Contains codes row.0) (sym (map-append (λ (row : ℕ × List ℕ). row.0) table (row ∷ [])))
    (Contains-push (codes_of table) row.0)

-- what contains a new land is the land or contains a group of it
pub encloses_new : (table : Table) (code : ℕ) (groups : List ℕ) (group land : ℕ) → AreTerritories table → ¬ IsKnown table code → All (IsKnown table) groups → land ≡ code
    → Encloses (table ++ (code, groups) ∷ []) group land → (group ≡ code) ⊎ ((between : ℕ) × Contains groups between × Encloses table group between)
encloses_new table code groups group land sound new known same (itself _) = inl same
encloses_new table code groups group _ sound new known same (through land between (named, is_row, inside) above) =
    by (Contains-push_cases table (code, groups) (land, named) is_row)
  where
    by : Contains table (land, named) ⊎ ◌≡◌ {A = ℕ × List ℕ} (code, groups) (land, named) → (group ≡ code) ⊎ ((between : ℕ) × Contains groups between × Encloses table group between)
    by (inl old) = absurd (new (subst (λ (code : ℕ). IsKnown table code) same (row_known table land named old)))
    by (inr row) =
        let inside' : Contains groups between = subst (λ (groups : List ℕ). Contains groups between) (sym (ap (λ (row : ℕ × List ℕ). row.1) row)) inside in
        inr (between, inside', encloses_before table (code, groups) group between sound new (All-contains (IsKnown table) groups between known inside') above)

-- what contains a group contains the new land
pub encloses_group : (table : Table) (code : ℕ) (groups : List ℕ) (group between : ℕ) → Contains groups between → Encloses table group between → Encloses (table ++ (code, groups) ∷ []) group code
encloses_group table code groups group between inside above =
    through code between (groups, Contains-push table (code, groups), inside) (encloses_later table (code, groups) group between above)

-- a place in a longer list is one of the list or its end
pub last_or : (n place : ℕ) → place < n + 1 → (place < n) ⊎ (place ≡ n)
last_or n place within = let least : place ≤ n = omega arith in swap (eq-or-lt_of_le least)
  where
    swap : (place ≡ n) ⊎ (place < n) → (place < n) ⊎ (place ≡ n)
    swap (inl same) = inr same
    swap (inr below) = inl below

-- the earlier rows stand where they stood
row_before : (table : Table) (row : ℕ × List ℕ) (place : ℕ) → place < length table → row_at (table ++ row ∷ []) place ≡ row_at table place
row_before table row place within = get_or_append_left table (row ∷ []) (0, []) place within

-- the new row stands at the end
row_last : (table : Table) (row : ℕ × List ℕ) → row_at (table ++ row ∷ []) (length table) ≡ row
row_last table row = get_or_push table row (0, []) (length table) refl

-- territories and a new one of known groups
pub territories_push : (table : Table) (code : ℕ) (groups : List ℕ) → AreTerritories table → length table < MOST_ROWS → (0 < code) × (code ≤ MOST_CODE) × ¬ IsKnown table code → All (IsKnown table) groups
    → AreTerritories (table ++ (code, groups) ∷ [])
territories_push table code groups sound few (positive, small, new) known = record {
  few = rw length_push (omega arith);
  codes = All-push (λ row. (0 < row.0) × (row.0 ≤ MOST_CODE)) table (code, groups) sound.codes (positive, small);
  once = all_pairs_push (λ row later. ¬ (row.0 ≡ later.0)) table (code, groups) sound.once (λ k d lt same. new (subst (λ (code : ℕ). IsKnown table code) same (code_known table k d lt)));
  earlier = λ place group lt inside. by place group (last_or (length table) place (rw length_push at lt)) inside;
}
  where
    by : (place group : ℕ) → (place < length table) ⊎ (place ≡ length table) → Contains (row_at (table ++ (code, groups) ∷ []) place).1 group → IsKnown (take place (table ++ (code, groups) ∷ [])) group
    by place group (inl before) inside =
        rw (take-append-le place table ((code, groups) ∷ []) (omega arith))
        (sound.earlier place group before (subst (λ (row : ℕ × List ℕ). Contains row.1 group) (row_before table (code, groups) place before) inside))
    by place group (inr last) inside =
        rw (last, take-append_seam table ((code, groups) ∷ []))
        (All-contains (IsKnown table) groups group known (subst (λ (row : ℕ × List ℕ). Contains row.1 group) (row_last table (code, groups)) (rw last at inside)))

-- two numbers are equal or not
same_or : (a b : ℕ) → (a ≡ b) ⊎ ¬ (a ≡ b)
same_or a b = by (cases_order a b)
  where
    by : (a ≡ b) ⊎ ((a < b) ⊎ (b < a)) → (a ≡ b) ⊎ ¬ (a ≡ b)
    by (inl same) = inl same
    by (inr (inl less)) = inr (λ same. omega arith)
    by (inr (inr more)) = inr (λ same. omega arith)

-- the places of all that contain a row, for one with these groups
abbrev pub IsSetOf : Table → List ℕ → List ℕ → Type 0
IsSetOf table groups set = (other : ℕ) → other < MOST_ROWS → (has_bit set other ≡ true) ↔ ((other ≡ length table) ⊎ ((group : ℕ) × Contains groups group × (other < length table) × Encloses table (row_at table other).0 group))

-- one of the two is true where their disjunction is
pub either_true : (a b : Bool) → (a || b) ≡ true → (a ≡ true) ⊎ (b ≡ true)
either_true true b is = inl refl
either_true false b is = inr is

-- the disjunction is true where one of the two is
pub or_true : (a b : Bool) → (a ≡ true) ⊎ (b ≡ true) → (a || b) ≡ true
or_true true b is = refl
or_true false b (inl wrong) = absurd (false≢true wrong)
or_true false b (inr is) = is

-- the set with the new place too
pub set_of_new : (table : Table) (groups before set : List ℕ)
    → ((place : ℕ) → place < MOST_ROWS → (has_bit before place ≡ true) ↔ ((group : ℕ) × Contains groups group × (place < length table) × Encloses table (row_at table place).0 group))
    → ((other : ℕ) → other < MOST_ROWS → has_bit set other ≡ (has_bit before other || (other == length table))) → IsSetOf table groups set
set_of_new table groups before set above more = λ other few. (
  λ bit. on other few (either_true (has_bit before other) (other == length table) (sym (more other few) ∙ bit)),
  λ either. more other few ∙ or_true (has_bit before other) (other == length table) (back other few either),
)
  where
    on : (other : ℕ) → other < MOST_ROWS → (has_bit before other ≡ true) ⊎ ((other == length table) ≡ true)
        → (other ≡ length table) ⊎ ((group : ℕ) × Contains groups group × (other < length table) × Encloses table (row_at table other).0 group)
    on other few (inl bit) = inr ((above other few).0 bit)
    on other few (inr last) = inl ((Decides-eqb other (length table)).0 last)

    back : (other : ℕ) → other < MOST_ROWS → (other ≡ length table) ⊎ ((group : ℕ) × Contains groups group × (other < length table) × Encloses table (row_at table other).0 group)
        → (has_bit before other ≡ true) ⊎ ((other == length table) ≡ true)
    back other few (inl last) = inr ((Decides-eqb other (length table)).1 last)
    back other few (inr found) = inl ((above other few).1 found)

-- what contains an earlier row is as it was
above_before : (table : Table) (row : ℕ × List ℕ) (place other : ℕ) → AreTerritories table → ¬ IsKnown table row.0 → place < length table
    → ((other < length (table ++ row ∷ [])) × Encloses (table ++ row ∷ []) (row_at (table ++ row ∷ []) other).0 (row_at table place).0) ↔ ((other < length table) × Encloses table (row_at table other).0 (row_at table place).0)
above_before table row place other sound new within = (λ found. back (last_or (length table) other (rw length_push at found.0)) found.1, on)
  where
    back : (other < length table) ⊎ (other ≡ length table) → Encloses (table ++ row ∷ []) (row_at (table ++ row ∷ []) other).0 (row_at table place).0 → (other < length table) × Encloses table (row_at table other).0 (row_at table place).0
    back (inl before) above =
        (before, encloses_before table row (row_at table other).0 (row_at table place).0 sound new (code_known table place (0, []) within) (rw (row_before table row other before) at above))
    back (inr last) above =
        absurd (new (group_known table row.0 (row_at table place).0 (encloses_before table row row.0 (row_at table place).0 sound new (code_known table place (0, []) within) (rw (last, row_last table row) at above))))

    on : (other < length table) × Encloses table (row_at table other).0 (row_at table place).0 → (other < length (table ++ row ∷ [])) × Encloses (table ++ row ∷ []) (row_at (table ++ row ∷ []) other).0 (row_at table place).0
    on (before, above) = (rw length_push (omega arith), rw (row_before table row other before) (encloses_later table row (row_at table other).0 (row_at table place).0 above))

-- what contains the new row is in its set
above_last : (table : Table) (code : ℕ) (groups set : List ℕ) (other : ℕ) → AreTerritories table → ¬ IsKnown table code → All (IsKnown table) groups → IsSetOf table groups set → other < MOST_ROWS
    → (has_bit set other ≡ true) ↔ ((other < length (table ++ (code, groups) ∷ [])) × Encloses (table ++ (code, groups) ∷ []) (row_at (table ++ (code, groups) ∷ []) other).0 code)
above_last table code groups set other sound new known is few =
    (λ bit. on ((is other few).0 bit), λ found. (is other few).1 (back (last_or (length table) other (rw length_push at found.0)) found.1))
  where
    on : (other ≡ length table) ⊎ ((group : ℕ) × Contains groups group × (other < length table) × Encloses table (row_at table other).0 group)
        → (other < length (table ++ (code, groups) ∷ [])) × Encloses (table ++ (code, groups) ∷ []) (row_at (table ++ (code, groups) ∷ []) other).0 code
    on (inl last) = (rw length_push (omega arith), rw (last, row_last table (code, groups)) (itself (known_new table (code, groups))))
    on (inr (group, inside, before, above)) =
        (rw length_push (omega arith), rw (row_before table (code, groups) other before) (encloses_group table code groups (row_at table other).0 group inside above))

    from : other < length table → ((row_at table other).0 ≡ code) ⊎ ((between : ℕ) × Contains groups between × Encloses table (row_at table other).0 between)
        → (other ≡ length table) ⊎ ((group : ℕ) × Contains groups group × (other < length table) × Encloses table (row_at table other).0 group)
    from before (inl same) = absurd (new (subst (λ (code : ℕ). IsKnown table code) same (code_known table other (0, []) before)))
    from before (inr (group, inside, above)) = inr (group, inside, before, above)

    back : (other < length table) ⊎ (other ≡ length table) → Encloses (table ++ (code, groups) ∷ []) (row_at (table ++ (code, groups) ∷ []) other).0 code
        → (other ≡ length table) ⊎ ((group : ℕ) × Contains groups group × (other < length table) × Encloses table (row_at table other).0 group)
    back (inl before) above =
        from before (encloses_new table code groups (row_at table other).0 code sound new known refl (rw (row_before table (code, groups) other before) at above))
    back (inr last) above = inl last

-- the table is kept as it was, with the new row
pub compiled_push : (table : Table) (places : List ℕ) (enclosing : List (List ℕ)) (code : ℕ) (groups set : List ℕ) → IsCompiled table places enclosing → length table < MOST_ROWS
    → (0 < code) × (code ≤ MOST_CODE) × ¬ IsKnown table code → All (IsKnown table) groups → IsSetOf table groups set
    → IsCompiled (table ++ (code, groups) ∷ []) (slice_set places code (length table + 1)) (enclosing ++ set ∷ [])
compiled_push table places enclosing code groups set kept few (positive, small, new) known is = record {
  sound = territories_push table code groups kept.sound few (positive, small, new) known;
  by_code = rw length-set kept.by_code;
  unknown = λ other low. unknown other low (same_or other code);
  known = λ other place low. found other place low (same_or other code);
  by_row = rw (length_push table (code, groups), length_push enclosing set, kept.by_row) refl;
  exact = λ place other within low. exact place other low (last_or (length table) place (rw length_push at within));
}
  where
    unknown : (other : ℕ) → other ≤ MOST_CODE → (other ≡ code) ⊎ ¬ (other ≡ code) → slice_index (slice_set places code (length table + 1)) other ≡ 0 → ¬ IsKnown (table ++ (code, groups) ∷ []) other
    unknown other low (inl same) none =
        let read = get_or-set_same places code (length table + 1) 0 (omega (arith, kept.by_code)) in
        absurd (omega (arith, read, rw same at none))
    unknown other low (inr apart) none = λ there. by (known_cases table (code, groups) other there)
      where
        by : IsKnown table other ⊎ (code ≡ other) → ⊥
        by (inl old) = kept.unknown other low (sym (get_or-set_other places code other (length table + 1) 0 apart) ∙ none) old
        by (inr same) = apart (sym same)

    found : (other place : ℕ) → other ≤ MOST_CODE → (other ≡ code) ⊎ ¬ (other ≡ code) → slice_index (slice_set places code (length table + 1)) other ≡ place + 1
        → (place < length (table ++ (code, groups) ∷ [])) × ((row_at (table ++ (code, groups) ∷ []) place).0 ≡ other)
    found other place low (inl same) at =
        let read = get_or-set_same places code (length table + 1) 0 (omega (arith, kept.by_code)) in
        let last : place ≡ length table = omega (arith, read, rw same at at) in
        (rw length_push (omega arith), rw (last, row_last table (code, groups), same) refl)
    found other place low (inr apart) at =
        let (before, is_code) = kept.known other place low (sym (get_or-set_other places code other (length table + 1) 0 apart) ∙ at) in
        (rw length_push (omega arith), rw (row_before table (code, groups) place before) is_code)

    exact : (place other : ℕ) → other < MOST_ROWS → (place < length table) ⊎ (place ≡ length table)
        → (has_bit (slice_index_or (enclosing ++ set ∷ []) place []) other ≡ true) ↔ ((other < length (table ++ (code, groups) ∷ [])) × Encloses (table ++ (code, groups) ∷ []) (row_at (table ++ (code, groups) ∷ []) other).0 (row_at (table ++ (code, groups) ∷ []) place).0)
    exact place other low (inl before) =
        let old = kept.exact place other before low in
        let same = above_before table (code, groups) place other kept.sound new before in
        rw (row_before table (code, groups) place before, get_or_append_left enclosing (set ∷ []) [] place (omega (arith, kept.by_row)))
        (λ bit. same.1 (old.0 bit), λ found. old.1 (same.0 found))
    exact place other low (inr last) =
        rw (last, row_last table (code, groups), get_or_push enclosing set [] (length table) kept.by_row)
        (above_last table code groups set other kept.sound new known is low)

-- with no rows no code has a place
pub compiled_none : (places : List ℕ) → length places ≡ MOST_CODE + 1 → All (λ place. place ≡ 0) places → IsCompiled [] places []
compiled_none places long none = record {
  sound = record {
    few = omega arith;
    codes = All-nil (λ row. (0 < row.0) × (row.0 ≤ MOST_CODE));
    once = λ i j d less within same. absurd (omega (arith, less, within));
    earlier = λ place group within inside. absurd (omega arith);
  };
  by_code = long;
  unknown = λ code low at known. absurd (omega (arith, known.1));
  known = λ code place low at. absurd (omega (arith, none code 0 (omega arith)));
  by_row = refl;
  exact = λ place other within low. absurd (omega arith);
}

-- whether a place was found says whether the code is known
pub known_if_found : (table : Table) (code : ℕ) (found : Option ℕ) → IfSome found (λ place. (place < length table) × ((row_at table place).0 ≡ code)) → IfNone found (¬ IsKnown table code)
    → IsTrue (is_some found) ↔ IsKnown table code
known_if_found table code (Some place) some none =
    (λ _. subst (λ (code : ℕ). IsKnown table code) some.1 (code_known table place (0, []) some.0), λ _. refl)
known_if_found table code None some none = (λ no. absurd (false≢true no), λ known. absurd (none known))

-- no place was found, so the code is not known
pub unknown_if_none : (table : List (ℕ × List ℕ)) (code : ℕ) (found : Option ℕ) → IsTrue (is_some found) ↔ IsKnown table code → is_some found ≡ false → ¬ IsKnown table code
unknown_if_none table code found told none = λ known. false≢true (sym none ∙ told.1 known)
