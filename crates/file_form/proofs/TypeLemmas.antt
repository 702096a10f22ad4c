-- Names that are counted, each where it came first.
use Rattle.std.proofs.Common.{◌≡◌, ◌∙◌, ◌≤◌, ◌+◌, ◌++◌, ◌∷◌, ◌||◌, [], ℕ, Bool, true, false, cond, List, None, Some, ap, sym}
use Rattle.std.proofs.Common.{refl, subst, arith, inl, inr, filter, length, map, nat_eq, count_by, take, append_assoc}
use Rattle.std.specs.List.{AllByRecursion, IsDistinct, list_any}
use Rattle.std.specs.Map.{lookup, set_value}
use Rattle.std.specs.Cmp.Lexicographic.{pointwise}
use Rattle.std.proofs.lemmas.Bool.{cases_Bool, false≢true}
use Rattle.std.proofs.lemmas.Cmp.{nat_list_eq_equiv}
use Rattle.std.proofs.lemmas.List.{append-nil, length-map, map-append, map-id, map_push}
use Rattle.std.proofs.lemmas.List.Elements.{filter-append}
use Rattle.std.proofs.lemmas.List.Folds.{list_any-append}
use Rattle.std.proofs.lemmas.List.Sums.{count_by-le-length, fold_push, length-filter, sum_by_push}
use Rattle.std.proofs.lemmas.Map.Keys.{IsDistinct-head, IsDistinct-tail}
use Rattle.std.proofs.lemmas.Simd.{map-map}
use Rattle.std.proofs.lemmas.Slice.Eq.{bytes_eq-Decides}
use Rattle.cwr_share.proofs.FileLemmas.{by_pushes}
use Rattle.cwr_share.specs.Fields.{field_of}
use Rattle.cwr_share.specs.declared.fields.TheConstants.{TYPE}
use Rattle.file_form.specs.declared.types.ForeignTypes.{ForeignTypes}
use Rattle.file_form.specs.SoFar.{AreFirstOf, counted, is_foreign, type_with}
use Rattle.file_form.specs.Types.{AreForeignTypes, each_once, foreign_names, foreign_types}

-- whether two names are one
abbrev same : List ℕ → List ℕ → Bool
same = pointwise nat_eq

or_none : (a b : Bool) → (a || b) ≡ false → (a ≡ false) × (b ≡ false)
or_none true b is = absurd (false≢true (sym is))
or_none false b is = (refl, is)

-- ---- each name once, with one name more

once_kept : (names : List (List ℕ)) (name : List ℕ) → list_any (same name) (each_once names) ≡ true → each_once (names ++ name ∷ []) ≡ each_once names
once_kept names name is =
    fold_push (λ (kept : List (List ℕ)) (name : List ℕ). cond (list_any (same name) kept) kept (kept ++ name ∷ [])) [] names name
    ∙ ap (λ (b : Bool). cond b (each_once names) (each_once names ++ name ∷ [])) is

once_more : (names : List (List ℕ)) (name : List ℕ) → list_any (same name) (each_once names) ≡ false → each_once (names ++ name ∷ []) ≡ each_once names ++ name ∷ []
once_more names name is =
    fold_push (λ (kept : List (List ℕ)) (name : List ℕ). cond (list_any (same name) kept) kept (kept ++ name ∷ [])) [] names name
    ∙ ap (λ (b : Bool). cond b (each_once names) (each_once names ++ name ∷ [])) is

count_push : (of : List ℕ) (names : List (List ℕ)) (name : List ℕ) → count_by (same of) (names ++ name ∷ []) ≡ count_by (same of) names + cond (same of name) 1 0
count_push of names name = sum_by_push (λ (other : List ℕ). cond (same of other) 1 0) names name

count_other : (of : List ℕ) (names : List (List ℕ)) (name : List ℕ) → same of name ≡ false → count_by (same of) (names ++ name ∷ []) ≡ count_by (same of) names
count_other of names name isnt = omega (arith, count_push of names name, ap {B = ℕ} (λ (b : Bool). cond b 1 0) isnt)

count_own : (names : List (List ℕ)) (name : List ℕ) → count_by (same name) (names ++ name ∷ []) ≡ count_by (same name) names + 1
count_own names name = omega (arith, count_push name names name, ap {B = ℕ} (λ (b : Bool). cond b 1 0) ((bytes_eq-Decides name name).1 refl))

-- a name that was not kept is not there
none_counted : (of : List ℕ) (names : List (List ℕ)) → list_any (same of) (each_once names) ≡ false → count_by (same of) names ≡ 0
none_counted of = by_pushes (λ (names : List (List ℕ)). list_any (same of) (each_once names) ≡ false → count_by (same of) names ≡ 0) (λ _. refl) more
  where
    more : (names : List (List ℕ)) (name : List ℕ) → (list_any (same of) (each_once names) ≡ false → count_by (same of) names ≡ 0)
        → list_any (same of) (each_once (names ++ name ∷ [])) ≡ false → count_by (same of) (names ++ name ∷ []) ≡ 0
    more names name sofar none = elim (cases_Bool (list_any (same name) (each_once names))) [
      | inl kept ↦
          let before : list_any (same of) (each_once names) ≡ false = sym (ap (list_any (same of)) (once_kept names name kept)) ∙ none in
          let other : same of name ≡ false = elim (cases_Bool (same of name)) [
            | inl its ↦
                let is : of ≡ name = (bytes_eq-Decides of name).0 its in
                absurd (false≢true (sym before ∙ (ap (λ (n : List ℕ). list_any (same n) (each_once names)) is ∙ kept)))
            | inr isnt ↦ isnt
          ] in
          count_other of names name other ∙ sofar before
      | inr new ↦
          let parts = or_none (list_any (same of) (each_once names)) (same of name || false)
          (sym (list_any-append (same of) (each_once names) (name ∷ [])) ∙ (sym (ap (list_any (same of)) (once_more names name new)) ∙ none)) in
          count_other of names name (or_none (same of name) false parts.1).0 ∙ sofar parts.0
    ]

-- ---- names that are kept with a number each

abbrev numbered : (List ℕ → ℕ) → List (List ℕ) → List (List ℕ × ℕ)
numbered number names = map (λ name. (name, number name)) names

numbered_push : (number : List ℕ → ℕ) (names : List (List ℕ)) (name : List ℕ) → numbered number (names ++ name ∷ []) ≡ numbered number names ++ (name, number name) ∷ []
numbered_push number names name = map_push (λ (k : List ℕ). (k, number k)) names name

same_numbers : (kept : List (List ℕ)) (f g : List ℕ → ℕ) (name : List ℕ) → list_any (same name) kept ≡ false → ((k : List ℕ) → same name k ≡ false → g k ≡ f k)
    → numbered f kept ≡ numbered g kept
same_numbers [] f g name none others = refl
same_numbers (k ∷ kept) f g name none others =
    let parts = or_none (same name k) (list_any (same name) kept) none in
    rw (same_numbers kept f g name parts.1 others, others k parts.0) refl

-- a name that is apart from each of some is not among them
none_apart : (name : List ℕ) (kept : List (List ℕ)) → AllByRecursion (λ (y : List ℕ). same name y ≡ false) kept → list_any (same name) kept ≡ false
none_apart name [] apart = refl
none_apart name (k ∷ kept) apart = rw apart.0 (none_apart name kept apart.1)

-- the number of a name that is found
number_found : (kept : List (List ℕ)) (f : List ℕ → ℕ) (name : List ℕ) (number : ℕ) → lookup (same name) (numbered f kept) ≡ Some number
    → (number ≡ f name) × (list_any (same name) kept ≡ true)
number_found [] f name number found = cc found
number_found (k ∷ kept) f name number found = elim (cases_Bool (same name k)) [
  | inl its ↦
      let is : name ≡ k = (bytes_eq-Decides name k).0 its in
      let value : Some (f k) ≡ Some number = rw its at found in
      let own : f k ≡ number = cc value in
      (sym own ∙ ap f (sym is), ap (λ (b : Bool). b || list_any (same name) kept) its)
  | inr other ↦
      let later = number_found kept f name number (rw other at found) in
      (later.0, ap (λ (b : Bool). b || list_any (same name) kept) other ∙ later.1)
]

none_found : (kept : List (List ℕ)) (f : List ℕ → ℕ) (name : List ℕ) → lookup (same name) (numbered f kept) ≡ None → list_any (same name) kept ≡ false
none_found [] f name found = refl
none_found (k ∷ kept) f name found = elim (cases_Bool (same name k)) [
  | inl its ↦ let value : Some (f k) ≡ None = rw its at found in cc value
  | inr other ↦ ap (λ (b : Bool). b || list_any (same name) kept) other ∙ none_found kept f name (rw other at found)
]

-- the number of one of them is raised
raised : (kept : List (List ℕ)) (f g : List ℕ → ℕ) (name : List ℕ) → IsDistinct same kept → list_any (same name) kept ≡ true → g name ≡ f name + 1
    → ((k : List ℕ) → same name k ≡ false → g k ≡ f k)
    → set_value (same name) (numbered f kept) (f name + 1) ≡ numbered g kept
raised [] f g name distinct found own others = absurd (false≢true found)
raised (k ∷ kept) f g name distinct found own others = elim (cases_Bool (same name k)) [
  | inl its ↦
      let is : name ≡ k = (bytes_eq-Decides name k).0 its in
      let apart : list_any (same name) kept ≡ false = subst (λ (n : List ℕ). list_any (same n) kept ≡ false) (sym is) (none_apart k kept (IsDistinct-head same k kept distinct)) in
      let here : f name + 1 ≡ g k = sym own ∙ ap g is in
      rw its (ap (λ (n : ℕ). (k, n) ∷ numbered f kept) here
      ∙ ap (λ (l : List (List ℕ × ℕ)). (k, g k) ∷ l) (same_numbers kept f g name apart others))
  | inr other ↦
      let later : list_any (same name) kept ≡ true = sym (ap (λ (b : Bool). b || list_any (same name) kept) other) ∙ found in
      rw other (ap (λ (n : ℕ). (k, n) ∷ set_value (same name) (numbered f kept) (f name + 1)) (sym (others k other))
      ∙ ap (λ (l : List (List ℕ × ℕ)). (k, g k) ∷ l) (raised kept f g name (IsDistinct-tail same k kept distinct) later own others))
]

-- ---- what is counted of names, and one name more

turned : (name other : List ℕ) → same name other ≡ false → same other name ≡ false
turned name other isnt = nat_list_eq_equiv.symm other name ∙ isnt

names_counted : (names : List (List ℕ)) → map (λ (e : List ℕ × ℕ). e.0) (counted names) ≡ each_once names
names_counted names = map-map (λ (e : List ℕ × ℕ). e.0) (λ (k : List ℕ). (k, count_by (same k) names)) (each_once names) ∙ map-id (each_once names)

-- what is kept for a name is how often it is there
pub number_kept : (names : List (List ℕ)) (entries : List (List ℕ × ℕ)) (name : List ℕ) (number : ℕ) → entries ≡ counted names → lookup (same name) entries ≡ Some number
    → number ≤ length names
number_kept names entries name number are found =
    let is = number_found (each_once names) (λ (k : List ℕ). count_by (same k) names) name number (sym (ap (lookup (same name)) are) ∙ found) in
    omega (arith, is.0, count_by-le-length (same name) names)

pub counted_again : (names : List (List ℕ)) (entries : List (List ℕ × ℕ)) (name : List ℕ) (number : ℕ) → entries ≡ counted names
    → IsDistinct same (map (λ (e : List ℕ × ℕ). e.0) entries) → lookup (same name) entries ≡ Some number
    → set_value (same name) entries (number + 1) ≡ counted (names ++ name ∷ [])
counted_again names entries name number are unique found =
    let f : List ℕ → ℕ = λ (k : List ℕ). count_by (same k) names in
    let g : List ℕ → ℕ = λ (k : List ℕ). count_by (same k) (names ++ name ∷ []) in
    let is = number_found (each_once names) f name number (sym (ap (lookup (same name)) are) ∙ found) in
    let distinct : IsDistinct same (each_once names) = subst (λ (l : List (List ℕ)). IsDistinct same l) (ap (map (λ (e : List ℕ × ℕ). e.0)) are ∙ names_counted names) unique in
    ap (λ (l : List (List ℕ × ℕ)). set_value (same name) l (number + 1)) are
    ∙ (ap (λ (n : ℕ). set_value (same name) (counted names) (n + 1)) is.0
    ∙ (raised (each_once names) f g name distinct is.1 (count_own names name) (λ k isnt. count_other k names name (turned name k isnt))
    ∙ ap (numbered g) (sym (once_kept names name is.1))))

pub counted_first : (names : List (List ℕ)) (entries : List (List ℕ × ℕ)) (name : List ℕ) → entries ≡ counted names → lookup (same name) entries ≡ None
    → entries ++ (name, 1) ∷ [] ≡ counted (names ++ name ∷ [])
counted_first names entries name are found =
    let f : List ℕ → ℕ = λ (k : List ℕ). count_by (same k) names in
    let g : List ℕ → ℕ = λ (k : List ℕ). count_by (same k) (names ++ name ∷ []) in
    let new : list_any (same name) (each_once names) ≡ false = none_found (each_once names) f name (sym (ap (lookup (same name)) are) ∙ found) in
    let one : 1 ≡ g name = omega (arith, count_own names name, none_counted name names new) in
    ap (λ (l : List (List ℕ × ℕ)). l ++ (name, 1) ∷ []) (are ∙ same_numbers (each_once names) f g name new (λ k isnt. count_other k names name (turned name k isnt)))
    ∙ (ap (λ (n : ℕ). numbered g (each_once names) ++ (name, n) ∷ []) one ∙ (sym (numbered_push g (each_once names) name) ∙ ap (numbered g) (sym (once_more names name new))))

-- ---- the types of a file

pub foreign_yes : (lines : List (List ℕ)) (line : List ℕ) → is_foreign line ≡ true → foreign_names (lines ++ line ∷ []) ≡ foreign_names lines ++ field_of TYPE line ∷ []
foreign_yes lines line is = picked is_foreign (field_of TYPE) lines line is
  where
    picked : (test : List ℕ → Bool) (name : List ℕ → List ℕ) (lines : List (List ℕ)) (line : List ℕ) → test line ≡ true
        → map name (filter test (lines ++ line ∷ [])) ≡ map name (filter test lines) ++ name line ∷ []
    picked test name lines line is =
        ap (map name) (filter-append test lines (line ∷ []) ∙ ap (λ (b : Bool). filter test lines ++ cond b (line ∷ []) []) is)
        ∙ map-append name (filter test lines) (line ∷ [])

pub foreign_no : (lines : List (List ℕ)) (line : List ℕ) → is_foreign line ≡ false → foreign_names (lines ++ line ∷ []) ≡ foreign_names lines
foreign_no lines line isnt = left_out is_foreign (field_of TYPE) lines line isnt
  where
    left_out : (test : List ℕ → Bool) (name : List ℕ → List ℕ) (lines : List (List ℕ)) (line : List ℕ) → test line ≡ false
        → map name (filter test (lines ++ line ∷ [])) ≡ map name (filter test lines)
    left_out test name lines line isnt =
        ap (map name) (filter-append test lines (line ∷ []) ∙ (ap (λ (b : Bool). filter test lines ++ cond b (line ∷ []) []) isnt ∙ append-nil (filter test lines)))

pub foreign_few : (lines : List (List ℕ)) → length (foreign_names lines) ≤ length lines
foreign_few lines = few is_foreign (field_of TYPE) lines
  where
    few : (test : List ℕ → Bool) (name : List ℕ → List ℕ) (lines : List (List ℕ)) → length (map name (filter test lines)) ≤ length lines
    few test name lines = omega (arith, length-map (filter test lines) name, length-filter test lines, count_by-le-length test lines)

pub types_counted : (lines : List (List ℕ)) → map type_with (counted (foreign_names lines)) ≡ foreign_types lines
types_counted lines = map-map type_with (λ (k : List ℕ). (k, count_by (same k) (foreign_names lines))) (each_once (foreign_names lines))

pub types_length : (lines : List (List ℕ)) → length (counted (foreign_names lines)) ≡ length (foreign_types lines)
types_length lines = sym (length-map (counted (foreign_names lines)) type_with) ∙ ap length (types_counted lines)

-- lines gone over
pub record AreCountedTo (all left : List (List ℕ)) (entries : List (List ℕ × ℕ)) : Type 0 where
  pub before : List (List ℕ)
  pub split : all ≡ before ++ left
  pub counts : entries ≡ counted (foreign_names before)

-- one line further
pub counted_yes : (all left : List (List ℕ)) (line : List ℕ) (entries next : List (List ℕ × ℕ)) → is_foreign line ≡ true
    → ((names : List (List ℕ)) → entries ≡ counted names → next ≡ counted (names ++ field_of TYPE line ∷ []))
    → AreCountedTo all (line ∷ left) entries → AreCountedTo all left next
counted_yes all left line entries next is more sofar = record {
  before = sofar.before ++ line ∷ [];
  split = sofar.split ∙ sym (append_assoc sofar.before (line ∷ []) left);
  counts = more (foreign_names sofar.before) sofar.counts ∙ ap counted (sym (foreign_yes sofar.before line is));
}

pub counted_no : (all left : List (List ℕ)) (line : List ℕ) (entries : List (List ℕ × ℕ)) → is_foreign line ≡ false
    → AreCountedTo all (line ∷ left) entries → AreCountedTo all left entries
counted_no all left line entries isnt sofar = record {
  before = sofar.before ++ line ∷ [];
  split = sofar.split ∙ sym (append_assoc sofar.before (line ∷ []) left);
  counts = sofar.counts ∙ ap counted (sym (foreign_no sofar.before line isnt));
}

pub counted_all : (all left : List (List ℕ)) (entries : List (List ℕ × ℕ)) (types : ForeignTypes) → AreCountedTo all left entries → left ≡ [] → AreFirstOf entries types → AreForeignTypes all types
counted_all all left entries types sofar none of =
    let whole : all ≡ sofar.before = sofar.split ∙ (ap (λ (l : List (List ℕ)). sofar.before ++ l) none ∙ append-nil sofar.before) in
    let are : entries ≡ counted (foreign_names all) = sofar.counts ∙ ap (λ (l : List (List ℕ)). counted (foreign_names l)) (sym whole) in
    record {
      count = of.count ∙ (ap length are ∙ types_length all);
      first = of.first ∙ (ap (λ (l : List (List ℕ × ℕ)). take 10 (map type_with l)) are ∙ ap (take 10) (types_counted all));
    }
