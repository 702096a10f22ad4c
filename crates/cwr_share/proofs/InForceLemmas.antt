-- Works with their share lines, as they are gathered.
use Rattle.std.proofs.Common.{◌≡◌, ◌≤◌, ◌<◌, ℕ, zero, suc, Bool, true, false, cond, List, [], ◌∷◌, ◌++◌, length, get_or, ltb, map, position, zip, All, Option, Some, None, Vec, nat_eq, ap, sym, refl, subst, ◌∙◌, arith, inl, inr}
use Rattle.std.specs.Cmp.Lexicographic.{pointwise}
use Rattle.std.specs.List.{find, list_any, position_or_len, slice_set}
use Rattle.std.specs.Option.{option_map}
use Rattle.std.specs.declared.alloc.Global.{Global}
use Rattle.std.proofs.Math.Numerals.{one-add}
use Rattle.std.proofs.lemmas.Bool.{cases_Bool, cond-false, false≢true, false_from_ne_true, ltb-false, ltb-true, or_parts, true≢false}
use Rattle.std.proofs.lemmas.Cmp.{nat_list_eq_equiv}
use Rattle.std.proofs.lemmas.List.Elements.{All-nil, All-push, All-set, All-tail}
use Rattle.std.proofs.lemmas.List.{length-set, length_push}
use Rattle.std.proofs.lemmas.Option.{cond_some, none-some}
use Rattle.std.proofs.lemmas.Slice.Eq.{bytes_eq-Decides}
use Rattle.cwr_share.specs.Compiled.{AreWorkNames, WorkName}
use Rattle.cwr_share.specs.InForce.{AreShareLines, IsTable, works_of}
use Rattle.cwr_share.specs.Registrations.{ShareLine, find_work}
use Rattle.cwr_share.specs.declared.numbers.TheConstants.{MOST_WORK_NAME_BYTES}

-- works are one where their texts are
abbrev pub is_same : WorkName → WorkName → Bool
is_same work other = pointwise nat_eq work.items other.items

same_tests : (a b c : List ℕ) → a ≡ b → pointwise nat_eq a c ≡ pointwise nat_eq b c
same_tests a b c same = ap (λ (l : List ℕ). pointwise nat_eq l c) same

other_test : (a b c : List ℕ) → pointwise nat_eq a b ≡ false → pointwise nat_eq a c ≡ true → pointwise nat_eq b c ≡ false
other_test a b c other same =
    false_from_ne_true (pointwise nat_eq b c)
    (λ e. true≢false (sym ((bytes_eq-Decides a b).1 ((bytes_eq-Decides a c).0 same ∙ sym ((bytes_eq-Decides b c).0 e))) ∙ other))

-- a work that is not among them has no share lines
pub find_work_new : (works : List WorkName) (registrations : List (Vec ShareLine Global)) (work : WorkName) → list_any (is_same work) works ≡ false
    → find_work work.items (works_of works registrations) ≡ None
find_work_new [] registrations work new = refl
find_work_new (other ∷ works) [] work new = refl
find_work_new (other ∷ works) (shares ∷ registrations) work new =
    let (here, later) = or_parts (is_same work other) (list_any (is_same work) works) new in
    ap (λ (found : Option (List ℕ × List ShareLine)). option_map (λ (entry : List ℕ × List ShareLine). entry.1) found)
    (cond-false (pointwise nat_eq other.items work.items) (Some (other.items, shares.items))
    (find (λ (entry : List ℕ × List ShareLine). pointwise nat_eq entry.0 work.items) (works_of works registrations)) (nat_list_eq_equiv.symm other.items work.items ∙ here))
    ∙ find_work_new works registrations work later

pub works_of_push : (works : List WorkName) (registrations : List (Vec ShareLine Global)) (work : WorkName) (shares : Vec ShareLine Global) → length works ≡ length registrations
    → works_of (works ++ work ∷ []) (registrations ++ shares ∷ []) ≡ works_of works registrations ++ (work.items, shares.items) ∷ []
works_of_push [] [] work shares paired = refl
works_of_push [] (first ∷ registrations) work shares paired = absurd (omega arith)
works_of_push (other ∷ works) [] work shares paired = absurd (omega arith)
works_of_push (other ∷ works) (first ∷ registrations) work shares paired =
    ap (λ (l : List (List ℕ × List ShareLine)). (other.items, first.items) ∷ l) (works_of_push works registrations work shares (omega arith))

-- an entry more at the end, of a new work
pub find_work_push : {X : Type 0} (work name : List ℕ) (entries : List (List ℕ × X)) (x : X) → find_work name entries ≡ None
    → find_work work (entries ++ (name, x) ∷ []) ≡ cond (pointwise nat_eq name work) (Some x) (find_work work entries)
find_work_push {X} work name [] x new = by (pointwise nat_eq name work)
  where
    by : (b : Bool) → option_map (λ (entry : List ℕ × X). entry.1) (cond b (Some (name, x)) None) ≡ cond b (Some x) None
    by true = refl
    by false = refl
find_work_push {X} work name (entry ∷ entries) x new = by (pointwise nat_eq entry.0 name) refl (pointwise nat_eq entry.0 work) refl (find_work_push work name entries x)
  where
    by : (b : Bool) → pointwise nat_eq entry.0 name ≡ b → (c : Bool) → pointwise nat_eq entry.0 work ≡ c
        → (find_work name entries ≡ None → find_work work (entries ++ (name, x) ∷ []) ≡ cond (pointwise nat_eq name work) (Some x) (find_work work entries))
        → find_work work (entry ∷ (entries ++ (name, x) ∷ [])) ≡ cond (pointwise nat_eq name work) (Some x) (find_work work (entry ∷ entries))
    by true e c f more = absurd (none-some entry.1 (sym (rw e at new)))
    by false e true f more = rw (f, other_test entry.0 name work e f) refl
    by false e false f more = rw f (more (rw e at new))

-- the work is new
pub find_work_added : (works : List WorkName) (registrations : List (Vec ShareLine Global)) (name : WorkName) (shares : Vec ShareLine Global) (work : List ℕ)
    → length works ≡ length registrations → list_any (is_same name) works ≡ false
    → find_work work (works_of (works ++ name ∷ []) (registrations ++ shares ∷ [])) ≡ cond (pointwise nat_eq name.items work) (Some shares.items) (find_work work (works_of works registrations))
find_work_added works registrations name shares work paired new =
    ap (λ (entries : List (List ℕ × List ShareLine)). find_work work entries) (works_of_push works registrations name shares paired)
    ∙ find_work_push work name.items (works_of works registrations) shares.items (find_work_new works registrations name new)

-- the work is among them, and has other share lines now
pub find_work_replaced : (works : List WorkName) (registrations : List (Vec ShareLine Global)) (name : WorkName) (shares : Vec ShareLine Global) (work : List ℕ)
    → length works ≡ length registrations → list_any (is_same name) works ≡ true
    → find_work work (works_of works (slice_set registrations (position_or_len (is_same name) works) shares))
    ≡ cond (pointwise nat_eq name.items work) (Some shares.items) (find_work work (works_of works registrations))
find_work_replaced [] registrations name shares work paired known = absurd (false≢true known)
find_work_replaced (first ∷ works) [] name shares work paired known = absurd (omega arith)
find_work_replaced (first ∷ works) (old ∷ registrations) name shares work paired known =
    by (is_same name first) refl (pointwise nat_eq first.items work) refl (find_work_replaced works registrations name shares work (omega arith))
  where
    by : (b : Bool) → is_same name first ≡ b → (c : Bool) → pointwise nat_eq first.items work ≡ c
        → (list_any (is_same name) works ≡ true → find_work work (works_of works (slice_set registrations (position_or_len (is_same name) works) shares))
        ≡ cond (pointwise nat_eq name.items work) (Some shares.items) (find_work work (works_of works registrations)))
        → find_work work (works_of (first ∷ works) (slice_set (old ∷ registrations) (position_or_len (is_same name) (first ∷ works)) shares))
        ≡ cond (pointwise nat_eq name.items work) (Some shares.items) (find_work work (works_of (first ∷ works) (old ∷ registrations)))
    by true e true f more = rw (e, same_tests name.items first.items work ((bytes_eq-Decides name.items first.items).0 e), f) refl
    by true e false f more = rw (e, same_tests name.items first.items work ((bytes_eq-Decides name.items first.items).0 e), f) refl
    by false e true f more =
        let apart : pointwise nat_eq name.items work ≡ false = other_test first.items name.items work (nat_list_eq_equiv.symm first.items name.items ∙ e) f in
        rw (e, one-add (position_or_len (is_same name) works), f, apart) refl
    by false e false f more = rw (e, one-add (position_or_len (is_same name) works), f) (more (rw e at known))

-- a work that finds nothing is not among them
pub not_among : (works : List WorkName) (registrations : List (Vec ShareLine Global)) (work : WorkName) → length works ≡ length registrations
    → find_work work.items (works_of works registrations) ≡ None → list_any (is_same work) works ≡ false
not_among [] registrations work paired none = refl
not_among (first ∷ works) [] work paired none = absurd (omega arith)
not_among (first ∷ works) (shares ∷ registrations) work paired none =
    by (is_same work first) refl (pointwise nat_eq first.items work.items) refl (not_among works registrations work (omega arith))
  where
    by : (b : Bool) → is_same work first ≡ b → (c : Bool) → pointwise nat_eq first.items work.items ≡ c
        → (find_work work.items (works_of works registrations) ≡ None → list_any (is_same work) works ≡ false) → list_any (is_same work) (first ∷ works) ≡ false
    by true e true f more = absurd (none-some shares.items (sym (rw f at none)))
    by true e false f more = absurd (true≢false (sym e ∙ (nat_list_eq_equiv.symm work.items first.items ∙ f)))
    by false e true f more = absurd (none-some shares.items (sym (rw f at none)))
    by false e false f more = rw e (more (rw f at none))

-- no works are a table
pub table_none : (works : List WorkName) (lists : List (Vec ShareLine Global)) → works ≡ [] → lists ≡ [] → IsTable works lists
table_none works lists no_works no_lists = record {
  paired = ap length no_works ∙ sym (ap length no_lists);
  short = subst AreWorkNames (sym no_works) (All-nil (λ (work : WorkName). length work.items ≤ MOST_WORK_NAME_BYTES));
  each = subst (All (λ (lines : Vec ShareLine Global). AreShareLines lines.items)) (sym no_lists) (All-nil (λ (lines : Vec ShareLine Global). AreShareLines lines.items));
}

-- with a work more they are one
pub table_added : (works : List WorkName) (lists : List (Vec ShareLine Global)) (work : WorkName) (shares : Vec ShareLine Global) → IsTable works lists
    → length work.items ≤ MOST_WORK_NAME_BYTES → AreShareLines shares.items → IsTable (works ++ work ∷ []) (lists ++ shares ∷ [])
table_added works lists work shares table short sound = record {
  paired = rw (length_push works work, length_push lists shares, table.paired) refl;
  short = All-push (λ (work : WorkName). length work.items ≤ MOST_WORK_NAME_BYTES) works work table.short short;
  each = All-push (λ (lines : Vec ShareLine Global). AreShareLines lines.items) lists shares table.each sound;
}

-- and with other share lines of a work
pub table_replaced : (works : List WorkName) (lists : List (Vec ShareLine Global)) (place : ℕ) (shares : Vec ShareLine Global) → IsTable works lists
    → AreShareLines shares.items → IsTable works (slice_set lists place shares)
table_replaced works lists place shares table sound = record {
  paired = table.paired ∙ sym (length-set lists place shares);
  short = table.short;
  each = All-set (λ (lines : Vec ShareLine Global). AreShareLines lines.items) lists place shares sound table.each;
}

-- What a look-up finds

-- texts are tested for being one
pub same_text : (a b : List ℕ) → a ≡ b → pointwise nat_eq a b ≡ true
same_text a b same = (bytes_eq-Decides a b).1 same

pub other_text : (a b : List ℕ) → ¬ (a ≡ b) → pointwise nat_eq a b ≡ false
other_text a b other = false_from_ne_true (pointwise nat_eq a b) (λ told. other ((bytes_eq-Decides a b).0 told))

-- works beside their registrations, of which each has its share lines
abbrev pub entries : {X : Type 0} → (lines_of : X → List ShareLine) → List WorkName → List X → List (List ℕ × List ShareLine)
entries lines_of works registrations = map (λ entry. (entry.0.items, lines_of entry.1)) (zip works registrations)

module _ (work : List ℕ) where
  abbrev pub is_work : WorkName → Bool
  is_work key = pointwise nat_eq work key.items

  -- the test of a work either way round
  turned : (key : WorkName) → pointwise nat_eq key.items work ≡ is_work key
  turned key = nat_list_eq_equiv.symm key.items work

  module _ {X : Type 0} (lines_of : X → List ShareLine) where
    -- a work that is found stands beside its registration
    pub found_work : (works : List WorkName) (registrations : List X) (place : ℕ) (registration : X) → length works ≡ length registrations
        → position_or_len is_work works ≡ place → place < length works → registration ≡ get_or registrations place registration
        → find_work work (entries lines_of works registrations) ≡ Some (lines_of registration)
    found_work [] registrations place registration paired at within is = absurd (omega arith)
    found_work (key ∷ works) [] place registration paired at within is = absurd (omega arith)
    found_work (key ∷ works) (first ∷ registrations) place registration paired at within is = elim (cases_Bool (is_work key)) [
      | inl its ↦
          let here : place ≡ 0 = sym (rw its at at) in
          let same : registration ≡ first = subst (λ p. registration ≡ get_or (first ∷ registrations) p registration) here is in
          rw (turned key, its) (ap (λ (r : X). Some (lines_of r)) (sym same))
      | inr other ↦
          let n = position_or_len is_work works in
          let after : place ≡ suc n = sym (rw other at at) ∙ one-add n in
          let rest : registration ≡ get_or registrations n registration = subst (λ p. registration ≡ get_or (first ∷ registrations) p registration) after is in
          rw (turned key, other) (found_work works registrations n registration (omega (arith, paired)) refl (omega (arith, within, after)) rest)
    ]

    -- a work that is not found has none
    pub no_work : (works : List WorkName) (registrations : List X) → length works ≤ position_or_len is_work works → find_work work (entries lines_of works registrations) ≡ None
    no_work [] registrations past = refl
    no_work (key ∷ works) [] past = refl
    no_work (key ∷ works) (first ∷ registrations) past = elim (cases_Bool (is_work key)) [
      | inl its ↦ absurd (omega (arith, rw its at past))
      | inr other ↦ rw (turned key, other) (no_work works registrations (omega (arith, rw other at past)))
    ]

    -- what a look-up by the index says
    pub found_at : (works : List WorkName) (registrations : List X) (place : ℕ) (registration : X) → length works ≡ length registrations
        → Some place ≡ position is_work works → registration ≡ get_or registrations place registration → find_work work (entries lines_of works registrations) ≡ Some (lines_of registration)
    found_at works registrations place registration paired index is =
        let n = position_or_len is_work works in
        let (inside, at) = cond_some (ltb n (length works)) n place (sym index) in
        found_work works registrations place registration paired at (omega (arith, ltb-true n (length works) inside, at)) is

    pub found_nowhere : (works : List WorkName) (registrations : List X) → None ≡ position is_work works → find_work work (entries lines_of works registrations) ≡ None
    found_nowhere works registrations index =
        let n = position_or_len is_work works in
        no_work works registrations (elim (cases_Bool (ltb n (length works))) [
          | inr past ↦ ltb-false n (length works) past
          | inl inside ↦ absurd (none-some n (index ∙ rw inside refl))
        ])

    -- nor has one that is longer than the works
    pub found_too_long : (works : List WorkName) (registrations : List X) → AreWorkNames works → MOST_WORK_NAME_BYTES < length work → find_work work (entries lines_of works registrations) ≡ None
    found_too_long [] registrations short long = refl
    found_too_long (key ∷ works) [] short long = refl
    found_too_long (key ∷ works) (first ∷ registrations) short long =
        let fits : length key.items ≤ MOST_WORK_NAME_BYTES = short 0 key (omega arith) in
        let other = other_text work key.items (λ same. omega (arith, fits, long, ap (λ (text : List ℕ). length text) same)) in
        rw (turned key, other) (found_too_long works registrations (All-tail (λ (work : WorkName). length work.items ≤ MOST_WORK_NAME_BYTES) key works short) long)

-- what holds of the share lines of each work holds of those of a registration
pub entry_at : {X : Type 0} (lines_of : X → List ShareLine) (Holds : List ShareLine → Type 0) (works : List WorkName) (registrations : List X) (place : ℕ) (registration : X) → length works ≡ length registrations
    → place < length registrations → registration ≡ get_or registrations place registration → All (λ (entry : List ℕ × List ShareLine). Holds entry.1) (entries lines_of works registrations) → Holds (lines_of registration)
entry_at {X} lines_of Holds [] registrations place registration paired within is all = absurd (omega arith)
entry_at {X} lines_of Holds (key ∷ works) [] place registration paired within is all = absurd (omega arith)
entry_at {X} lines_of Holds (key ∷ works) (first ∷ registrations) zero registration paired within is all = subst (λ (r : X). Holds (lines_of r)) (sym is) (all 0 (key.items, lines_of first) (omega arith))
entry_at {X} lines_of Holds (key ∷ works) (first ∷ registrations) (suc place) registration paired within is all =
    entry_at lines_of Holds works registrations place registration (omega (arith, paired)) (omega (arith, within)) is
    (All-tail (λ (entry : List ℕ × List ShareLine). Holds entry.1) (key.items, lines_of first) (entries lines_of works registrations) all)

-- a place at which a list passes a test is in the list
any_before : {X : Type 0} (p : X → Bool) (xs : List X) → position_or_len p xs < length xs → list_any p xs ≡ true
any_before p [] before = absurd (omega arith)
any_before p (x ∷ xs) before = elim (cases_Bool (p x)) [
  | inl its ↦ rw its refl
  | inr other ↦ rw other (any_before p xs (omega (arith, rw other at before)))
]

-- a work that an index has is among the works, at its place
pub found_place : (work : WorkName) (works : List WorkName) (place : ℕ) → Some place ≡ position (is_same work) works
    → (list_any (is_same work) works ≡ true) × (place ≡ position_or_len (is_same work) works)
found_place work works place index =
    let n = position_or_len (is_same work) works in
    let (inside, at) = cond_some (ltb n (length works)) n place (sym index) in
    (any_before (is_same work) works (ltb-true n (length works) inside), sym at)

-- how many works there are
pub length-works_of : (works : List WorkName) (lists : List (Vec ShareLine Global)) → length works ≡ length lists → length (works_of works lists) ≡ length lists
length-works_of [] [] paired = refl
length-works_of [] (lines ∷ lists) paired = absurd (omega arith)
length-works_of (work ∷ works) [] paired = absurd (omega arith)
length-works_of (work ∷ works) (lines ∷ lists) paired = omega (arith, length-works_of works lists (omega arith))

-- the share lines of the work at a place
pub lines_at_place : (works : List WorkName) (lists : List (Vec ShareLine Global)) (place : ℕ) (d : List ℕ × List ShareLine) (lines : Vec ShareLine Global) → length works ≡ length lists
    → place < length lists → lines ≡ get_or lists place lines → lines.items ≡ (get_or (works_of works lists) place d).1
lines_at_place works [] place d lines paired within is = absurd (omega arith)
lines_at_place [] (first ∷ lists) place d lines paired within is = absurd (omega arith)
lines_at_place (work ∷ works) (first ∷ lists) zero d lines paired within is = ap (λ (lines : Vec ShareLine Global). lines.items) is
lines_at_place (work ∷ works) (first ∷ lists) (suc place) d lines paired within is = lines_at_place works lists place d lines (omega (arith, paired)) (omega (arith, within)) is
