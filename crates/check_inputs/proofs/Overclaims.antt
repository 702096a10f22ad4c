-- Lines that are claimed over, and what submitters claim on them.
use Rattle.std.proofs.Common.{◌≡◌, ◌∙◌, ◌<◌, ◌+◌, ◌∷◌, ◌++◌, [], ℕ, zero, suc, Bool, true, false, cond, List, All, AllPairs, None, Option, Some, ap, append-nil, arith, filter, get_or, is_some, length}
use Rattle.std.proofs.Common.{map, nat_eq, refl, sym, take, zip}
use Rattle.std.specs.Cmp.Lexicographic.{pointwise}
use Rattle.std.specs.List.{cons_option, enumerate_from, filter_map, find}
use Rattle.std.specs.Option.{option_map}
use Rattle.std.proofs.lemmas.Bool.{true≢false}
use Rattle.std.proofs.lemmas.List.{take_more}
use Rattle.std.proofs.lemmas.List.Elements.{All-head, All-tail, filter_map-append}
use Rattle.std.proofs.lemmas.List.Folds.{find-append}
use Rattle.cwr_share.specs.ClaimsOn.{claimed_in}
use Rattle.cwr_share.specs.Registrations.{ShareLine, find_work}
use Rattle.line_split.proofs.Enumerated.{enumerate_from_push}
use Rattle.line_split.specs.UsageLine.{UsageLine}
use Rattle.linked_works.proofs.LinkedLemmas.{find_named}
use Rattle.linked_works.specs.Linked.{Finds, Link, finds_among, linked}
use Rattle.linked_works.specs.Rows.{IsKnownRow, link_shown}
use Rattle.linked_works.specs.declared.works.WorksRow.{WorksRow}
use Rattle.check_inputs.specs.OverSoFar.{claim_by_row, registration_of, registrations_of}
use Rattle.check_inputs.specs.SubmittedOver.{claims_of}

-- The first of numbered lines that passes a test.
module _ {X : Type 0} (passes : X → Bool) where
  abbrev test : ℕ × X → Bool
  test e = passes e.1

  -- one more does not
  pub none_more : (n : ℕ) (xs : List X) (k : ℕ) (x : X) → k < length xs → get_or xs k x ≡ x → passes x ≡ false
      → find test (enumerate_from n (take k xs)) ≡ None → find test (enumerate_from n (take (k + 1) xs)) ≡ None
  none_more n xs k x within at fails none =
      ap (λ (l : List X). find test (enumerate_from n l)) (take_more xs k x within ∙ ap (λ (x : X). take k xs ++ x ∷ []) at)
      ∙ (ap (λ (l : List (ℕ × X)). find test l) (enumerate_from_push n (take k xs) x)
      ∙ (find-append test (enumerate_from n (take k xs)) ((n + length (take k xs), x) ∷ []) ∙ rw (none, fails) refl))

  -- the next does
  pub first_here : (n : ℕ) (xs : List X) (k : ℕ) (x : X) → k < length xs → get_or xs k x ≡ x → passes x ≡ true
      → find test (enumerate_from n (take k xs)) ≡ None → find test (enumerate_from n xs) ≡ Some (n + k, x)
  first_here n [] k x within at does none = absurd (omega (arith, within))
  first_here n (y ∷ ys) zero x within at does none = rw (at, does) (ap (λ (m : ℕ). Some (m, x)) (omega arith))
  first_here n (y ∷ ys) (suc k) x within at does none =
      by (passes y) (λ later. first_here (n + 1) ys k x (omega (arith, within)) at does later ∙ ap (λ (m : ℕ). Some (m, x)) (omega arith)) none
    where
      by : (b : Bool) → (find test (enumerate_from (n + 1) (take k ys)) ≡ None → find test (enumerate_from (n + 1) ys) ≡ Some (n + suc k, x))
          → cond b (Some (n, y)) (find test (enumerate_from (n + 1) (take k ys))) ≡ None → cond b (Some (n, y)) (find test (enumerate_from (n + 1) ys)) ≡ Some (n + suc k, x)
      by true later none = absurd (true≢false (ap (λ (o : Option (ℕ × X)). is_some o) none))
      by false later none = later none

-- What is kept of items, where one more gives something, and where it gives nothing.
module _ {X Y : Type 0} (gives : X → Option Y) (xs : List X) (x : X) (kept : List Y) (so_far : kept ≡ filter_map gives xs) where
  pub kept_push : (y : Y) → gives x ≡ Some y → kept ++ y ∷ [] ≡ filter_map gives (xs ++ x ∷ [])
  kept_push y is =
      ap (λ (l : List Y). l ++ y ∷ []) so_far
      ∙ sym (filter_map-append gives xs (x ∷ []) ∙ ap (λ (o : Option Y). filter_map gives xs ++ cons_option o []) is)

  pub left_push : gives x ≡ None → kept ≡ filter_map gives (xs ++ x ∷ [])
  left_push is =
      so_far
      ∙ sym (filter_map-append gives xs (x ∷ []) ∙ (ap (λ (o : Option Y). filter_map gives xs ++ cons_option o []) is ∙ append-nil (filter_map gives xs)))

-- The same of the items up to a place.
module _ {X Y : Type 0} (gives : X → Option Y) (xs : List X) (k : ℕ) (d : X) (within : k < length xs) (kept : List Y) (so_far : kept ≡ filter_map gives (take k xs)) where
  pub kept_more : (y : Y) → gives (get_or xs k d) ≡ Some y → kept ++ y ∷ [] ≡ filter_map gives (take (k + 1) xs)
  kept_more y is = kept_push gives (take k xs) (get_or xs k d) kept so_far y is ∙ ap (λ (l : List X). filter_map gives l) (sym (take_more xs k d within))

  pub left_more : gives (get_or xs k d) ≡ None → kept ≡ filter_map gives (take (k + 1) xs)
  left_more is = left_push gives (take k xs) (get_or xs k d) kept so_far is ∙ ap (λ (l : List X). filter_map gives l) (sym (take_more xs k d within))

-- the registrations of a work are those that its rows link
pub linked_is : (finds : Finds) (links : List Link) (work : List ℕ) → linked finds links work ≡ registrations_of finds (filter (λ (link : Link). pointwise nat_eq link.work work) links)
linked_is finds [] work = refl
linked_is finds (link ∷ links) work = by (pointwise nat_eq link.work work) (linked_is finds links work)
  where
    its : List Link
    its = filter (λ (link : Link). pointwise nat_eq link.work work) links

    by : (b : Bool) → linked finds links work ≡ registrations_of finds its
        → cons_option (cond b (registration_of finds link) None) (linked finds links work) ≡ registrations_of finds (cond b (link ∷ its) its)
    by true later = ap (λ (l : List (List ℕ × List ShareLine)). cons_option (registration_of finds link) l) later
    by false later = later

-- What rows link in files, each of a submitter, is found by the names of the submitters.
module _ (table : List (ℕ × List ℕ)) (line : UsageLine) (names : List (List ℕ)) (files : List (List (List ℕ × List ShareLine)))
    (once : AllPairs (λ name later. ¬ (name ≡ later)) names) (paired : length files ≡ length names) where
  pub claims_by_rows : (rows : List WorksRow) → All (IsKnownRow names) rows
      → filter_map (claim_by_row table files line.territory line.right) rows ≡ claims_of table line (registrations_of (finds_among (zip names files)) (map link_shown rows))
  claims_by_rows [] known = refl
  claims_by_rows (row ∷ rows) known =
      let (within, name) = All-head (IsKnownRow names) row rows known in
      let found : find_work row.name.now (zip names files) ≡ Some (get_or files row.submitter []) =
      ap (λ (n : List ℕ). find_work n (zip names files)) (sym name) ∙ find_named names files row.submitter [] paired once within in
      rw found (by (find_work row.number.now (get_or files row.submitter [])) (claims_by_rows rows (All-tail (IsKnownRow names) row rows known)))
    where
      claims : List (List ℕ × ℕ)
      claims = filter_map (claim_by_row table files line.territory line.right) rows

      rest : List (List ℕ × List ShareLine)
      rest = registrations_of (finds_among (zip names files)) (map link_shown rows)

      by : (shares : Option (List ShareLine)) → claims ≡ claims_of table line rest
          → cons_option (option_map (λ (shares : List ShareLine). (row.name.now, claimed_in table line.territory line.right shares)) shares) claims
          ≡ claims_of table line (cons_option (option_map (λ (shares : List ShareLine). (row.name.now, shares)) shares) rest)
      by None later = later
      by (Some shares) later = ap (λ (l : List (List ℕ × ℕ)). (row.name.now, claimed_in table line.territory line.right shares) ∷ l) later
