-- How the registrations of a work go on by one more link.
use Rattle.std.proofs.Common.{◌≡◌, ◌∙◌, ◌<◌, ◌≤◌, ◌+◌, ◌*◌, ◌∷◌, ◌++◌, [], ℕ, zero, suc, Bool, true, false, cond, List, AllPairs, None, Option, Some, ap, arith, get_or, length, length-append, map, nat_eq, refl, zip, append-nil}
use Rattle.std.specs.Prelude.{unwrap_or}
use Rattle.std.specs.Cmp.Lexicographic.{pointwise}
use Rattle.std.specs.List.{cons_option}
use Rattle.std.proofs.lemmas.Bool.{false_from_ne_true}
use Rattle.std.proofs.lemmas.List.{length-map}
use Rattle.std.proofs.lemmas.List.Elements.{filter_map-append}
use Rattle.std.proofs.lemmas.List.Sums.{fold_push}
use Rattle.std.proofs.lemmas.Slice.Eq.{bytes_eq-Decides}
use Rattle.cwr_share.specs.Joined.{followed_by, interests_in, of_submitter}
use Rattle.cwr_share.specs.Registrations.{ShareLine, find_work}
use Rattle.linked_works.specs.Linked.{Finds, Link, joined_if_any, linked, registration_by, shares_linked}
use Rattle.linked_works.specs.Rows.{with_registration}

-- one more registration
joined_push : (registrations : List (List ℕ × List ShareLine)) (registration : List ℕ × List ShareLine)
    → joined_if_any (registrations ++ registration ∷ []) ≡ Some (followed_by (unwrap_or (joined_if_any registrations) []) registration)
joined_push [] registration = refl
joined_push (first ∷ registrations) registration = ap Some (fold_push followed_by [] (first ∷ registrations) registration)

-- one more link
pub linked_push : (finds : Finds) (links : List Link) (link : Link) (work : List ℕ)
    → shares_linked finds (links ++ link ∷ []) work ≡ with_registration (finds link.submitter link.number) link.work link.submitter (shares_linked finds links work) work
linked_push finds links link work =
    ap joined_if_any (filter_map-append (registration_by finds work) links (link ∷ []))
    ∙ by (finds link.submitter link.number) refl (pointwise nat_eq link.work work) refl
  where
    before : List (List ℕ × List ShareLine)
    before = linked finds links work

    by : (found : Option (List ShareLine)) → finds link.submitter link.number ≡ found → (its : Bool) → pointwise nat_eq link.work work ≡ its
        → joined_if_any (linked finds links work ++ cons_option (registration_by finds work link) []) ≡ with_registration found link.work link.submitter (joined_if_any (linked finds links work)) work
    by None is true same = rw (same, is) (ap joined_if_any (append-nil (linked finds links work)))
    by None is false same = rw same (ap joined_if_any (append-nil (linked finds links work)))
    by (Some shares) is true same = rw (same, is) (joined_push (linked finds links work) (link.submitter, shares))
    by (Some shares) is false same = rw same (ap joined_if_any (append-nil (linked finds links work)))

-- what a name finds among names that differ
pub find_named : {X : Type 0} (names : List (List ℕ)) (files : List X) (place : ℕ) (d : X) → length files ≡ length names → AllPairs (λ name later. ¬ (name ≡ later)) names
    → place < length names → find_work (get_or names place []) (zip names files) ≡ Some (get_or files place d)
find_named {X} [] files place d paired once within = absurd (omega arith)
find_named {X} (name ∷ names) [] place d paired once within = absurd (omega arith)
find_named {X} (name ∷ names) (file ∷ files) zero d paired once within = rw ((bytes_eq-Decides name name).1 refl) refl
find_named {X} (name ∷ names) (file ∷ files) (suc place) d paired once within =
    let other : pointwise nat_eq name (get_or names place []) ≡ false =
    false_from_ne_true (pointwise nat_eq name (get_or names place []))
    (λ same. once 0 (suc place) [] (omega arith) (omega (arith, within)) ((bytes_eq-Decides name (get_or names place [])).0 same)) in
    rw other (find_named names files place d (omega (arith, paired)) (λ i j e before inside. once (suc i) (suc j) e (omega (arith, before)) (omega (arith, inside))) (omega (arith, within)))

-- so many links come to no more share lines than so many registrations have
pub few_with : (most n : ℕ) (found : Option (List ShareLine)) (its_work submitter work : List ℕ) (before : Option (List ShareLine)) (shares : List ShareLine)
    → ((its : List ShareLine) → found ≡ Some its → length its ≤ most) → ((its : List ShareLine) → before ≡ Some its → length its ≤ most * n)
    → with_registration found its_work submitter before work ≡ Some shares → length shares ≤ most * (n + 1)
few_with most n None its_work submitter work before shares few so_far is = omega (arith, so_far shares is)
few_with most n (Some more) its_work submitter work before shares few so_far is = by (pointwise nat_eq its_work work) is
  where
    rest : (before : Option (List ShareLine)) → ((its : List ShareLine) → before ≡ Some its → length its ≤ most * n) → length (unwrap_or before []) ≤ most * n
    rest None so_far = omega arith
    rest (Some its) so_far = so_far its refl

    by : (its : Bool) → cond its (Some (followed_by (unwrap_or before []) (submitter, more))) before ≡ Some shares → length shares ≤ most * (n + 1)
    by false is = omega (arith, so_far shares is)
    by true is =
        let old = unwrap_or before [] in
        let same : followed_by old (submitter, more) ≡ shares = cc is in
        omega (
          arith,
          ap (λ (l : List ShareLine). length l) same,
          length-append old (map (of_submitter submitter (interests_in old)) more),
          length-map more (of_submitter submitter (interests_in old)),
          rest before so_far,
          few more refl,
        )
