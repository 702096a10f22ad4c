-- Rows that link nothing, and registrations that no row links, one after another.
use Rattle.std.proofs.Common.{◌≡◌, ◌∙◌, ◌⊎◌, ◌<◌, ◌+◌, ◌∷◌, ◌++◌, [], ℕ, Bool, true, false, List, Contains, ap, arith, get_or, inl, inr, is_some, length, nat_eq, not, refl, subst, sym, take}
use Rattle.std.specs.Prelude.{◌&&◌}
use Rattle.std.specs.Cmp.Lexicographic.{pointwise}
use Rattle.std.specs.List.{list_any}
use Rattle.std.proofs.lemmas.Bool.{and_parts, cases_Bool, false_from_ne_true, true≢false}
use Rattle.std.proofs.lemmas.Cmp.{nat_list_eq_equiv}
use Rattle.std.proofs.lemmas.Map.Views.{list_any-from_Contains}
use Rattle.std.proofs.lemmas.List.{length-map, length-take-le, map_push, take_more}
use Rattle.std.proofs.lemmas.List.Folds.{Any-from_list_any, list_any-from_Any}
use Rattle.std.proofs.lemmas.Slice.Eq.{bytes_eq-Decides}
use Rattle.cwr_share.specs.Joined.{qualified}
use Rattle.cwr_share.specs.PassedOver.{IsTallyOf}
use Rattle.cwr_share.specs.declared.passed_over.Tally.{Tally}
use Rattle.cwr_share.proofs.PassedOverLemmas.{numbers_no, numbers_yes}
use Rattle.linked_works.specs.Linked as linked
use Rattle.linked_works.specs.Linked.{Finds}
use Rattle.linked_works.specs.PassedOver.{is_linked, rows_not_in_force}
use Rattle.linked_works.specs.Rows.{AreLinks, link_by, links_by}
use Rattle.linked_works.specs.declared.linking.Link.{Link}
use Rattle.linked_works.proofs.LinkRows.{found_key, key_of_linked, linked_key}

-- a row is out of force
abbrev pub is_out : Finds → List linked.Link → linked.Link → Bool
is_out finds before link = not (is_some (finds link.submitter link.number))

-- one row more
pub tally_next : (finds : Finds) (names : List (List ℕ)) (links : List Link) (place : ℕ) (link : Link) (in_force : Bool) (tally next : Tally)
    → place < length links → link ≡ get_or links place link → in_force ≡ is_some (finds (get_or names link.submitter []) link.number)
    → IsTallyOf (rows_not_in_force finds (links_by names (take place links))) tally
    → ((in_force ≡ false) × ((numbers : List ℕ) → IsTallyOf numbers tally → IsTallyOf (numbers ++ (place + 1) ∷ []) next)) ⊎ ((in_force ≡ true) × (next ≡ tally))
    → IsTallyOf (rows_not_in_force finds (links_by names (take (place + 1) links))) next
tally_next finds names links place link in_force tally next within at is so_far how =
    subst (λ (l : List linked.Link). IsTallyOf (rows_not_in_force finds l) next) (sym more) (by how)
  where
    row : linked.Link
    row = link_by names link

    before : List linked.Link
    before = links_by names (take place links)

    more : links_by names (take (place + 1) links) ≡ before ++ row ∷ []
    more =
        ap (links_by names) (take_more links place link within ∙ ap (λ (next : Link). take place links ++ next ∷ []) (sym at))
        ∙ map_push (link_by names) (take place links) link

    long : length before ≡ place
    long = length-map (take place links) (link_by names) ∙ length-take-le place links (omega (arith, within))

    by : ((in_force ≡ false) × ((numbers : List ℕ) → IsTallyOf numbers tally → IsTallyOf (numbers ++ (place + 1) ∷ []) next)) ⊎ ((in_force ≡ true) × (next ≡ tally))
        → IsTallyOf (rows_not_in_force finds (before ++ row ∷ [])) next
    by (inr (so, stays)) =
        let numbers = numbers_no (is_out finds) before row (ap not (sym is ∙ so)) in
        subst (λ (l : List ℕ). IsTallyOf l next) (sym numbers) (subst (λ (t : Tally). IsTallyOf (rows_not_in_force finds before) t) (sym stays) so_far)
    by (inl (not_so, adds)) =
        let numbers = numbers_yes (is_out finds) before row (ap not (sym is ∙ not_so)) ∙ ap (λ n. rows_not_in_force finds before ++ (n + 1) ∷ []) long in
        subst (λ (l : List ℕ). IsTallyOf l next) (sym numbers) (adds (rows_not_in_force finds before) so_far)

-- Keys stand for rows.
module _ (names : List (List ℕ)) (links : List Link) (keys : List (List ℕ)) (are : AreLinks names links keys) (name : List ℕ) (named : Contains names name) where
  abbrev rows : List linked.Link
  rows = links_by names links

  abbrev tests : (number : List ℕ) → linked.Link → Bool
  tests number link = pointwise nat_eq link.submitter name && pointwise nat_eq link.number number

  both : (number : List ℕ) (link : linked.Link) → (link.submitter ≡ name) × (link.number ≡ number) → tests number link ≡ true
  both number link (its, same) = rw ((bytes_eq-Decides link.submitter name).1 its, (bytes_eq-Decides link.number number).1 same) refl

  each : (number : List ℕ) (link : linked.Link) → tests number link ≡ true → (link.submitter ≡ name) × (link.number ≡ number)
  each number link so =
      let (its, same) = and_parts (pointwise nat_eq link.submitter name) (pointwise nat_eq link.number number) so in
      ((bytes_eq-Decides link.submitter name).0 its, (bytes_eq-Decides link.number number).0 same)

  pub key_is_linked : (number : List ℕ) → list_any (pointwise nat_eq (qualified name number)) keys ≡ is_linked rows name number
  key_is_linked number = elim (cases_Bool (list_any (pointwise nat_eq (qualified name number)) keys)) [
    | inl so ↦
        let (k, link, within, at, same) = linked_key names links keys are name number named (found_key keys (qualified name number) so) in
        so ∙ sym (list_any-from_Any (tests number) rows (k, link, within, at, both number link same))
    | inr not_so ↦
        not_so ∙ sym (false_from_ne_true (is_linked rows name number) (λ so.
        let (k, link, within, at, same) = Any-from_list_any (tests number) rows so in
        let has = key_of_linked names links keys are name number named (k, link, within, at, each number link same) in
        true≢false (sym (list_any-from_Contains nat_list_eq_equiv (qualified name number) keys has) ∙ not_so)))
  ]
