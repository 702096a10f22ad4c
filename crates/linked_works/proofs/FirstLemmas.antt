-- The first row with which a work has too many payees.
use Rattle.std.proofs.Common.{◌≡◌, ◌∙◌, ◌<◌, ◌+◌, ◌∷◌, ◌++◌, [], ℕ, false, List, All, None, Option, Some, ap, arith, drop, get_or, inl, inr, length, map, nat_eq, refl, subst, sym, take, suc}
use Rattle.std.specs.Cmp.Lexicographic.{pointwise}
use Rattle.std.specs.Prelude.{Any, IfSome}
use Rattle.std.proofs.lemmas.Bool.{cases_Bool}
use Rattle.std.proofs.lemmas.List.{get_or-map, length-map, length-take, map-append, map_push, take-append-drop, take_more}
use Rattle.std.proofs.Math.Seq.{drop-cons}
use Rattle.std.proofs.lemmas.Option.{none-some}
use Rattle.std.proofs.lemmas.Slice.Eq.{bytes_eq-Decides}
use Rattle.cwr_share.specs.Registered.{HasFewPayees}
use Rattle.cwr_share.specs.RegistryOf.{HasTooManyPayees}
use Rattle.cwr_share.specs.Registrations.{ShareLine, find_work}
use Rattle.linked_works.specs.Linked as linked
use Rattle.linked_works.specs.Linked.{Finds, shares_linked}
use Rattle.linked_works.specs.ManyPayees.{HasManyPayees, HaveFewPayees, IsFirstMany, SomeHasMany}
use Rattle.linked_works.specs.Rows.{link_by, links_by, with_registration}
use Rattle.linked_works.specs.declared.linking.Link.{Link}
use Rattle.linked_works.proofs.FewLemmas.{not_few_and_many}
use Rattle.linked_works.proofs.LinkedLemmas.{linked_push}

module _ (finds : Finds) where
  -- a work that has share lines is that of a link
  pub named_by : (links : List linked.Link) (work : List ℕ) (shares : List ShareLine) → shares_linked finds links work ≡ Some shares → Any (λ link. link.work ≡ work) links
  named_by [] work shares is = absurd (none-some shares is)
  named_by (link ∷ links) work shares is = elim (cases_Bool (pointwise nat_eq link.work work)) [
    | inl its ↦ (0, link, omega arith, refl, (bytes_eq-Decides link.work work).0 its)
    | inr other ↦
        let (k, d, within, at, its) = named_by links work shares (rw other at is) in
        (suc k, d, omega (arith, within), at, its)
  ]

-- a registration of another work changes nothing
unchanged : (found : Option (List ShareLine)) (its_work submitter : List ℕ) (before : Option (List ShareLine)) (work : List ℕ) → pointwise nat_eq its_work work ≡ false
    → with_registration found its_work submitter before work ≡ before
unchanged None its_work submitter before work other = refl
unchanged (Some shares) its_work submitter before work other = rw other refl

no_link : Link
no_link = record { work = []; submitter = 0; number = [] }

module _ (pay : List ℕ → List ℕ) (finds : Finds) (names : List (List ℕ)) (links : List Link) where
  -- the works that links name, where each of them has few payees
  pub few_in_links : (joined : List (List ℕ × List ShareLine)) → ((work : List ℕ) → find_work work joined ≡ shares_linked finds (links_by names links) work)
      → All (λ link. IfSome (find_work link.work joined) (HasFewPayees pay)) links → HaveFewPayees pay finds (links_by names links)
  few_in_links joined works few work shares is =
      let (k, d, within, at, its) = named_by finds (links_by names links) work shares is in
      let inside : k < length links = omega (arith, within, length-map links (link_by names)) in
      let same : (get_or links k no_link).work ≡ work = ap (λ (link : linked.Link). link.work) (sym (get_or-map (link_by names) links k no_link d inside) ∙ at) ∙ its in
      let found : find_work (get_or links k no_link).work joined ≡ Some shares = ap (λ (name : List ℕ). find_work name joined) same ∙ (works work ∙ is) in
      subst (λ (found : Option (List ShareLine)). IfSome found (HasFewPayees pay)) found (few k no_link inside)

  -- and where one of them has many
  pub many_in_links : (joined : List (List ℕ × List ShareLine)) → ((work : List ℕ) → find_work work joined ≡ shares_linked finds (links_by names links) work)
      → (work : List ℕ) (shares : List ShareLine) → find_work work joined ≡ Some shares → HasManyPayees pay shares → SomeHasMany pay finds (links_by names links)
  many_in_links joined works work shares is many = (work, shares, sym (works work) ∙ is, many)

  -- where one of them has many there is a link
  pub some_links : SomeHasMany pay finds (links_by names links) → 0 < length links
  some_links (work, shares, are, many) =
      let (k, d, within, at, its) = named_by finds (links_by names links) work shares are in omega (arith, within, length-map links (link_by names))

  -- the first with which a work has too many payees
  pub first_at : (k : ℕ) → k < length links → HaveFewPayees pay finds (links_by names (take k links)) → SomeHasMany pay finds (links_by names (take (k + 1) links))
      → IsFirstMany pay finds (links_by names links) k
  first_at k within few (work, shares, are, many) =
      let link = get_or links k no_link in
      let before = links_by names (take k links) in
      let its = link_by names link in
      let next : links_by names (take (k + 1) links) ≡ before ++ its ∷ [] = ap (links_by names) (take_more links k no_link within) ∙ map_push (link_by names) (take k links) link in
      let pushed : shares_linked finds (before ++ its ∷ []) work ≡ Some shares = sym (ap (λ (l : List linked.Link). shares_linked finds l work) next) ∙ are in
      elim (cases_Bool (pointwise nat_eq its.work work)) [
        | inl same ↦ record {
          before = before;
          link = its;
          after = links_by names (drop (suc k) links);
          split = ap (links_by names) (sym (take-append-drop k links))
              ∙ (map-append (link_by names) (take k links) (drop k links) ∙ ap (λ (l : List Link). before ++ map (link_by names) l) (drop-cons links k no_link within));
          place_of = omega (arith, within, length-map (take k links) (link_by names), length-take k links);
          few = few;
          shares = shares;
          are = subst (λ (name : List ℕ). shares_linked finds (before ++ its ∷ []) name ≡ Some shares) (sym ((bytes_eq-Decides its.work work).0 same)) pushed;
          many = many;
        }
        | inr other ↦
            let still : shares_linked finds before work ≡ Some shares =
            sym (unchanged (finds its.submitter its.number) its.work its.submitter (shares_linked finds before work) work other) ∙ (sym (linked_push finds before its work) ∙ pushed) in
            absurd (not_few_and_many pay shares (few work shares still) many)
      ]

-- share lines that are found alike are of too many payees alike
module _ (rows : List (List ℕ × List ℕ)) (shares_of others_of : List ℕ → Option (List ShareLine)) (same : (work : List ℕ) → shares_of work ≡ others_of work) where
  pub as_too_many : HasTooManyPayees rows shares_of → HasTooManyPayees rows others_of
  as_too_many many = record {
    payees = many.payees;
    rising = many.rising;
    each = λ k d within. let (work, shares, is, has) = many.each k d within in (work, shares, sym (same work) ∙ is, has);
    many = many.many;
  }
