-- What links come to with the files is refused for one fault, and for none where it gives registrations.
use Rattle.std.proofs.Common.{◌≡◌, ◌∙◌, ◌+◌, ◌<◌, ◌⊎◌, ◌++◌, ◌∷◌, [], ℕ, Bool, true, false, Contains, List, Option, None, Some, ap, append_assoc, arith, cond, inl, inr, length, length-append, get_or, map, nat_eq, refl, subst, sym}
use Rattle.std.specs.Cmp.Lexicographic.{pointwise}
use Rattle.std.proofs.lemmas.List.{append-nil, get_or-map, get_or_append_left, length-map}
use Rattle.std.proofs.lemmas.List.Elements.{All-contains}
use Rattle.cwr_share.specs.Joined.{followed_by, interests_in, of_submitter}
use Rattle.cwr_share.specs.Payees.{payee_of}
use Rattle.cwr_share.specs.Registered.{HasFewPayees, IsRegistered, Registered}
use Rattle.cwr_share.specs.RegistryOf.{HasTooManyPayees, IsRegistryOf}
use Rattle.cwr_share.specs.Registrations.{ShareLine, find_work}
use Rattle.cwr_share.proofs.OneRegistry.{found_inside, not_too_many}
use Rattle.cwr_share.proofs.PayeeLemmas.{payee_at}
use Rattle.linked_works.specs.Linked.{Finds, Link, shares_linked}
use Rattle.linked_works.specs.ManyPayees.{HaveFewPayees, IsFaultOfLinks, IsFirstMany}
use Rattle.linked_works.specs.Rows.{with_registration}
use Rattle.linked_works.specs.declared.works_fault.WorksFault.{WorksFault}
use Rattle.linked_works.specs.declared.works_fault.WorksFault.TheVariants.{Many, Accounts, Memory}
use Rattle.linked_works.proofs.FewLemmas.{not_few_and_many}
use Rattle.linked_works.proofs.LinkedLemmas.{linked_push}
use Rattle.submitted_inputs.specs.Submitted.{AreRegistrations}
use Rattle.explanation_laws.proofs.FirstFaults.{seams}

module _ (pay : List ℕ → List ℕ) where
  -- share lines at the front of others have no more payees
  few_in_front : (lines more : List ShareLine) → HasFewPayees pay (lines ++ more) → HasFewPayees pay lines
  few_in_front lines more (payees, few, has) = (
    payees,
    few,
    λ k d within. rw (get_or_append_left lines more d k within) at (has k d (omega (arith, within, length-append lines more))),
  )

  -- nor have those of a work before one more registration
  few_before_one : (found : Option (List ShareLine)) (its_work submitter work : List ℕ) (shares : List ShareLine)
      → ((all : List ShareLine) → with_registration found its_work submitter (Some shares) work ≡ Some all → HasFewPayees pay all) → HasFewPayees pay shares
  few_before_one None its_work submitter work shares few = few shares refl
  few_before_one (Some more) its_work submitter work shares few = by (pointwise nat_eq its_work work) few
    where
      by : (its : Bool) → ((all : List ShareLine) → cond its (Some (followed_by shares (submitter, more))) (Some shares) ≡ Some all → HasFewPayees pay all) → HasFewPayees pay shares
      by false few = few shares refl
      by true few = few_in_front shares (map (of_submitter submitter (interests_in shares)) more) (few (followed_by shares (submitter, more)) refl)

  module _ (finds : Finds) where
    few_before_link : (links : List Link) (link : Link) → HaveFewPayees pay finds (links ++ link ∷ []) → HaveFewPayees pay finds links
    few_before_link links link few work shares are =
        let found = finds link.submitter link.number in
        few_before_one found link.work link.submitter work shares
        (λ all is. few work all (linked_push finds links link work ∙ (ap (λ (before : Option (List ShareLine)). with_registration found link.work link.submitter before work) are ∙ is)))

    -- so the links at the front of others have few payees where these have
    few_before : (links more : List Link) → HaveFewPayees pay finds (links ++ more) → HaveFewPayees pay finds links
    few_before links [] few = subst (HaveFewPayees pay finds) (append-nil links) few
    few_before links (link ∷ more) few =
        few_before_link links link (few_before (links ++ link ∷ []) more (subst (HaveFewPayees pay finds) (sym (append_assoc links (link ∷ []) more)) few))

    -- and no link is the first with which they are many
    not_many_behind : (links more : List Link) (place : ℕ) (first : IsFirstMany pay finds links place) → HaveFewPayees pay finds (first.before ++ first.link ∷ more) → ⊥
    not_many_behind links more place first few =
        let so_far = few_before (first.before ++ first.link ∷ []) more (subst (HaveFewPayees pay finds) (sym (append_assoc first.before (first.link ∷ []) more)) few) in
        not_few_and_many pay first.shares (so_far first.link.work first.shares first.are) first.many

    not_many : (links : List Link) (place : ℕ) → HaveFewPayees pay finds links → ¬ IsFirstMany pay finds links place
    not_many links place few first = not_many_behind links first.after place first (subst (HaveFewPayees pay finds) first.split few)

    -- there is one such link
    one_many : (links : List Link) (place other : ℕ) → IsFirstMany pay finds links place → IsFirstMany pay finds links other → place ≡ other
    one_many links place other first second = elim (seams first.before second.before first.link second.link first.after second.after (sym first.split ∙ second.split)) [
      | inl (same, _) ↦ sym first.place_of ∙ (ap (λ (l : List Link). length l) same ∙ second.place_of)
      | inr (inl (more, is)) ↦ absurd (not_many_behind links more place first (subst (HaveFewPayees pay finds) is second.few))
      | inr (inr (more, is)) ↦ absurd (not_many_behind links more other second (subst (HaveFewPayees pay finds) is first.few))
    ]

-- in a registry the payees of a work are as few as the table of payees makes them
few_registered : (rows : List (List ℕ × List ℕ)) (shares_of : List ℕ → Option (List ShareLine)) (registered : Registered) → IsRegistryOf rows shares_of registered → IsRegistered registered
    → (work : List ℕ) (shares : List ShareLine) → shares_of work ≡ Some shares → HasFewPayees (payee_of rows) shares
few_registered rows shares_of registered of is work shares are = (
  few.0,
  few.1,
  λ k d within. subst (λ (payee : List ℕ). Contains few.0 payee) (paid k d within) (few.2 k d within),
)
  where
    found : find_work work registered.works ≡ Some shares
    found = of.in_force work ∙ are

    few : HasFewPayees (payee_of registered.payees) shares
    few =
        All-contains (λ (entry : List ℕ × List ShareLine). HasFewPayees (payee_of registered.payees) entry.1) registered.works (work, shares) is.few_payees
        (found_inside registered.works work shares found)

    paid : (k : ℕ) (d : ShareLine) → k < length shares → payee_of registered.payees (get_or shares k d).party ≡ payee_of rows (get_or shares k d).party
    paid k d within =
        let party = (get_or shares k d).party in
        let has : Contains (map (λ (line : ShareLine). line.party) shares) party =
        (k, omega (arith, within, length-map shares (λ (line : ShareLine). line.party)), get_or-map (λ (line : ShareLine). line.party) shares k d party within) in
        let (place, low, at) = (is.in_force party).1 (work, shares, found_inside registered.works work shares found, has) in
        let inside : place < length registered.payees = omega (arith, low, length-map registered.payees (λ (row : List ℕ × List ℕ). row.0)) in
        let whose : (get_or registered.payees place ([], [])).0 ≡ party = sym (get_or-map (λ (row : List ℕ × List ℕ). row.0) registered.payees place ([], []) party inside) ∙ at in
        ap (payee_of registered.payees) (sym whose)
        ∙ (payee_at registered.payees is.one_payee place ([], []) inside ∙ (of.paid place ([], []) inside ∙ ap (payee_of rows) whose))

module _ (rows : List (List ℕ × List ℕ)) (finds : Finds) (links : List Link) where
  abbrev Told : WorksFault → Type 0
  Told fault =
      (fault ≡ Memory) ⊎ ((place : ℕ) × (fault ≡ Many (place + 1)) × IsFirstMany (payee_of rows) finds links place)
      ⊎ ((fault ≡ Accounts) × HaveFewPayees (payee_of rows) finds links × HasTooManyPayees rows (shares_linked finds links))

  told : (fault : WorksFault) → IsFaultOfLinks rows finds links fault → Told fault
  told (Many row) (place, is, first) = inr (inl (place, ap Many is, first))
  told Accounts (few, many) = inr (inr (refl, few, many))
  told Memory is = inl refl
  told fault never = absurd never

  pub one_fault_of_links : (a b : WorksFault) → IsFaultOfLinks rows finds links a → IsFaultOfLinks rows finds links b → ¬ (a ≡ Memory) → ¬ (b ≡ Memory) → a ≡ b
  one_fault_of_links a b is also some other = by (told a is) (told b also)
    where
      by : Told a → Told b → a ≡ b
      by (inl memory) of = absurd (some memory)
      by (inr of) (inl memory) = absurd (other memory)
      by (inr (inl (place, is, first))) (inr (inl (later, also, second))) = is ∙ (ap (λ (n : ℕ). Many (n + 1)) (one_many (payee_of rows) finds links place later first second) ∙ sym also)
      by (inr (inl (place, _, first))) (inr (inr (_, few, _))) = absurd (not_many (payee_of rows) finds links place few first)
      by (inr (inr (_, few, _))) (inr (inl (place, _, first))) = absurd (not_many (payee_of rows) finds links place few first)
      by (inr (inr (is, _, _))) (inr (inr (also, _, _))) = is ∙ sym also

  -- links that give registrations are refused for nothing but lack of memory
  pub no_fault_of_links : (registered : Registered) → AreRegistrations rows finds links registered → (fault : WorksFault) → IsFaultOfLinks rows finds links fault → fault ≡ Memory
  no_fault_of_links registered (of, is) fault refused = elim (told fault refused) [
    | inl memory ↦ memory
    | inr (inl (place, _, first)) ↦ absurd (not_many (payee_of rows) finds links place (few_registered rows (shares_linked finds links) registered of is) first)
    | inr (inr (_, _, many)) ↦ absurd (not_too_many rows (shares_linked finds links) registered of is many)
  ]
