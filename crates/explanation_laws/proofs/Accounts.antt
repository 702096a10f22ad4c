-- What accounts claim, and what the share lines claim together: each party has one payee, and that one account.
use Rattle.std.proofs.Common.{◌≡◌, ◌∙◌, ◌+◌, ◌<◌, ◌⊎◌, ◌==◌, ◌∷◌, [], ℕ, true, false, List, Some, All, AllPairs, Contains, ap, arith, drop, filter, get_or, inl, inr, length, map, not, refl, subst, sum_by, sym}
use Rattle.std.specs.Cmp.Lexicographic.{nat_list_cmp_total, slice_cmp}
use Rattle.std.specs.List.{enumerate_from}
use Rattle.std.specs.List.Sorted.{IsStrictlySortedBy}
use Rattle.std.specs.Ordering.{nat_cmp}
use Rattle.std.proofs.lemmas.Bool.{cases_Bool, eqb-true}
use Rattle.std.proofs.lemmas.List.{get_or-map, length-map}
use Rattle.std.proofs.lemmas.List.Sums.{sum_by-cons}
use Rattle.std.proofs.lemmas.Map.Keys.{Less-from_sorted, sorted_tail}
use Rattle.cwr_share.specs.ClaimsOn.{claim_of, claimed_in, claims_by, deciding, share_for}
use Rattle.cwr_share.specs.Payees.{HasRow, IsPayeeIn, payee_of}
use Rattle.cwr_share.specs.Registered.{IsRegistered, Registered}
use Rattle.cwr_share.specs.Registrations.{ShareLine, find_work}
use Rattle.cwr_share.proofs.OneRegistry.{found_inside, not_before_itself}
use Rattle.cwr_share.proofs.PaidClaims.{deciding_among}
use Rattle.cwr_share.proofs.PayeeLemmas.{payee_at}
use Rattle.line_split.specs.Claims.{total_of}
use Rattle.line_split.specs.UsageLine.{UsageLine}
use Rattle.explanation_laws.proofs.Parts.{parts_add_up}

abbrev size_of : ℕ × ℕ → ℕ
size_of claim = claim.1

-- a claim to nothing adds nothing
nothing_dropped : (claims : List (ℕ × ℕ)) → sum_by size_of (filter (λ claim. not (claim.1 == 0)) claims) ≡ sum_by size_of claims
nothing_dropped [] = refl
nothing_dropped (claim ∷ later) = by (cases_Bool (claim.1 == 0)) (nothing_dropped later)
  where
    by : ((claim.1 == 0) ≡ true) ⊎ ((claim.1 == 0) ≡ false) → sum_by size_of (filter (λ claim. not (claim.1 == 0)) later) ≡ sum_by size_of later
        → sum_by size_of (filter (λ claim. not (claim.1 == 0)) (claim ∷ later)) ≡ sum_by size_of (claim ∷ later)
    by (inl none) rest = rw none (omega (arith, rest, sum_by-cons size_of claim later, eqb-true claim.1 0 none))
    by (inr some) rest =
        rw some (omega (arith, rest, sum_by-cons size_of claim later, sum_by-cons size_of claim (filter (λ (claim : ℕ × ℕ). not (claim.1 == 0)) later)))

-- the claims of accounts, by their payees
by_payees : (claim : List ℕ → ℕ) (n : ℕ) (payees : List (List ℕ))
    → sum_by size_of (map (λ (claimant : ℕ × List ℕ). (claimant.0, claim claimant.1)) (enumerate_from n payees)) ≡ sum_by claim payees
by_payees claim n [] = refl
by_payees claim n (payee ∷ later) =
    omega (
      arith,
      sum_by-cons size_of (n, claim payee) (map (λ (claimant : ℕ × List ℕ). (claimant.0, claim claimant.1)) (enumerate_from (n + 1) later)),
      sum_by-cons claim payee later,
      by_payees claim (n + 1) later,
    )

module _ (registered : Registered) (is : IsRegistered registered) where
  -- no payee has two accounts
  payees_apart : AllPairs (λ payee later. ¬ (payee ≡ later)) is.names
  payees_apart = λ i j d before within.
      not_before_itself nat_list_cmp_total (get_or is.names i d) (get_or is.names j d)
      (Less-from_sorted (slice_cmp nat_cmp) is.names i j d (sorted_tail (slice_cmp nat_cmp) [] is.names (subst (IsStrictlySortedBy (slice_cmp nat_cmp)) is.accounts is.rising)) before within)

  -- the payee of a party with a row is that of the row
  payee_inside : (party : List ℕ) → HasRow registered.payees party → IsPayeeIn registered.payees (payee_of registered.payees party)
  payee_inside party (place, within, at) =
      let payees = registered.payees in
      let inside : place < length payees = omega (arith, within, length-map payees row_party) in
      let whose : (get_or payees place ([], [])).0 ≡ party = sym (get_or-map row_party payees place ([], []) party inside) ∙ at in
      let paid : payee_of payees party ≡ (get_or payees place ([], [])).1 = ap (payee_of payees) (sym whose) ∙ payee_at payees is.one_payee place ([], []) inside in
      (place, omega (arith, inside, length-map payees row_payee), get_or-map row_payee payees place ([], []) (payee_of payees party) inside ∙ sym paid)
    where
      row_party : List ℕ × List ℕ → List ℕ
      row_party row = row.0

      row_payee : List ℕ × List ℕ → List ℕ
      row_payee row = row.1

  -- the payee of a party in force has an account
  payee_named : (work : List ℕ) (shares : List ShareLine) → find_work work registered.works ≡ Some shares → All (λ line. Contains is.names (payee_of registered.payees line.party)) shares
  payee_named work shares found = λ k d within.
      let line = get_or shares k d in
      let party_of : ShareLine → List ℕ = λ share. share.party in
      let party : HasRow registered.payees line.party =
      (is.in_force line.party).1 (work, shares, found_inside registered.works work shares found, (k, omega (arith, within, length-map shares party_of), get_or-map party_of shares k d _ within)) in
      (is.exact (payee_of registered.payees line.party)).1 (payee_inside line.party party)

  pub accounts_add_up : (table : List (ℕ × List ℕ)) (line : UsageLine) (shares : List ShareLine) → find_work line.work registered.works ≡ Some shares
      → total_of (claims_by table registered line shares) ≡ claimed_in table line.territory line.right shares
  accounts_add_up table line shares found =
      let pay = payee_of registered.payees in
      let claim : List ℕ → ℕ = claim_of table line.territory line.right pay shares in
      nothing_dropped (map (λ (claimant : ℕ × List ℕ). (claimant.0, claim claimant.1)) (enumerate_from 1 (drop 1 registered.accounts)))
      ∙ by_payees claim 1 (drop 1 registered.accounts)
      ∙ ap (λ (accounts : List (List ℕ)). sum_by claim (drop 1 accounts)) is.accounts
      ∙ parts_add_up (λ (share : ShareLine). pay share.party) (share_for line.right) is.names (deciding table line.territory shares) payees_apart
      (deciding_among (λ share. Contains is.names (pay share.party)) table line.territory shares (payee_named line.work shares found))
