-- Files, rows of the table of works and rows of the table of payees in another order say the same.
use Rattle.std.proofs.Common.{◌≡◌, ◌∙◌, ◌∷◌, [], ℕ, List, Option, ap, arith, get_or, refl, subst, sym}
use Rattle.std.specs.Prelude.{option_and_then}
use Rattle.std.specs.List.Sorted.{IsPermutation}
use Rattle.std.specs.Option.{option_map, option_map_or}
use Rattle.std.proofs.lemmas.List.Sorted.{length_permutation, list_any-IsPermutation, sum_by-IsPermutation}
use Rattle.line_split.specs.UsageLine.{UsageLine}
use Rattle.line_split.specs.declared.usage.Right.{Right}
use Rattle.cwr_share.specs.ClaimsOn.{claims_on, reason_against}
use Rattle.cwr_share.specs.Joined.{joined}
use Rattle.cwr_share.specs.Payees.{payee_of}
use Rattle.cwr_share.specs.Registered.{IsRegistered, Registered}
use Rattle.cwr_share.specs.RegistryOf.{IsRegistryOf}
use Rattle.cwr_share.specs.Registrations.{ShareLine, find_work, shares_in_force}
use Rattle.cwr_share.proofs.FileLemmas.{filter_map_agree}
use Rattle.cwr_share.proofs.JoinedClaims.{claim_alone, claims_joined}
use Rattle.linked_works.specs.Linked.{Link, finds_in, joined_if_any, linked, registration_by, shares_linked}
use Rattle.works_laws.specs.Reordered.{AreReordered}
use Rattle.works_laws.proofs.JoinedPayees.{is_paid_by, paid_joined}
use Rattle.works_laws.proofs.ListLemmas.{filter_map-permutation, find-permutation}
use Rattle.works_laws.proofs.SameRegistries.{ArePaidTheSame, ClaimTheSame, InBoth, answer_alike, claim_paid_alike, paid_alike, same_accounts}

module _ (files others : List (List ℕ × List (List ℕ))) (links moved : List Link) (rows mixed : List (List ℕ × List ℕ)) (reordered : AreReordered files others links moved rows mixed) where
  -- a submitter has the same file
  same_file : (submitter : List ℕ) → find_work submitter files ≡ find_work submitter others
  same_file submitter =
      ap (option_map (λ (entry : List ℕ × List (List ℕ)). entry.1))
      (find-permutation (λ (entry : List ℕ × List (List ℕ)). entry.0) submitter files others reordered.submitters reordered.same_files)

  same_finds : (submitter number : List ℕ) → finds_in files submitter number ≡ finds_in others submitter number
  same_finds submitter number = ap (λ (found : Option (List (List ℕ))). option_and_then (λ lines. shares_in_force lines number) found) (same_file submitter)

  -- a party has the same payee
  same_payee : (party : List ℕ) → payee_of rows party ≡ payee_of mixed party
  same_payee party =
      ap (λ (found : Option (List ℕ × List ℕ)). option_map_or (λ (row : List ℕ × List ℕ). row.1) found party)
      (find-permutation (λ (row : List ℕ × List ℕ). row.0) party rows mixed reordered.parties reordered.same_rows)

  -- a work has the same registrations, in another order
  same_linked : (work : List ℕ) → IsPermutation (linked (finds_in files) links work) (linked (finds_in others) moved work)
  same_linked work =
      let one : linked (finds_in files) moved work ≡ linked (finds_in others) moved work =
      filter_map_agree (registration_by (finds_in files) work) (registration_by (finds_in others) work) moved (λ k d within. by (get_or moved k d)) in
      subst (IsPermutation (linked (finds_in files) links work)) one (filter_map-permutation (registration_by (finds_in files) work) links moved reordered.same_links)
    where
      by : (link : Link) → registration_by (finds_in files) work link ≡ registration_by (finds_in others) work link
      by link = rw (same_finds link.submitter link.number) refl

  -- what holds of registrations and of these in another order holds of what they come to
  of_moved : (E : List ShareLine → List ShareLine → Type 0)
      → ((registrations later : List (List ℕ × List ShareLine)) → IsPermutation registrations later → E (joined registrations) (joined later))
      → (registrations later : List (List ℕ × List ShareLine)) → IsPermutation registrations later → InBoth E (joined_if_any registrations) (joined_if_any later)
  of_moved E each [] [] same = tt
  of_moved E each [] (one ∷ later) same = absurd (omega (arith, length_permutation [] (one ∷ later) same))
  of_moved E each (one ∷ registrations) [] same = absurd (omega (arith, length_permutation (one ∷ registrations) [] same))
  of_moved E each (one ∷ registrations) (other ∷ later) same = each (one ∷ registrations) (other ∷ later) same

  paid_moved : (work : List ℕ) → InBoth (ArePaidTheSame (payee_of rows) (payee_of mixed)) (shares_linked (finds_in files) links work) (shares_linked (finds_in others) moved work)
  paid_moved work =
      of_moved (ArePaidTheSame (payee_of rows) (payee_of mixed)) (λ registrations later same payee.
      paid_joined (payee_of rows) payee registrations
      ∙ list_any-IsPermutation (is_paid_by (payee_of rows) payee) registrations later same
      ∙ sym (paid_joined (payee_of rows) payee later)
      ∙ paid_alike (payee_of rows) (payee_of mixed) payee (joined later) (λ k d within. same_payee (get_or (joined later) k d).party))
      (linked (finds_in files) links work) (linked (finds_in others) moved work) (same_linked work)

  claim_moved : (table : List (ℕ × List ℕ)) (land : ℕ) (right : Right) (work : List ℕ)
      → InBoth (ClaimTheSame table land right (payee_of rows) (payee_of mixed)) (shares_linked (finds_in files) links work) (shares_linked (finds_in others) moved work)
  claim_moved table land right work =
      of_moved (ClaimTheSame table land right (payee_of rows) (payee_of mixed)) (λ registrations later same payee.
      claims_joined table land right (payee_of rows) payee registrations
      ∙ sym (sum_by-IsPermutation (claim_alone table land right (payee_of rows) payee) registrations later same)
      ∙ sym (claims_joined table land right (payee_of rows) payee later)
      ∙ claim_paid_alike table land right (payee_of rows) (payee_of mixed) payee (joined later) (λ k d within. same_payee (get_or (joined later) k d).party))
      (linked (finds_in files) links work) (linked (finds_in others) moved work) (same_linked work)

  module _ (registered other : Registered) (of : IsRegistryOf rows (shares_linked (finds_in files) links) registered) (is : IsRegistered registered)
      (other_of : IsRegistryOf mixed (shares_linked (finds_in others) moved) other) (other_is : IsRegistered other) where
    pub accounts_moved : registered.accounts ≡ other.accounts
    accounts_moved = same_accounts rows mixed (shares_linked (finds_in files) links) (shares_linked (finds_in others) moved) registered other of is other_of other_is paid_moved

    pub answers_moved : (table : List (ℕ × List ℕ)) (line : UsageLine)
        → (claims_on table registered line ≡ claims_on table other line) × (reason_against table registered line ≡ reason_against table other line)
    answers_moved = answer_alike rows mixed (shares_linked (finds_in files) links) (shares_linked (finds_in others) moved) registered other of is other_of other_is paid_moved claim_moved
