-- What submitters claim, and what their registrations claim together.
use Rattle.std.proofs.Common.{◌≡◌, ◌∙◌, ◌+◌, ◌∷◌, [], ℕ, Bool, true, false, List, Option, None, Some, All, AllPairs, Contains, ap, arith, filter, nat_eq, refl, sum_by, sym}
use Rattle.std.specs.Prelude.{unwrap_or}
use Rattle.std.specs.Cmp.Lexicographic.{pointwise}
use Rattle.std.specs.List.{filter_map}
use Rattle.std.proofs.lemmas.List.Elements.{All-cons, All-head, All-nil, All-tail}
use Rattle.std.proofs.lemmas.List.Sums.{sum_by-cons}
use Rattle.check_inputs.specs.SubmittedOver.{claim_of_submitter, claims_of, claims_of_submitters}
use Rattle.cwr_share.specs.ClaimsOn.{claim_of, claimed_in, deciding, share_for}
use Rattle.cwr_share.specs.Joined.{joined}
use Rattle.cwr_share.specs.Registrations.{ShareLine}
use Rattle.cwr_share.proofs.JoinedClaims.{claims_joined}
use Rattle.line_split.specs.UsageLine.{UsageLine}
use Rattle.line_split.specs.declared.usage.Right.{Right}
use Rattle.linked_works.specs.Linked.{Finds, Link, joined_if_any, linked, shares_linked}
use Rattle.explanation_laws.proofs.Parts.{part, parts_add_up}

abbrev Claim : Type 0
Claim = List ℕ × ℕ

abbrev name_of : Claim → List ℕ
name_of claim = claim.0

abbrev size_of : Claim → ℕ
size_of claim = claim.1

-- those of submitters come to what they come to name by name
by_names : (claims : List Claim) (names : List (List ℕ)) → sum_by size_of (filter_map (claim_of_submitter claims) names) ≡ sum_by (part name_of size_of claims) names
by_names claims [] = refl
by_names claims (own ∷ later) =
    first (filter (λ claim. pointwise nat_eq claim.0 own) claims) refl
    ∙ omega (arith, sum_by-cons (part name_of size_of claims) own later, by_names claims later)
  where
    first : (its : List Claim) → filter (λ claim. pointwise nat_eq claim.0 own) claims ≡ its
        → sum_by size_of (filter_map (claim_of_submitter claims) (own ∷ later)) ≡ part name_of size_of claims own + sum_by size_of (filter_map (claim_of_submitter claims) later)
    first [] is = rw is (omega arith)
    first (claim ∷ its) is = rw is (sum_by-cons size_of (own, sum_by size_of (claim ∷ its)) (filter_map (claim_of_submitter claims) later))

-- what registrations claim one by one is what their list claims, which is what one payee would that all their parties had
module _ (table : List (ℕ × List ℕ)) (land : ℕ) (right : Right) where
  all_kept : (lines : List ShareLine) → filter (λ (line : ShareLine). true) lines ≡ lines
  all_kept [] = refl
  all_kept (line ∷ later) = ap (λ (l : List ShareLine). line ∷ l) (all_kept later)

  abbrev one_payee : List ℕ → List ℕ
  one_payee party = []

  as_claim : (lines : List ShareLine) → claimed_in table land right lines ≡ claim_of table land right one_payee lines []
  as_claim lines = ap (sum_by (share_for right)) (sym (all_kept (deciding table land lines)))

  each_as_claim : (registrations : List (List ℕ × List ShareLine))
      → sum_by (λ registration. claim_of table land right one_payee registration.1 []) registrations ≡ sum_by (λ registration. claimed_in table land right registration.1) registrations
  each_as_claim [] = refl
  each_as_claim (registration ∷ later) =
      omega (
        arith,
        sum_by-cons (λ (registration : List ℕ × List ShareLine). claim_of table land right one_payee registration.1 []) registration later,
        sum_by-cons (λ (registration : List ℕ × List ShareLine). claimed_in table land right registration.1) registration later,
        as_claim registration.1,
        each_as_claim later,
      )

  pub claimed_joined : (registrations : List (List ℕ × List ShareLine)) → claimed_in table land right (joined registrations) ≡ sum_by (λ registration. claimed_in table land right registration.1) registrations
  claimed_joined registrations = as_claim (joined registrations) ∙ claims_joined table land right one_payee [] registrations ∙ each_as_claim registrations

sum_of_claims : (table : List (ℕ × List ℕ)) (line : UsageLine) (registrations : List (List ℕ × List ShareLine))
    → sum_by size_of (claims_of table line registrations) ≡ sum_by (λ registration. claimed_in table line.territory line.right registration.1) registrations
sum_of_claims table line [] = refl
sum_of_claims table line (registration ∷ later) =
    omega (
      arith,
      sum_by-cons size_of (registration.0, claimed_in table line.territory line.right registration.1) (claims_of table line later),
      sum_by-cons (λ (registration : List ℕ × List ShareLine). claimed_in table line.territory line.right registration.1) registration later,
      sum_of_claims table line later,
    )

-- a registration that is linked has a submitter that is named
module _ (finds : Finds) (names : List (List ℕ)) (work : List ℕ) where
  abbrev IsNamed : List ℕ × List ShareLine → Type 0
  IsNamed registration = Contains names registration.0

  linked_named : (links : List Link) → All (λ link. Contains names link.submitter) links → All IsNamed (linked finds links work)
  linked_named [] named = All-nil IsNamed
  linked_named (link ∷ later) named =
      by (pointwise nat_eq link.work work) (finds link.submitter link.number) refl refl (linked_named later (All-tail (λ (link : Link). Contains names link.submitter) link later named))
    where
      by : (is : Bool) (found : Option (List ShareLine)) → pointwise nat_eq link.work work ≡ is → finds link.submitter link.number ≡ found
          → All IsNamed (linked finds later work) → All IsNamed (linked finds (link ∷ later) work)
      by false found of_work there rest = rw of_work rest
      by true None of_work there rest = rw (of_work, there) rest
      by true (Some shares) of_work there rest =
          rw (of_work, there)
          (All-cons IsNamed (link.submitter, shares) (linked finds later work) (All-head (λ (link : Link). Contains names link.submitter) link later named) rest)

claims_named : (table : List (ℕ × List ℕ)) (line : UsageLine) (names : List (List ℕ)) (registrations : List (List ℕ × List ShareLine))
    → All (λ registration. Contains names registration.0) registrations → All (λ claim. Contains names (name_of claim)) (claims_of table line registrations)
claims_named table line names [] named = All-nil (λ claim. Contains names (name_of claim))
claims_named table line names (registration ∷ later) named =
    All-cons (λ claim. Contains names (name_of claim)) (registration.0, claimed_in table line.territory line.right registration.1) (claims_of table line later)
    (All-head (λ registration. Contains names registration.0) registration later named)
    (claims_named table line names later (All-tail (λ registration. Contains names registration.0) registration later named))

-- registrations of a work as one list, where there are any
as_one : (registrations : List (List ℕ × List ShareLine)) → unwrap_or (joined_if_any registrations) [] ≡ joined registrations
as_one [] = refl
as_one (registration ∷ later) = refl

pub submitters_add_up : (table : List (ℕ × List ℕ)) (finds : Finds) (links : List Link) (names : List (List ℕ)) (line : UsageLine)
    → AllPairs (λ name later. ¬ (name ≡ later)) names → All (λ link. Contains names link.submitter) links
    → sum_by size_of (claims_of_submitters table finds links names line) ≡ claimed_in table line.territory line.right (unwrap_or (shares_linked finds links line.work) [])
submitters_add_up table finds links names line distinct named =
    let registrations = linked finds links line.work in
    let claims = claims_of table line registrations in
    by_names claims names
    ∙ parts_add_up name_of size_of names claims distinct (claims_named table line names registrations (linked_named finds names line.work links named))
    ∙ sum_of_claims table line registrations
    ∙ sym (claimed_joined table line.territory line.right registrations)
    ∙ ap (claimed_in table line.territory line.right) (sym (as_one registrations))
