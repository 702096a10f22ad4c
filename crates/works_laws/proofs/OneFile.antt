-- The registrations of one submitter, each of the work with its own number, are those of its file.
use Rattle.std.proofs.Common.{◌≡◌, ◌∙◌, ◌<◌, ◌∷◌, [], ℕ, suc, zero, List, All, AllPairs, None, Option, Some, ap, arith, get_or, inl, inr, length, nat_eq, refl, subst, sum_by, sym}
use Rattle.std.specs.Cmp.Lexicographic.{pointwise}
use Rattle.std.specs.List.{cons_option}
use Rattle.std.proofs.Math.Bool.{or-false}
use Rattle.std.proofs.lemmas.Bool.{cases_Bool, false_from_ne_true}
use Rattle.std.proofs.lemmas.List.{get_or-map, length-map}
use Rattle.std.proofs.lemmas.List.Elements.{All-tail}
use Rattle.std.proofs.lemmas.List.Sums.{sum_by-cons}
use Rattle.std.proofs.lemmas.Slice.Eq.{bytes_eq-Decides}
use Rattle.line_split.specs.UsageLine.{UsageLine}
use Rattle.line_split.specs.declared.usage.Right.{Right}
use Rattle.cwr_share.specs.ClaimsOn.{claims_on, reason_against}
use Rattle.cwr_share.specs.CwrFile.{IsFileOf}
use Rattle.cwr_share.specs.Joined.{joined, qualified}
use Rattle.cwr_share.specs.Payees.{payee_of}
use Rattle.cwr_share.specs.Registered.{IsRegistered, Registered}
use Rattle.cwr_share.specs.RegistryOf.{IsRegistryOf}
use Rattle.cwr_share.specs.Registrations.{ShareLine, shares_in_force}
use Rattle.cwr_share.proofs.CompiledLemmas.{AllPairs-head, AllPairs-tail}
use Rattle.cwr_share.proofs.JoinedClaims.{claim_alone, claims_joined}
use Rattle.linked_works.specs.Linked.{Finds, Link, finds_in, joined_if_any, linked, registration_by, shares_linked}
use Rattle.works_laws.specs.ByNumbers.{ArePaidAsIn, IsByNumbers}
use Rattle.works_laws.proofs.JoinedPayees.{paid_joined}
use Rattle.works_laws.proofs.ListLemmas.{filter_map_none}
use Rattle.works_laws.proofs.SameRegistries.{ArePaidTheSame, ClaimTheSame, InBoth, answer_alike, claim_paid_alike, is_paid_in, paid_alike, same_accounts}

-- What a link has of a work
module _ (finds : Finds) (work : List ℕ) (link : Link) where
  -- nothing, where it is of another
  apart : ¬ (link.work ≡ work) → registration_by finds work link ≡ None
  apart other = rw (false_from_ne_true (pointwise nat_eq link.work work) (λ same. other ((bytes_eq-Decides link.work work).0 same))) refl

  -- nothing, where its submitter has nothing
  given_none : finds link.submitter link.number ≡ None → registration_by finds work link ≡ None
  given_none none = elim (cases_Bool (pointwise nat_eq link.work work)) [ inl its ↦ rw (its, none) refl | inr other ↦ rw other refl ]

  given_some : link.work ≡ work → (shares : List ShareLine) → finds link.submitter link.number ≡ Some shares → registration_by finds work link ≡ Some (link.submitter, shares)
  given_some same shares some = rw ((bytes_eq-Decides link.work work).1 same, some) refl

-- the links are of one submitter, each of the work with its number
abbrev IsOwn : (name : List ℕ) → Link → Type 0
IsOwn name link = (link.work ≡ link.number) × (link.submitter ≡ name)

abbrev Differ : Link → Link → Type 0
Differ link later = ¬ (link.number ≡ later.number)

module _ (finds : Finds) (name work : List ℕ) where
  nothing_linked : finds name work ≡ None → (links : List Link) → All (IsOwn name) links → linked finds links work ≡ []
  nothing_linked none links own = filter_map_none (registration_by finds work) links (λ k d within. by (get_or links k d) (own k d within))
    where
      by : (link : Link) → IsOwn name link → registration_by finds work link ≡ None
      by link its = elim (cases_Bool (pointwise nat_eq link.work work)) [
        | inl told ↦
            let same : link.number ≡ work = sym its.0 ∙ (bytes_eq-Decides link.work work).0 told in
            given_none finds work link (ap (λ (text : List ℕ). finds text link.number) its.1 ∙ ap (finds name) same ∙ none)
        | inr other ↦ rw other refl
      ]

  one_linked : (shares : List ShareLine) → finds name work ≡ Some shares → (links : List Link) → All (IsOwn name) links → AllPairs Differ links
      → (k : ℕ) (link : Link) → k < length links → get_or links k link ≡ link → link.number ≡ work → linked finds links work ≡ (name, shares) ∷ []
  one_linked shares some [] own differ k link within at its = absurd (omega (arith, within))
  one_linked shares some (first ∷ later) own differ zero link within at its =
      let number : first.number ≡ work = ap (λ (l : Link). l.number) at ∙ its in
      let (of_work, of_name) = own 0 first (omega arith) in
      let found : finds first.submitter first.number ≡ Some shares = ap (λ (text : List ℕ). finds text first.number) of_name ∙ ap (finds name) number ∙ some in
      let none : All (λ (l : Link). registration_by finds work l ≡ None) later =
      λ k d inside. apart finds work (get_or later k d)
      (λ same. AllPairs-head Differ first later differ k d inside (number ∙ sym same ∙ (All-tail (IsOwn name) first later own k d inside).0)) in
      ap (λ (given : Option (List ℕ × List ShareLine)). cons_option given (linked finds later work)) (given_some finds work first (of_work ∙ number) shares found)
      ∙ ap (λ (rest : List (List ℕ × List ShareLine)). (first.submitter, shares) ∷ rest) (filter_map_none (registration_by finds work) later none)
      ∙ ap (λ (text : List ℕ). (text, shares) ∷ []) of_name
  one_linked shares some (first ∷ later) own differ (suc k) link within at its =
      let inside : k < length later = omega (arith, within) in
      let (of_work, of_name) = own 0 first (omega arith) in
      let other : ¬ (first.work ≡ work) =
      λ same. AllPairs-head Differ first later differ k link inside (sym of_work ∙ same ∙ sym its ∙ ap (λ (l : Link). l.number) (sym at)) in
      ap (λ (given : Option (List ℕ × List ShareLine)). cons_option given (linked finds later work)) (apart finds work first other)
      ∙ one_linked shares some later (All-tail (IsOwn name) first later own) (AllPairs-tail Differ first later differ) k link inside at its

-- the submitter has what its file has
own_finds : (name : List ℕ) (lines : List (List ℕ)) (number : List ℕ) → finds_in ((name, lines) ∷ []) name number ≡ shares_in_force lines number
own_finds name lines number = rw ((bytes_eq-Decides name name).1 refl) refl

sum_of_one : {X : Type 0} (f : X → ℕ) (x : X) → sum_by f (x ∷ []) ≡ f x
sum_of_one f x = omega (arith, sum_by-cons f x [])

module _ (name : List ℕ) (lines : List (List ℕ)) (rows named : List (List ℕ × List ℕ)) (links : List Link) (numbers : IsByNumbers name lines links) (paid : ArePaidAsIn name lines rows named) where
  abbrev shares_of : List ℕ → Option (List ShareLine)
  shares_of = shares_linked (finds_in ((name, lines) ∷ [])) links

  -- what holds of the one registration of a work holds of its links
  of_one : (E : List ShareLine → List ShareLine → Type 0) (work : List ℕ) → ((shares : List ShareLine) → shares_in_force lines work ≡ Some shares → E (joined ((name, shares) ∷ [])) shares)
      → InBoth E (shares_of work) (shares_in_force lines work)
  of_one E work one = by (shares_in_force lines work) refl
    where
      by : (found : Option (List ShareLine)) → shares_in_force lines work ≡ found → InBoth E (shares_of work) found
      by None is =
          subst (λ (registrations : List (List ℕ × List ShareLine)). InBoth E (joined_if_any registrations) None)
          (sym (nothing_linked (finds_in ((name, lines) ∷ [])) name work (own_finds name lines work ∙ is) links numbers.each)) tt
      by (Some shares) is =
          let (k, link, within, at, its) = numbers.all work shares is in
          subst (λ (registrations : List (List ℕ × List ShareLine)). InBoth E (joined_if_any registrations) (Some shares))
          (sym (one_linked (finds_in ((name, lines) ∷ [])) name work shares (own_finds name lines work ∙ is) links numbers.each numbers.once k link within at its)) (one shares is)

  -- its parties are paid as by themselves
  paid_as : (work : List ℕ) (shares : List ShareLine) → shares_in_force lines work ≡ Some shares → All (λ line. payee_of named (qualified name line.party) ≡ payee_of rows line.party) shares
  paid_as work shares is k d within =
      paid.each (get_or shares k d).party
      (work, shares, is, (k, omega (arith, within, length-map shares (λ (line : ShareLine). line.party)), get_or-map (λ (line : ShareLine). line.party) shares k d _ within))

  paid_alone : (work : List ℕ) → InBoth (ArePaidTheSame (payee_of named) (payee_of rows)) (shares_of work) (shares_in_force lines work)
  paid_alone work = of_one (ArePaidTheSame (payee_of named) (payee_of rows)) work (λ shares is payee.
      paid_joined (payee_of named) payee ((name, shares) ∷ [])
      ∙ or-false (is_paid_in (λ party. payee_of named (qualified name party)) shares payee)
      ∙ paid_alike (λ party. payee_of named (qualified name party)) (payee_of rows) payee shares (paid_as work shares is))

  claim_as_alone : (table : List (ℕ × List ℕ)) (land : ℕ) (right : Right) (work : List ℕ)
      → InBoth (ClaimTheSame table land right (payee_of named) (payee_of rows)) (shares_of work) (shares_in_force lines work)
  claim_as_alone table land right work = of_one (ClaimTheSame table land right (payee_of named) (payee_of rows)) work (λ shares is payee.
      claims_joined table land right (payee_of named) payee ((name, shares) ∷ [])
      ∙ sum_of_one (claim_alone table land right (payee_of named) payee) (name, shares)
      ∙ claim_paid_alike table land right (λ party. payee_of named (qualified name party)) (payee_of rows) payee shares (paid_as work shares is))

  module _ (registered alone : Registered) (file : IsFileOf rows lines registered) (is : IsRegistered registered) (of : IsRegistryOf named shares_of alone) (alone_is : IsRegistered alone) where
    pub accounts_of_one : alone.accounts ≡ registered.accounts
    accounts_of_one = same_accounts named rows shares_of (shares_in_force lines) alone registered of alone_is file.registry is paid_alone

    pub answers_of_one : (table : List (ℕ × List ℕ)) (line : UsageLine)
        → (claims_on table alone line ≡ claims_on table registered line) × (reason_against table alone line ≡ reason_against table registered line)
    answers_of_one = answer_alike named rows shares_of (shares_in_force lines) alone registered of alone_is file.registry is paid_alone claim_as_alone
