-- Two registries answer alike where the share lines of each work claim the same for each payee, and are paid to the same payees.
use Rattle.std.proofs.Common.{◌≡◌, ◌∙◌, ◌+◌, ◌<◌, ◌∷◌, [], ℕ, Bool, true, cond, List, All, Contains, None, Option, Some, ap, arith, drop, filter, get_or, inl, inr, length, map, nat_eq, nat_le, not, refl, slice_index_or, subst, sum_by, sym}
use Rattle.std.specs.Prelude.{◌==◌, ◌||◌}
use Rattle.std.specs.Cmp.Lexicographic.{nat_list_cmp_total, pointwise, slice_cmp}
use Rattle.std.specs.List.{enumerate_from, list_any}
use Rattle.std.specs.List.Sorted.{IsStrictlySortedBy}
use Rattle.std.specs.Ordering.{nat_cmp}
use Rattle.std.proofs.Math.Bool.{or-true}
use Rattle.std.proofs.lemmas.Bool.{cases_Bool}
use Rattle.std.proofs.lemmas.List.{get_or-map, length-map}
use Rattle.std.proofs.lemmas.List.Elements.{All-tail, Contains-get_or}
use Rattle.std.proofs.lemmas.Map.Keys.{sorted_tail}
use Rattle.std.proofs.lemmas.Slice.Eq.{bytes_eq-Decides}
use Rattle.line_split.specs.Claims.{total_of}
use Rattle.line_split.specs.declared.TheConstants.{MOST_CLAIMED}
use Rattle.line_split.specs.UsageLine.{UsageLine}
use Rattle.line_split.specs.declared.usage.Right.{Right}
use Rattle.cwr_share.specs.ClaimsOn.{claim_of, claims_among, claims_by, claims_on, deciding, is_known, reason_against, share_for}
use Rattle.cwr_share.specs.Parties.{party_of, payee_by}
use Rattle.cwr_share.specs.Payees.{HasRow, IsPayeeIn, payee_of}
use Rattle.cwr_share.specs.Registered.{IsRegistered, Registered}
use Rattle.cwr_share.specs.RegistryOf.{IsPartyAmong, IsPayeeAmong, IsRegistryOf}
use Rattle.cwr_share.specs.Registrations.{ShareLine, find_work}
use Rattle.cwr_share.proofs.ClaimLemmas.{against_land, against_nothing, against_over}
use Rattle.cwr_share.proofs.CompiledLemmas.{contains_cases, contains_later}
use Rattle.cwr_share.proofs.OneRegistry.{found_inside, one-in_order}
use Rattle.cwr_share.proofs.PaidClaims.{deciding_among}
use Rattle.cwr_share.proofs.PartyWorks.{contains_back, contains_through, find_once}
use Rattle.cwr_share.proofs.PayeeLemmas.{payee_at}

-- what finds the share lines of a work
abbrev pub SharesOf : Type 0
SharesOf = List ℕ → Option (List ShareLine)

-- a work is in neither or in both, and its share lines in both are in relation
abbrev pub InBoth : (List ShareLine → List ShareLine → Type 0) → Option (List ShareLine) → Option (List ShareLine) → Type 0
InBoth E None None = Unit {0}
InBoth E None (Some others) = ⊥
InBoth E (Some lines) None = ⊥
InBoth E (Some lines) (Some others) = E lines others

in_both_some : (E : List ShareLine → List ShareLine → Type 0) (mine theirs : Option (List ShareLine)) (lines : List ShareLine) → mine ≡ Some lines → InBoth E mine theirs
    → (others : List ShareLine) × (theirs ≡ Some others) × E lines others
in_both_some E None theirs lines is both = cc
in_both_some E (Some some) None lines is both = absurd both
in_both_some E (Some some) (Some others) lines is both = let same : some ≡ lines = cc in (others, refl, subst (λ (l : List ShareLine). E l others) same both)

in_both_back : (E F : List ShareLine → List ShareLine → Type 0) → ((lines others : List ShareLine) → E lines others → F others lines)
    → (mine theirs : Option (List ShareLine)) → InBoth E mine theirs → InBoth F theirs mine
in_both_back E F back None None both = tt
in_both_back E F back None (Some others) both = absurd both
in_both_back E F back (Some lines) None both = absurd both
in_both_back E F back (Some lines) (Some others) both = back lines others both

-- a payee is paid for a party of the lines
abbrev pub is_paid_in : (pay : List ℕ → List ℕ) → List ShareLine → (payee : List ℕ) → Bool
is_paid_in pay lines payee = list_any (λ line. pointwise nat_eq (pay line.party) payee) lines

-- the same payees are paid
abbrev pub ArePaidTheSame : (pay pays : List ℕ → List ℕ) → List ShareLine → List ShareLine → Type 0
ArePaidTheSame pay pays lines others = (payee : List ℕ) → is_paid_in pay lines payee ≡ is_paid_in pays others payee

-- each payee claims the same
abbrev pub ClaimTheSame : List (ℕ × List ℕ) → (land : ℕ) → Right → (pay pays : List ℕ → List ℕ) → List ShareLine → List ShareLine → Type 0
ClaimTheSame table land right pay pays lines others = (payee : List ℕ) → claim_of table land right pay lines payee ≡ claim_of table land right pays others payee

module _ (pay : List ℕ → List ℕ) (payee : List ℕ) where
  paid_told : (lines : List ShareLine) → Contains (map (λ line. pay line.party) lines) payee → is_paid_in pay lines payee ≡ true
  paid_told [] there = absurd (omega (arith, there.1))
  paid_told (line ∷ later) there = elim (contains_cases (pay line.party) payee (map (λ line. pay line.party) later) there) [
    | inl same ↦ rw ((bytes_eq-Decides (pay line.party) payee).1 same) refl
    | inr inside ↦ rw (paid_told later inside) (or-true (pointwise nat_eq (pay line.party) payee))
  ]

  told_paid : (lines : List ShareLine) → is_paid_in pay lines payee ≡ true → Contains (map (λ line. pay line.party) lines) payee
  told_paid [] told = cc
  told_paid (line ∷ later) told = elim (cases_Bool (pointwise nat_eq (pay line.party) payee)) [
    | inl its ↦ (0, omega arith, (bytes_eq-Decides (pay line.party) payee).0 its)
    | inr other ↦ contains_later (pay line.party) payee (map (λ line. pay line.party) later) (told_paid later (rw other at told))
  ]

-- where the parties have the same payees, each payee claims the same
module _ (table : List (ℕ × List ℕ)) (land : ℕ) (right : Right) (pay pays : List ℕ → List ℕ) (payee : List ℕ) where
  filter_alike : (lines : List ShareLine) → All (λ line. pay line.party ≡ pays line.party) lines
      → filter (λ line. pointwise nat_eq (pay line.party) payee) lines ≡ filter (λ line. pointwise nat_eq (pays line.party) payee) lines
  filter_alike [] alike = refl
  filter_alike (line ∷ later) alike =
      let same : pointwise nat_eq (pay line.party) payee ≡ pointwise nat_eq (pays line.party) payee = ap (λ (text : List ℕ). pointwise nat_eq text payee) (alike 0 line (omega arith)) in
      ap (λ (passes : Bool). cond passes (line ∷ filter (λ line. pointwise nat_eq (pay line.party) payee) later) (filter (λ line. pointwise nat_eq (pay line.party) payee) later)) same
      ∙ ap (λ (rest : List ShareLine). cond (pointwise nat_eq (pays line.party) payee) (line ∷ rest) rest)
      (filter_alike later (All-tail (λ (line : ShareLine). pay line.party ≡ pays line.party) line later alike))

  pub claim_paid_alike : (lines : List ShareLine) → All (λ line. pay line.party ≡ pays line.party) lines → claim_of table land right pay lines payee ≡ claim_of table land right pays lines payee
  claim_paid_alike lines alike = ap (sum_by (share_for right)) (filter_alike (deciding table land lines) (deciding_among (λ line. pay line.party ≡ pays line.party) table land lines alike))

-- and the same payees are paid
pub paid_alike : (pay pays : List ℕ → List ℕ) (payee : List ℕ) (lines : List ShareLine) → All (λ line. pay line.party ≡ pays line.party) lines
    → is_paid_in pay lines payee ≡ is_paid_in pays lines payee
paid_alike pay pays payee [] alike = refl
paid_alike pay pays payee (line ∷ later) alike =
    ap (λ (text : List ℕ). pointwise nat_eq text payee || is_paid_in pay later payee) (alike 0 line (omega arith))
    ∙ ap (λ (rest : Bool). pointwise nat_eq (pays line.party) payee || rest)
    (paid_alike pay pays payee later (All-tail (λ (line : ShareLine). pay line.party ≡ pays line.party) line later alike))

-- the parties of a registry are those in force, and it has the payees of these
module _ (rows : List (List ℕ × List ℕ)) (shares_of : SharesOf) (registered : Registered) (of : IsRegistryOf rows shares_of registered) (is : IsRegistered registered) where
  in_force_of_row : (party : List ℕ) → HasRow registered.payees party → IsPartyAmong shares_of party
  in_force_of_row party has =
      let (work, shares, here, at) = (is.in_force party).0 has in
      (work, shares, sym (of.in_force work) ∙ find_once registered.works work shares is.once here, at)

  row_in_force : (party : List ℕ) → IsPartyAmong shares_of party → HasRow registered.payees party
  row_in_force party (work, shares, found, at) = (is.in_force party).1 (work, shares, found_inside registered.works work shares (of.in_force work ∙ found), at)

  -- each row is paid by the table
  paid_by : All (λ row. row.1 ≡ payee_of rows row.0) registered.payees
  paid_by = of.paid

  name_in_force : (payee : List ℕ) → Contains is.names payee → IsPayeeAmong rows shares_of payee
  name_in_force payee inside =
      let (party, has, same) = contains_back (λ (row : List ℕ × List ℕ). row.0) (λ row. row.1) (payee_of rows) registered.payees paid_by payee ((is.exact payee).0 inside) in
      let (work, shares, found, at) = in_force_of_row party has in
      (work, shares, found, subst (Contains (map (payee_by rows) shares)) same (contains_through party_of (payee_by rows) (payee_of rows) shares (λ place d within. refl) party at))

  in_force_name : (payee : List ℕ) → IsPayeeAmong rows shares_of payee → Contains is.names payee
  in_force_name payee (work, shares, found, at) =
      let (party, has, same) = contains_back party_of (payee_by rows) (payee_of rows) shares (λ place d within. refl) payee at in
      let row = row_in_force party (work, shares, found, has) in
      (is.exact payee).1
      (subst (IsPayeeIn registered.payees) same (contains_through (λ (row : List ℕ × List ℕ). row.0) (λ row. row.1) (payee_of rows) registered.payees paid_by party row))

  -- a party in force has its payee by the table
  paid_in_force : (party : List ℕ) → HasRow registered.payees party → payee_of registered.payees party ≡ payee_of rows party
  paid_in_force party (place, within, at) =
      let payees = registered.payees in
      let inside : place < length payees = omega (arith, within, length-map payees (λ (row : List ℕ × List ℕ). row.0)) in
      let whose : (slice_index_or payees place ([], [])).0 ≡ party =
      sym (get_or-map (λ (row : List ℕ × List ℕ). row.0) payees place ([], []) party inside) ∙ at in
      ap (payee_of payees) (sym whose)
      ∙ (payee_at payees is.one_payee place ([], []) inside
      ∙ (of.paid place ([], []) inside ∙ ap (payee_of rows) whose))

  -- so have the parties of a work
  pub paid_in_work : (work : List ℕ) (lines : List ShareLine) → find_work work registered.works ≡ Some lines → All (λ line. payee_of registered.payees line.party ≡ payee_of rows line.party) lines
  paid_in_work work lines found k d within =
      paid_in_force (get_or lines k d).party
      (row_in_force (get_or lines k d).party
      (work, lines, sym (of.in_force work) ∙ found, (k, omega (arith, within, length-map lines (λ (line : ShareLine). line.party)), get_or-map (λ (line : ShareLine). line.party) lines k d _ within)))

  names_rise : IsStrictlySortedBy (slice_cmp nat_cmp) is.names
  names_rise = sorted_tail (slice_cmp nat_cmp) [] is.names (subst (IsStrictlySortedBy (slice_cmp nat_cmp)) is.accounts is.rising)

-- a payee of the ones is one of the others
same_payees : (rows mixed : List (List ℕ × List ℕ)) (shares_of others_of : SharesOf)
    → ((work : List ℕ) → InBoth (ArePaidTheSame (payee_of rows) (payee_of mixed)) (shares_of work) (others_of work))
    → (payee : List ℕ) → IsPayeeAmong rows shares_of payee → IsPayeeAmong mixed others_of payee
same_payees rows mixed shares_of others_of paid payee (work, lines, found, at) =
    let (others, there, same) = in_both_some (ArePaidTheSame (payee_of rows) (payee_of mixed)) (shares_of work) (others_of work) lines found (paid work) in
    (work, others, there, told_paid (payee_of mixed) payee others (sym (same payee) ∙ paid_told (payee_of rows) payee lines at))

-- where they answer alike, they have the same accounts
module _ (rows mixed : List (List ℕ × List ℕ)) (shares_of others_of : SharesOf) (registered other : Registered)
    (of : IsRegistryOf rows shares_of registered) (is : IsRegistered registered) (other_of : IsRegistryOf mixed others_of other) (other_is : IsRegistered other)
    (paid : (work : List ℕ) → InBoth (ArePaidTheSame (payee_of rows) (payee_of mixed)) (shares_of work) (others_of work)) where
  paid_back : (work : List ℕ) → InBoth (ArePaidTheSame (payee_of mixed) (payee_of rows)) (others_of work) (shares_of work)
  paid_back work =
      in_both_back (ArePaidTheSame (payee_of rows) (payee_of mixed)) (ArePaidTheSame (payee_of mixed) (payee_of rows)) (λ lines others same payee. sym (same payee))
      (shares_of work) (others_of work) (paid work)

  same_names : is.names ≡ other_is.names
  same_names =
      one-in_order nat_list_cmp_total is.names other_is.names (names_rise rows shares_of registered of is) (names_rise mixed others_of other other_of other_is)
      (λ k d within. let name = slice_index_or is.names k d in
      in_force_name mixed others_of other other_of other_is name
      (same_payees rows mixed shares_of others_of paid name (name_in_force rows shares_of registered of is name (Contains-get_or is.names k d within))))
      (λ k d within. let name = slice_index_or other_is.names k d in
      in_force_name rows shares_of registered of is name
      (same_payees mixed rows others_of shares_of paid_back name (name_in_force mixed others_of other other_of other_is name (Contains-get_or other_is.names k d within))))

  pub same_accounts : registered.accounts ≡ other.accounts
  same_accounts = is.accounts ∙ ap (λ (names : List (List ℕ)). [] ∷ names) same_names ∙ sym other_is.accounts

-- each account's claim, 0 too
abbrev each_claim : List (ℕ × List ℕ) → (land : ℕ) → Right → (pay : List ℕ → List ℕ) → List ShareLine → (account : ℕ) → List (List ℕ) → List (ℕ × ℕ)
each_claim table land right pay lines account payees = map (λ claimant. (claimant.0, claim_of table land right pay lines claimant.1)) (enumerate_from account payees)

each_the_same : (table : List (ℕ × List ℕ)) (land : ℕ) (right : Right) (pay pays : List ℕ → List ℕ) (lines others : List ShareLine) → ClaimTheSame table land right pay pays lines others
    → (account : ℕ) (payees : List (List ℕ)) → each_claim table land right pay lines account payees ≡ each_claim table land right pays others account payees
each_the_same table land right pay pays lines others same account [] = refl
each_the_same table land right pay pays lines others same account (payee ∷ payees) = cc (same payee, each_the_same table land right pay pays lines others same (account + 1) payees)

-- where each payee claims the same, a line has the same claims and the same reason against them
module _ (table : List (ℕ × List ℕ)) (registered other : Registered) (line : UsageLine) (accounts : registered.accounts ≡ other.accounts) where
  abbrev Claim : List ShareLine → List ShareLine → Type 0
  Claim = ClaimTheSame table line.territory line.right (payee_of registered.payees) (payee_of other.payees)

  abbrev Answers : Type 0
  Answers = (claims_on table registered line ≡ claims_on table other line) × (reason_against table registered line ≡ reason_against table other line)

  same_claims : (lines others : List ShareLine) → Claim lines others → claims_by table registered line lines ≡ claims_by table other line others
  same_claims lines others same =
      ap (filter (λ claim. not (claim.1 == 0)))
      (each_the_same table line.territory line.right (payee_of registered.payees) (payee_of other.payees) lines others same 1 (drop 1 registered.accounts))
      ∙ ap (λ (parties : List (List ℕ)). claims_among table line.territory line.right (payee_of other.payees) others (drop 1 parties)) accounts

  pub same_answers : (mine theirs : Option (List ShareLine)) → find_work line.work registered.works ≡ mine → find_work line.work other.works ≡ theirs → InBoth Claim mine theirs → Answers
  same_answers None None found too both = (rw (found, too) refl, rw (found, too) refl)
  same_answers None (Some others) found too both = absurd both
  same_answers (Some lines) None found too both = absurd both
  same_answers (Some lines) (Some others) found too both =
      let claims = same_claims lines others both in
      elim (cases_Bool (is_known table line.territory)) [
        | inr unknown ↦
            let (reason, none) = against_land table registered line lines found unknown in
            let (reason', none') = against_land table other line others too unknown in
            (none ∙ sym none', reason ∙ sym reason')
        | inl known ↦ elim (cases_Bool (nat_le (total_of (claims_by table registered line lines)) MOST_CLAIMED)) [
          | inl few ↦
              let (reason, all) = against_nothing table registered line lines found known few in
              let (reason', all') = against_nothing table other line others too known (ap (λ (claims : List (ℕ × ℕ)). nat_le (total_of claims) MOST_CLAIMED) (sym claims) ∙ few) in
              (all ∙ (claims ∙ sym all'), reason ∙ sym reason')
          | inr over ↦
              let (reason, none) = against_over table registered line lines found known over in
              let (reason', none') = against_over table other line others too known (ap (λ (claims : List (ℕ × ℕ)). nat_le (total_of claims) MOST_CLAIMED) (sym claims) ∙ over) in
              (none ∙ sym none', reason ∙ sym reason')
        ]
      ]

-- What share lines claim and whom they are paid to by the tables tells what their registries answer.
module _ (rows mixed : List (List ℕ × List ℕ)) (shares_of others_of : SharesOf) (registered other : Registered)
    (of : IsRegistryOf rows shares_of registered) (is : IsRegistered registered) (other_of : IsRegistryOf mixed others_of other) (other_is : IsRegistered other)
    (paid : (work : List ℕ) → InBoth (ArePaidTheSame (payee_of rows) (payee_of mixed)) (shares_of work) (others_of work))
    (claim : (table : List (ℕ × List ℕ)) (land : ℕ) (right : Right) (work : List ℕ)
    → InBoth (ClaimTheSame table land right (payee_of rows) (payee_of mixed)) (shares_of work) (others_of work)) where
  module _ (table : List (ℕ × List ℕ)) (line : UsageLine) where
    in_registries : (mine theirs : Option (List ShareLine)) → find_work line.work registered.works ≡ mine → find_work line.work other.works ≡ theirs
        → InBoth (ClaimTheSame table line.territory line.right (payee_of rows) (payee_of mixed)) mine theirs
        → InBoth (ClaimTheSame table line.territory line.right (payee_of registered.payees) (payee_of other.payees)) mine theirs
    in_registries None None found too both = tt
    in_registries None (Some others) found too both = absurd both
    in_registries (Some lines) None found too both = absurd both
    in_registries (Some lines) (Some others) found too both = λ payee.
        claim_paid_alike table line.territory line.right (payee_of registered.payees) (payee_of rows) payee lines (paid_in_work rows shares_of registered of is line.work lines found)
        ∙ (both payee
        ∙ sym (claim_paid_alike table line.territory line.right (payee_of other.payees) (payee_of mixed) payee others (paid_in_work mixed others_of other other_of other_is line.work others too)))

    pub answer_alike : (claims_on table registered line ≡ claims_on table other line) × (reason_against table registered line ≡ reason_against table other line)
    answer_alike =
        same_answers table registered other line (same_accounts rows mixed shares_of others_of registered other of is other_of other_is paid)
        (shares_of line.work) (others_of line.work) (of.in_force line.work) (other_of.in_force line.work)
        (in_registries (shares_of line.work) (others_of line.work) (of.in_force line.work) (other_of.in_force line.work) (claim table line.territory line.right line.work))
