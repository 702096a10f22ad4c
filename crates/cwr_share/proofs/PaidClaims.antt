-- The claims of accounts, where several parties may be paid to one: each is what its parties' lines come to, whichever way they are grouped.
use Rattle.std.proofs.Common.{◌≡◌, ◌∙◌, ◌<◌, ◌≤◌, ◌+◌, ◌-◌, ◌++◌, ◌∷◌, [], ℕ, suc, Bool, List, All, AllPairs, Contains, drop, filter, length, map, nat_eq, sum_by, get_or, ap, sym, refl, subst, inl, inr, arith}
use Rattle.std.specs.Prelude.{◌==◌, ◌&&◌, if◌then◌else◌, not}
use Rattle.std.specs.List.{enumerate_from, range_with_len}
use Rattle.std.specs.List.Sorted.{IsStrictlySortedBy}
use Rattle.std.specs.Cmp.Lexicographic.{pointwise, slice_cmp}
use Rattle.std.specs.Ordering.{nat_cmp}
use Rattle.std.proofs.lemmas.Bool.{cases_Bool, cases_eq, eq-eqb, false_from_ne_true, ne_eqb}
use Rattle.std.proofs.lemmas.List.{get_or_default, get_or-drop, get_or-map, length-drop, length-map, same_lists}
use Rattle.std.proofs.lemmas.List.Elements.{All-cons, All-head, All-map, All-nil, All-tail, Contains-get_or}
use Rattle.std.proofs.lemmas.List.FromFn.{get_or-enumerate_from, get_or-map-range_with_len, length-enumerate_from, length-map-range_with_len}
use Rattle.std.proofs.lemmas.List.Sums.{sum_by-cons}
use Rattle.std.proofs.lemmas.Slice.Eq.{bytes_eq-Decides}
use Rattle.line_split.specs.declared.usage.Right.{Right}
use Rattle.cwr_share.specs.ClaimsOn.{claim_of, claims_among, covers, deciding, share_for}
use Rattle.cwr_share.specs.Compiled.{IsCompiled, claims_of_claimants, lines_at, lines_of_party}
use Rattle.cwr_share.specs.Registrations.{ShareLine}
use Rattle.cwr_share.proofs.ClaimLemmas.{counts, deciding_of_party, has_later, map_agree, map_twice, merged}
use Rattle.cwr_share.proofs.CompiledLemmas.{HasOnce, account_is, contains_later}
use Rattle.cwr_share.proofs.Groups.{AreOfParties, Rise, claim_at_places, claims_of_groups, grouped, in_order, joins, low_after, of_a_party, owed, owed_nothing, rising_after}
use Rattle.cwr_share.proofs.PartyShares.{IsOfOne, part, parts_add_up}

-- what holds of all lines holds of those that decide
pub deciding_among : (P : ShareLine → Type 0) (table : List (ℕ × List ℕ)) (land : ℕ) (lines : List ShareLine) → All P lines → All P (deciding table land lines)
unfolding deciding
deciding_among P table land [] all = All-nil P
deciding_among P table land (line ∷ later) all = elim (cases_Bool (covers table land line && not (has_later table land line later))) [
  | inl decides ↦ rw decides (All-cons P line (deciding table land later) (All-head P line later all) (deciding_among P table land later (All-tail P line later all)))
  | inr not_it ↦ rw not_it (deciding_among P table land later (All-tail P line later all))
]

pub sums_agree : {X : Type 0} (f g : X → ℕ) (xs : List X) → All (λ x. f x ≡ g x) xs → sum_by f xs ≡ sum_by g xs
sums_agree f g [] agree = refl
sums_agree f g (x ∷ xs) agree = omega (arith, sum_by-cons f x xs, sum_by-cons g x xs, All-head (λ x. f x ≡ g x) x xs agree, sums_agree f g xs (All-tail (λ x. f x ≡ g x) x xs agree))

-- each party's account is among those of the groups
in_groups : (account_of : ℕ → ℕ) (claimants : List (ℕ × List ℕ)) → Rise account_of claimants → All (λ claimant. Contains (map (λ group. group.0) (grouped account_of claimants)) (account_of claimant.0)) claimants
unfolding grouped
in_groups account_of [] rise = All-nil (λ (claimant : ℕ × List ℕ). Contains [] (account_of claimant.0))
in_groups account_of (claimant ∷ later) rise =
    let account = account_of claimant.0 in
    let There : List (ℕ × List ℕ) → ℕ × List ℕ → Type 0 = λ groups other. Contains (map (λ (group : ℕ × List ℕ). group.0) groups) (account_of other.0) in
    let rest = in_groups account_of later (λ i j d before within. rise (suc i) (suc j) d (omega (arith, before)) (omega (arith, within))) in
    elim (joins account claimant.1 (grouped account_of later) (rising_after account_of claimant later rise) (low_after account_of claimant later rise)) [
      | inl (is, above) ↦
          subst (λ groups. All (There groups) (claimant ∷ later)) (sym is)
          (All-cons (There ((account, claimant.1) ∷ grouped account_of later)) claimant later (0, omega arith, refl)
          (λ k d within. contains_later account (account_of (get_or later k d).0) (map (λ (group : ℕ × List ℕ). group.0) (grouped account_of later)) (rest k d within)))
      | inr (next, others, split, is) ↦
          subst (λ groups. All (There groups) (claimant ∷ later)) (sym is)
          (All-cons (There ((account, next ++ claimant.1) ∷ others)) claimant later (0, omega arith, refl) (subst (λ groups. All (There groups) later) split rest))
    ]

-- The parties by number have accounts whose payees are theirs, and which do not fall.
pub record ArePaid (pay : List ℕ → List ℕ) (names : List (List ℕ)) (account_of : ℕ → ℕ) (payees : List (List ℕ)) : Type 0 where
  pub rising : IsStrictlySortedBy (slice_cmp nat_cmp) payees
  pub distinct : HasOnce names
  pub some : (party : ℕ) → party < length names → 0 < account_of party
  pub known : (party : ℕ) → party < length names → account_of party < length payees
  pub paid : (party : ℕ) → party < length names → get_or payees (account_of party) [] ≡ pay (get_or names party [])
  pub ordered : (i j : ℕ) → i < j → j < length names → account_of i ≤ account_of j

module _ (pay : List ℕ → List ℕ) (names payees : List (List ℕ)) (account_of : ℕ → ℕ) (are : ArePaid pay names account_of payees)
    (lines : List ShareLine) (claimants : List (ℕ × List ℕ)) (compiled : IsCompiled names lines claimants) (named : All (λ line. Contains names line.party) lines) where
  abbrev pub name : ℕ → List ℕ
  name party = get_or names party []

  pub rise : Rise account_of claimants
  rise = λ i j d before within. are.ordered (get_or claimants i d).0 (get_or claimants j d).0 (compiled.rising i j d before within) (compiled.known j d within)

  two : AllPairs (λ claimant later. ¬ (name claimant.0 ≡ name later.0)) claimants
  two = λ i j d before within same.
      let apart = compiled.rising i j d before within in
      let one = are.distinct (get_or claimants i d).0 (get_or claimants j d).0 (compiled.known i d (omega (arith, before, within))) (compiled.known j d within) same in
      absurd (omega (arith, apart, one))

  of_party : (party : List ℕ) (lines : List ShareLine) → All (λ line. line.party ≡ party) (lines_of_party party lines)
  of_party party [] = All-nil (λ (line : ShareLine). line.party ≡ party)
  of_party party (line ∷ later) = elim (cases_Bool (pointwise nat_eq line.party party)) [
    | inl its ↦ rw its (All-cons (λ (line : ShareLine). line.party ≡ party) line (lines_of_party party later) ((bytes_eq-Decides line.party party).0 its) (of_party party later))
    | inr other ↦ rw other (of_party party later)
  ]

  pub of_parties : AreOfParties lines name claimants
  of_parties = record {
    own = λ k d within. subst (All (λ (line : ShareLine). line.party ≡ name (get_or claimants k d).0)) (sym (compiled.exact k d within)) (of_party (name (get_or claimants k d).0) lines);
    distinct = two;
  }

  module _ (table : List (ℕ × List ℕ)) (land : ℕ) (right : Right) where
    -- the claim of an account
    abbrev of_account : ℕ → ℕ
    of_account account = claim_of table land right pay lines (get_or payees account [])

    abbrev is_owed : ℕ → ℕ × List ℕ → Bool
    is_owed account claimant = account == account_of claimant.0

    abbrev is_paid : ℕ → ShareLine → Bool
    is_paid account line = pointwise nat_eq (pay line.party) (get_or payees account [])

    -- a line's party has a claimant, whose account says whether the line is paid to this one
    of_one : (account : ℕ) → account < length payees → All (IsOfOne (λ (claimant : ℕ × List ℕ). name claimant.0) (is_owed account) (share_for right) (is_paid account) claimants) lines
    of_one account inside k d within = with (named k d within)
      where
        line : ShareLine
        line = get_or lines k d

        has_line : Contains (map (λ line. line.party) lines) line.party
        has_line = (k, omega (arith, within, length-map lines (λ (line : ShareLine). line.party)), get_or-map (λ (line : ShareLine). line.party) lines k d _ within)

        with : Contains names line.party → IsOfOne (λ (claimant : ℕ × List ℕ). name claimant.0) (is_owed account) (share_for right) (is_paid account) claimants line
        with (party, there, at) =
            let whose : name party ≡ line.party = get_or_default names party [] line.party there ∙ at in
            let (place, placed, here) = compiled.every party there (subst (Contains (map (λ line. line.party) lines)) (sym whose) has_line) in
            let inside_them : place < length claimants = omega (arith, placed, length-map claimants (λ (claimant : ℕ × List ℕ). claimant.0)) in
            let own = get_or claimants place (0, []) in
            let is : own.0 ≡ party = sym (get_or-map (λ (claimant : ℕ × List ℕ). claimant.0) claimants place (0, []) party inside_them) ∙ here in
            let payee : get_or payees (account_of party) [] ≡ pay line.party = are.paid party there ∙ ap pay whose in
            let told : (account == account_of own.0) ≡ is_paid account line =
            ap (λ (p : ℕ). account == account_of p) is
            ∙ elim (cases_eq account (account_of party)) [
              | inl same ↦ eq-eqb account (account_of party) same ∙ sym ((bytes_eq-Decides (pay line.party) (get_or payees account [])).1 (sym payee ∙ ap (λ (a : ℕ). get_or payees a []) (sym same)))
              | inr other ↦
                  ne_eqb account (account_of party) other
                  ∙ sym (false_from_ne_true (is_paid account line) (λ paid.
                  other (account_is payees account (account_of party) are.rising inside (are.known party there) (sym (payee ∙ (bytes_eq-Decides (pay line.party) (get_or payees account [])).0 paid)))))
            ] in
            (own, Contains-get_or claimants place (0, []) inside_them, ap name is ∙ whose, told)

    -- what an account is owed is its claim
    pub owed_claim : (account : ℕ) → account < length payees → owed lines name account_of table land right account claimants ≡ of_account account
    owed_claim account inside =
        sums_agree (λ (claimant : ℕ × List ℕ). if account == account_of claimant.0 then claim_at_places lines name account_of table land right claimant.1 else 0)
        (part (λ (claimant : ℕ × List ℕ). name claimant.0) (is_owed account) (share_for right) (deciding table land lines)) claimants
        (λ k d within.
        let claimant = get_or claimants k d in
        ap (λ (n : ℕ). if account == account_of claimant.0 then n else 0)
        (ap (λ (l : List ShareLine). sum_by (share_for right) (deciding table land l)) (compiled.exact k d within)
        ∙ ap (sum_by (share_for right)) (sym (deciding_of_party table land (name claimant.0) lines))))
        ∙ parts_add_up (λ (claimant : ℕ × List ℕ). name claimant.0) (is_owed account) (share_for right) (is_paid account) claimants two (deciding table land lines)
        (deciding_among (IsOfOne (λ (claimant : ℕ × List ℕ). name claimant.0) (is_owed account) (share_for right) (is_paid account) claimants) table land lines (of_one account inside))

    abbrev groups : List (ℕ × List ℕ)
    groups = grouped account_of claimants

    -- each account of the groups is known
    known : All (λ group. (1 ≤ group.0) × (group.0 < length payees)) groups
    known = of_a_party account_of (λ (account : ℕ). (1 ≤ account) × (account < length payees)) claimants rise
        (λ k d within. let inside = compiled.known k d within in (are.some (get_or claimants k d).0 inside, are.known (get_or claimants k d).0 inside))

    by_account : claims_of_claimants table land right lines groups ≡ map (λ account. (account, of_account account)) (map (λ group. group.0) groups)
    by_account =
        map_agree (λ (group : ℕ × List ℕ). (group.0, sum_by (share_for right) (deciding table land (lines_at lines group.1)))) (λ group. (group.0, of_account group.0)) groups
        (λ k d within.
        ap (λ (n : ℕ). ((get_or groups k d).0, n))
        (claims_of_groups lines name account_of table land right claimants of_parties rise k d within ∙ owed_claim (get_or groups k d).0 (known k d within).1))
        ∙ sym (map_twice (λ (group : ℕ × List ℕ). group.0) (λ account. (account, of_account account)) groups)

    -- an account that no line is paid to has no claim
    no_claim : (account : ℕ) → account < length payees → ¬ Contains (map (λ group. group.0) groups) account → of_account account ≡ 0
    no_claim account inside without =
        sym (owed_claim account inside)
        ∙ owed_nothing lines name account_of table land right account claimants
        (λ k d within same. without (subst (Contains (map (λ (group : ℕ × List ℕ). group.0) groups)) (sym same) (in_groups account_of claimants rise k d within)))

    -- the claims of the accounts from 1 on
    abbrev one_by_one : List (ℕ × ℕ)
    one_by_one = map (λ claimant. (claimant.0, claim_of table land right pay lines claimant.1)) (enumerate_from 1 (drop 1 payees))

    abbrev from_one : List (ℕ × ℕ)
    from_one = map (λ account. (account, of_account account)) (range_with_len 1 (length (drop 1 payees)))

    all_accounts : one_by_one ≡ from_one
    all_accounts =
        let n = length (drop 1 payees) in
        let long : length one_by_one ≡ n = length-map (enumerate_from 1 (drop 1 payees)) _ ∙ length-enumerate_from 1 (drop 1 payees) in
        same_lists one_by_one from_one (long ∙ sym (length-map-range_with_len _ 1 n)) (λ k d within.
        let inside : k < n = omega (arith, within, long) in
        let numbered : get_or (enumerate_from 1 (drop 1 payees)) k (0, []) ≡ (1 + k, get_or payees (1 + k) []) =
        get_or-enumerate_from 1 (drop 1 payees) k (0, []) inside ∙ ap (λ (payee : List ℕ). (1 + k, payee)) (get_or-drop 1 payees k []) in
        get_or-map _ (enumerate_from 1 (drop 1 payees)) k (0, []) d (omega (arith, inside, length-enumerate_from 1 (drop 1 payees)))
        ∙ (ap (λ (e : ℕ × List ℕ). (e.0, claim_of table land right pay lines e.1)) numbered
        ∙ sym (get_or-map-range_with_len (λ account. (account, of_account account)) 1 n k (1 + k) d inside refl)))

    -- the claims of the groups that are not 0 are the claims of all payees that are not 0
    pub same_paid : filter counts (claims_of_claimants table land right lines groups) ≡ claims_among table land right pay lines (drop 1 payees)
    same_paid =
        let long : length (drop 1 payees) ≡ length payees - 1 = length-drop 1 payees in
        let accounts = map (λ (group : ℕ × List ℕ). group.0) groups in
        let rising : AllPairs (λ a b. a < b) accounts = λ i j d before within.
        let inside : j < length groups = omega (arith, within, length-map groups (λ (group : ℕ × List ℕ). group.0)) in
        let first = get_or-map (λ (group : ℕ × List ℕ). group.0) groups i (0, []) d (omega arith) in
        let second = get_or-map (λ (group : ℕ × List ℕ). group.0) groups j (0, []) d inside in
        let lower = (in_order account_of claimants rise).0 i j (0, []) before inside in
        omega (arith, first, second, lower) in
        let within : All (λ a. (1 ≤ a) × (a < 1 + length (drop 1 payees))) accounts =
        All-map (λ a. (1 ≤ a) × (a < 1 + length (drop 1 payees))) (λ (group : ℕ × List ℕ). group.0) groups
        (λ k d inside. let (some, few) = known k d inside in (some, omega (arith, few, some, long))) in
        ap (filter counts) by_account
        ∙ (merged of_account (length (drop 1 payees)) 1 accounts rising within (λ account some inside without. no_claim account (omega (arith, some, inside, long)) without)
        ∙ ap (filter counts) (sym all_accounts))
