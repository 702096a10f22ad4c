-- The claimants of a registration by account, where several parties are paid to one: the share lines of an account are those of its parties, and its claim is theirs.
use Rattle.std.proofs.Common.{◌≡◌, ◌∙◌, ◌<◌, ◌≤◌, ◌+◌, ◌++◌, ◌∷◌, ◌⊎◌, [], ℕ, Bool, false, List, All, AllPairs, length, nat_eq, sum_by, get_or, append_assoc, ap, sym, refl, subst, inl, inr, arith}
use Rattle.std.specs.Prelude.{◌==◌, if◌then◌else◌, flat_map}
use Rattle.std.proofs.lemmas.Bool.{and_right, cases_eq, eq-eqb, false_from_ne_true, ne_eqb}
use Rattle.std.proofs.lemmas.List.{get_or-map, map-append, length-append}
use Rattle.std.proofs.lemmas.List.Elements.{All-append, All-cons, All-head, All-map, All-nil, All-tail}
use Rattle.std.proofs.lemmas.List.Kept.{AllPairs-cons}
use Rattle.std.proofs.lemmas.List.Sums.{sum_by-append, sum_by-cons}
use Rattle.line_split.specs.declared.usage.Right.{Right}
use Rattle.cwr_share.specs.ClaimsOn.{deciding, is_alike, share_for}
use Rattle.cwr_share.specs.Compiled.{AreInRuns, IsApart, claim_lines, lines_at}
use Rattle.cwr_share.specs.Registrations.{ShareLine}
use Rattle.cwr_share.specs.declared.claim_line.ClaimLine.{ClaimLine}
use Rattle.std.specs.Cmp.Lexicographic.{pointwise}
use Rattle.std.proofs.lemmas.Slice.Eq.{bytes_eq-Decides}
use Rattle.cwr_share.proofs.ClaimLemmas.{length-lines_at, no_line}
use Rattle.cwr_share.proofs.CompiledLemmas.{AllPairs-head, AllPairs-tail, Rising}
use Rattle.cwr_share.proofs.Runs.{claim_lines_apart, deciding_apart, runs_apart}

-- a claimant's places among those of the accounts after it
abbrev pub joined : (account : ℕ) → (places : List ℕ) → List (ℕ × List ℕ) → List (ℕ × List ℕ)
joined account places [] = (account, places) ∷ []
joined account places (next ∷ later) = if account == next.0 then (account, next.1 ++ places) ∷ later else (account, places) ∷ next ∷ later

-- the places by account, of claimants that are parties: those of the later parties of an account first
unfoldable pub grouped : (account_of : ℕ → ℕ) → List (ℕ × List ℕ) → List (ℕ × List ℕ)
grouped account_of [] = []
grouped account_of (claimant ∷ later) = joined (account_of claimant.0) claimant.1 (grouped account_of later)

-- whether the first of the accounts is the claimant's
pub joins : (account : ℕ) (places : List ℕ) (groups : List (ℕ × List ℕ)) → Rising groups → All (λ group. account ≤ group.0) groups
    → ((joined account places groups ≡ (account, places) ∷ groups) × All (λ group. account < group.0) groups)
    ⊎ ((next : List ℕ) × (later : List (ℕ × List ℕ)) × (groups ≡ (account, next) ∷ later) × (joined account places groups ≡ (account, next ++ places) ∷ later))
joins account places [] rising low = inl (refl, All-nil (λ (group : ℕ × List ℕ). account < group.0))
joins account places (next ∷ later) rising low = elim (cases_eq account next.0) [
  | inl same ↦ inr (next.1, later, ap (λ (a : ℕ). (a, next.1) ∷ later) (sym same), rw (eq-eqb account next.0 same) refl)
  | inr other ↦
      let first = low 0 next (omega arith) in
      let above = AllPairs-head (λ group other. group.0 < other.0) next later rising in
      inl (rw (ne_eqb account next.0 other) refl, All-cons (λ (group : ℕ × List ℕ). account < group.0) next later (omega (arith, first, other)) (λ k d within. omega (arith, first, above k d within)))
]

module _ (Holds : ℕ × List ℕ → Type 0) (account : ℕ) (places : List ℕ) where
  -- what holds of each account once the claimant is among them
  pub each_joined : (groups : List (ℕ × List ℕ)) → Rising groups → All (λ group. account ≤ group.0) groups → All Holds groups → Holds (account, places)
      → ((next : List ℕ) → Holds (account, next) → Holds (account, next ++ places)) → All Holds (joined account places groups)
  each_joined groups rising low each own more = elim (joins account places groups rising low) [
    | inl (is, above) ↦ rw is (All-cons Holds (account, places) groups own each)
    | inr (next, later, split, is) ↦
        let all = subst (All Holds) split each in
        rw is (All-cons Holds (account, next ++ places) later (more next (All-head Holds (account, next) later all)) (All-tail Holds (account, next) later all))
  ]

-- the accounts still rise
pub rising_joined : (account : ℕ) (places : List ℕ) (groups : List (ℕ × List ℕ)) → Rising groups → All (λ group. account ≤ group.0) groups → Rising (joined account places groups)
rising_joined account places groups rising low =
    let R : ℕ × List ℕ → ℕ × List ℕ → Type 0 = λ group other. group.0 < other.0 in
    elim (joins account places groups rising low) [
      | inl (is, above) ↦ rw is (AllPairs-cons R (account, places) groups above rising)
      | inr (next, later, split, is) ↦
          let all = subst Rising split rising in
          rw is (AllPairs-cons R (account, next ++ places) later (AllPairs-head R (account, next) later all) (AllPairs-tail R (account, next) later all))
    ]

-- the parties' accounts do not fall
abbrev pub Rise : (ℕ → ℕ) → List (ℕ × List ℕ) → Type 0
Rise account_of claimants = AllPairs (λ claimant later. account_of claimant.0 ≤ account_of later.0) claimants

module _ (account_of : ℕ → ℕ) where
  abbrev Is : ℕ × List ℕ → ℕ × List ℕ → Type 0
  Is claimant later = account_of claimant.0 ≤ account_of later.0

  abbrev IsFrom : ℕ → ℕ × List ℕ → Type 0
  IsFrom account claimant = account ≤ account_of claimant.0

  -- the accounts of parties rise, and none is lower than the lowest of the parties'
  pub in_order : (claimants : List (ℕ × List ℕ)) → Rise account_of claimants
      → Rising (grouped account_of claimants) × ((account : ℕ) → All (IsFrom account) claimants → All (λ group. account ≤ group.0) (grouped account_of claimants))
  unfolding grouped
  in_order [] rise = (λ i j d before within. absurd (omega arith), λ account low. All-nil (λ (group : ℕ × List ℕ). account ≤ group.0))
  in_order (claimant ∷ later) rise =
      let (rising, low) = in_order later (AllPairs-tail Is claimant later rise) in
      let above = low (account_of claimant.0) (AllPairs-head Is claimant later rise) in (
        rising_joined (account_of claimant.0) claimant.1 (grouped account_of later) rising above,
        λ account from.
            let first = All-head (IsFrom account) claimant later from in
            each_joined (λ (group : ℕ × List ℕ). account ≤ group.0) (account_of claimant.0) claimant.1 (grouped account_of later) rising above
            (low account (All-tail (IsFrom account) claimant later from)) first (λ next holds. first),
      )

  -- the next party's account among those after it
  module _ (claimant : ℕ × List ℕ) (later : List (ℕ × List ℕ)) (rise : Rise account_of (claimant ∷ later)) where
    abbrev pub groups : List (ℕ × List ℕ)
    groups = grouped account_of later

    pub rising_after : Rising groups
    rising_after = (in_order later (AllPairs-tail Is claimant later rise)).0

    pub low_after : All (λ group. account_of claimant.0 ≤ group.0) groups
    low_after = (in_order later (AllPairs-tail Is claimant later rise)).1 (account_of claimant.0) (AllPairs-head Is claimant later rise)

  -- what holds of the places of each party holds of those of each account
  pub each_place : (Holds : ℕ → Type 0) (claimants : List (ℕ × List ℕ)) → Rise account_of claimants → All (λ claimant. All Holds claimant.1) claimants
      → All (λ group. All Holds group.1) (grouped account_of claimants)
  unfolding grouped
  each_place Holds [] rise all = All-nil (λ (group : ℕ × List ℕ). All Holds group.1)
  each_place Holds (claimant ∷ later) rise all =
      let own = All-head (λ (claimant : ℕ × List ℕ). All Holds claimant.1) claimant later all in
      each_joined (λ group. All Holds group.1) (account_of claimant.0) claimant.1 (grouped account_of later) (rising_after claimant later rise) (low_after claimant later rise)
      (each_place Holds later (AllPairs-tail Is claimant later rise) (All-tail (λ (claimant : ℕ × List ℕ). All Holds claimant.1) claimant later all))
      own (λ next holds. All-append Holds next claimant.1 holds own)

  -- an account has places
  pub some_places : (claimants : List (ℕ × List ℕ)) → Rise account_of claimants → All (λ claimant. 0 < length claimant.1) claimants → All (λ group. 0 < length group.1) (grouped account_of claimants)
  unfolding grouped
  some_places [] rise all = All-nil (λ (group : ℕ × List ℕ). 0 < length group.1)
  some_places (claimant ∷ later) rise all =
      let own = All-head (λ (claimant : ℕ × List ℕ). 0 < length claimant.1) claimant later all in
      each_joined (λ group. 0 < length group.1) (account_of claimant.0) claimant.1 (grouped account_of later) (rising_after claimant later rise) (low_after claimant later rise)
      (some_places later (AllPairs-tail Is claimant later rise) (All-tail (λ (claimant : ℕ × List ℕ). 0 < length claimant.1) claimant later all))
      own (λ next holds. omega (arith, holds, length-append next claimant.1))

  -- there are no more accounts than parties
  pub few_groups : (claimants : List (ℕ × List ℕ)) → Rise account_of claimants → length (grouped account_of claimants) ≤ length claimants
  unfolding grouped
  few_groups [] rise = omega arith
  few_groups (claimant ∷ later) rise =
      let rest = few_groups later (AllPairs-tail Is claimant later rise) in
      elim (joins (account_of claimant.0) claimant.1 (grouped account_of later) (rising_after claimant later rise) (low_after claimant later rise)) [
        | inl (is, above) ↦ rw is (omega (arith, rest))
        | inr (next, others, split, is) ↦ rw is (omega (arith, rest, ap (λ (groups : List (ℕ × List ℕ)). length groups) split))
      ]

  -- each account of a group is one of a party
  pub of_a_party : (Holds : ℕ → Type 0) (claimants : List (ℕ × List ℕ)) → Rise account_of claimants → All (λ claimant. Holds (account_of claimant.0)) claimants → All (λ group. Holds group.0) (grouped account_of claimants)
  unfolding grouped
  of_a_party Holds [] rise all = All-nil (λ (group : ℕ × List ℕ). Holds group.0)
  of_a_party Holds (claimant ∷ later) rise all =
      let own = All-head (λ (claimant : ℕ × List ℕ). Holds (account_of claimant.0)) claimant later all in
      each_joined (λ group. Holds group.0) (account_of claimant.0) claimant.1 (grouped account_of later) (rising_after claimant later rise) (low_after claimant later rise)
      (of_a_party Holds later (AllPairs-tail Is claimant later rise) (All-tail (λ (claimant : ℕ × List ℕ). Holds (account_of claimant.0)) claimant later all)) own (λ next holds. own)

-- lines of other parties are apart from those of a party
other_party : (x y : ShareLine) → ¬ (x.party ≡ y.party) → is_alike x y ≡ false
other_party x y other = and_right (x.interest == y.interest) (pointwise nat_eq x.party y.party) (false_from_ne_true (pointwise nat_eq x.party y.party) (λ same. other ((bytes_eq-Decides x.party y.party).0 same)))

one_apart : (party : List ℕ) (x : ShareLine) (ys : List ShareLine) → ¬ (x.party ≡ party) → All (λ y. y.party ≡ party) ys → IsApart ys x
one_apart party x [] other own = refl
one_apart party x (y ∷ ys) other own =
    let first = All-head (λ (y : ShareLine). y.party ≡ party) y ys own in
    rw (other_party x y (λ same. other (same ∙ first))) (one_apart party x ys other (All-tail (λ (y : ShareLine). y.party ≡ party) y ys own))

pub all_apart : (party : List ℕ) (xs ys : List ShareLine) → All (λ x. ¬ (x.party ≡ party)) xs → All (λ y. y.party ≡ party) ys → All (IsApart ys) xs
all_apart party xs ys other own k d within = one_apart party (get_or xs k d) ys (other k d within) own

-- The places are those of parties with these names: each party's lines are its own, and no two parties have one name.
pub record AreOfParties (lines : List ShareLine) (name : ℕ → List ℕ) (claimants : List (ℕ × List ℕ)) : Type 0 where
  pub own : All (λ claimant. All (λ line. line.party ≡ name claimant.0) (lines_at lines claimant.1)) claimants
  pub distinct : AllPairs (λ claimant later. ¬ (name claimant.0 ≡ name later.0)) claimants

module _ (lines : List ShareLine) (name : ℕ → List ℕ) (account_of : ℕ → ℕ) where
  abbrev HasOwn : ℕ × List ℕ → Type 0
  HasOwn claimant = All (λ line. line.party ≡ name claimant.0) (lines_at lines claimant.1)

  abbrev AreTwo : ℕ × List ℕ → ℕ × List ℕ → Type 0
  AreTwo claimant later = ¬ (name claimant.0 ≡ name later.0)

  -- a place is of another party
  abbrev IsOfOther : List ℕ → ℕ → Type 0
  IsOfOther party place = ¬ ((get_or lines place no_line).party ≡ party)

  parties_after : (claimant : ℕ × List ℕ) (later : List (ℕ × List ℕ)) → AreOfParties lines name (claimant ∷ later) → AreOfParties lines name later
  parties_after claimant later are = record { own = All-tail HasOwn claimant later are.own; distinct = AllPairs-tail AreTwo claimant later are.distinct }

  -- the places of the parties after one are of others
  others_after : (claimant : ℕ × List ℕ) (later : List (ℕ × List ℕ)) → AreOfParties lines name (claimant ∷ later) → All (λ other. All (IsOfOther (name claimant.0)) other.1) later
  others_after claimant later are k d within i e inside same =
      let own = All-tail HasOwn claimant later are.own k d within i (get_or lines (get_or (get_or later k d).1 i e) no_line) (omega (arith, inside, length-lines_at lines (get_or later k d).1)) in
      let here = get_or-map (λ (place : ℕ). get_or lines place no_line) (get_or later k d).1 i e (get_or lines (get_or (get_or later k d).1 i e) no_line) inside in
      AllPairs-head AreTwo claimant later are.distinct k d within (sym same ∙ (ap (λ (line : ShareLine). line.party) (sym here) ∙ own))

  -- the lines at places of other parties
  at_others : (party : List ℕ) (places : List ℕ) → All (IsOfOther party) places → All (λ line. ¬ (line.party ≡ party)) (lines_at lines places)
  at_others party places others = All-map (λ (line : ShareLine). ¬ (line.party ≡ party)) (λ (place : ℕ). get_or lines place no_line) places others

  -- where the next party's account is that of the parties after it, its lines are apart from theirs
  pub next_apart : (claimant : ℕ × List ℕ) (later : List (ℕ × List ℕ)) (next : List ℕ) (others : List (ℕ × List ℕ)) → AreOfParties lines name (claimant ∷ later)
      → Rise account_of (claimant ∷ later) → grouped account_of later ≡ (account_of claimant.0, next) ∷ others → All (IsApart (lines_at lines claimant.1)) (lines_at lines next)
  next_apart claimant later next others are rise split =
      let rest = AllPairs-tail (λ (claimant other : ℕ × List ℕ). account_of claimant.0 ≤ account_of other.0) claimant later rise in
      let each = subst (All (λ (group : ℕ × List ℕ). All (IsOfOther (name claimant.0)) group.1)) split (each_place account_of (IsOfOther (name claimant.0)) later rest (others_after claimant later are)) in
      all_apart (name claimant.0) (lines_at lines next) (lines_at lines claimant.1)
      (at_others (name claimant.0) next (All-head (λ (group : ℕ × List ℕ). All (IsOfOther (name claimant.0)) group.1) (account_of claimant.0, next) others each))
      (All-head HasOwn claimant later are.own)

  -- the lines of an account's parties
  abbrev pub lines_of_groups : List (ℕ × List ℕ) → List ClaimLine
  lines_of_groups groups = flat_map (λ group. claim_lines group.0 (lines_at lines group.1)) groups

  abbrev pub lines_of_parties : List (ℕ × List ℕ) → List ClaimLine
  lines_of_parties claimants = flat_map (λ claimant. claim_lines (account_of claimant.0) (lines_at lines claimant.1)) claimants

  -- the lines at places after others
  at_both : (next places : List ℕ) → lines_at lines (next ++ places) ≡ lines_at lines next ++ lines_at lines places
  at_both next places = map-append (λ (place : ℕ). get_or lines place no_line) next places

  -- the lines of the accounts, from the last one of each back, are those of the parties, one party's after another's
  pub same_lines : (claimants : List (ℕ × List ℕ)) → AreOfParties lines name claimants → Rise account_of claimants
      → lines_of_groups (grouped account_of claimants) ≡ lines_of_parties claimants
  unfolding grouped
  same_lines [] are rise = refl
  same_lines (claimant ∷ later) are rise =
      let account = account_of claimant.0 in
      let rest = same_lines later (parties_after claimant later are) (AllPairs-tail (λ (claimant other : ℕ × List ℕ). account_of claimant.0 ≤ account_of other.0) claimant later rise) in
      elim (joins account claimant.1 (grouped account_of later) (rising_after account_of claimant later rise) (low_after account_of claimant later rise)) [
        | inl (is, above) ↦ rw is (ap (λ (l : List ClaimLine). claim_lines account (lines_at lines claimant.1) ++ l) rest)
        | inr (next, others, split, is) ↦
            let apart = next_apart claimant later next others are rise split in
            rw (is, at_both next claimant.1, claim_lines_apart account (lines_at lines next) (lines_at lines claimant.1) apart)
            (append_assoc (claim_lines account (lines_at lines claimant.1)) (claim_lines account (lines_at lines next)) (lines_of_groups others)
            ∙ ap (λ (l : List ClaimLine). claim_lines account (lines_at lines claimant.1) ++ l) (sym (ap lines_of_groups split) ∙ rest))
      ]

  -- the lines of an account are in runs
  pub runs_of_groups : (claimants : List (ℕ × List ℕ)) → AreOfParties lines name claimants → Rise account_of claimants → All (λ claimant. AreInRuns (lines_at lines claimant.1)) claimants
      → All (λ group. AreInRuns (lines_at lines group.1)) (grouped account_of claimants)
  unfolding grouped
  runs_of_groups [] are rise runs = All-nil (λ (group : ℕ × List ℕ). AreInRuns (lines_at lines group.1))
  runs_of_groups (claimant ∷ later) are rise runs =
      let Runs : ℕ × List ℕ → Type 0 = λ group. AreInRuns (lines_at lines group.1) in
      let account = account_of claimant.0 in
      let own = All-head Runs claimant later runs in
      let rest = runs_of_groups later (parties_after claimant later are) (AllPairs-tail (λ (claimant other : ℕ × List ℕ). account_of claimant.0 ≤ account_of other.0) claimant later rise) (All-tail Runs claimant later runs) in
      elim (joins account claimant.1 (grouped account_of later) (rising_after account_of claimant later rise) (low_after account_of claimant later rise)) [
        | inl (is, above) ↦ rw is (All-cons Runs (account, claimant.1) (grouped account_of later) own rest)
        | inr (next, others, split, is) ↦
            let apart = next_apart claimant later next others are rise split in
            let all = subst (All Runs) split rest in
            let both = subst AreInRuns (sym (at_both next claimant.1)) (runs_apart (lines_at lines next) (lines_at lines claimant.1) (All-head Runs (account, next) others all) own apart) in
            rw is (All-cons Runs (account, next ++ claimant.1) others both (All-tail Runs (account, next) others all))
      ]

  module _ (table : List (ℕ × List ℕ)) (land : ℕ) (right : Right) where
    -- what the lines at places come to
    abbrev pub claim_at_places : List ℕ → ℕ
    claim_at_places places = sum_by (share_for right) (deciding table land (lines_at lines places))

    -- what the parties of an account come to
    abbrev pub owed : (account : ℕ) → List (ℕ × List ℕ) → ℕ
    owed account claimants = sum_by (λ claimant. if account == account_of claimant.0 then claim_at_places claimant.1 else 0) claimants

    claim_of_both : (next places : List ℕ) → All (IsApart (lines_at lines places)) (lines_at lines next) → claim_at_places (next ++ places) ≡ claim_at_places next + claim_at_places places
    claim_of_both next places apart =
        ap (λ (l : List ShareLine). sum_by (share_for right) (deciding table land l)) (at_both next places)
        ∙ (ap (sum_by (share_for right)) (deciding_apart table land (lines_at lines next) (lines_at lines places) apart)
        ∙ sum_by-append (share_for right) (deciding table land (lines_at lines next)) (deciding table land (lines_at lines places)))

    -- a party of an account adds its claim
    owed_own : (claimant : ℕ × List ℕ) (later : List (ℕ × List ℕ)) (account : ℕ) → account ≡ account_of claimant.0 → owed account (claimant ∷ later) ≡ claim_at_places claimant.1 + owed account later
    owed_own claimant later account same =
        sum_by-cons (λ (claimant : ℕ × List ℕ). if account == account_of claimant.0 then claim_at_places claimant.1 else 0) claimant later
        ∙ ap (λ (b : Bool). (if b then claim_at_places claimant.1 else 0) + owed account later) (eq-eqb account (account_of claimant.0) same)

    nothing_more : (n : ℕ) → 0 + n ≡ n
    nothing_more n = omega arith

    -- one of another adds nothing
    owed_other : (claimant : ℕ × List ℕ) (later : List (ℕ × List ℕ)) (account : ℕ) → ¬ (account ≡ account_of claimant.0) → owed account (claimant ∷ later) ≡ owed account later
    owed_other claimant later account other =
        sum_by-cons (λ (claimant : ℕ × List ℕ). if account == account_of claimant.0 then claim_at_places claimant.1 else 0) claimant later
        ∙ ap (λ (b : Bool). (if b then claim_at_places claimant.1 else 0) + owed account later) (ne_eqb account (account_of claimant.0) other)
        ∙ nothing_more (owed account later)

    -- an account that no party is paid to is owed nothing
    pub owed_nothing : (account : ℕ) (claimants : List (ℕ × List ℕ)) → All (λ claimant. ¬ (account ≡ account_of claimant.0)) claimants → owed account claimants ≡ 0
    owed_nothing account [] none = refl
    owed_nothing account (claimant ∷ later) none =
        owed_other claimant later account (All-head (λ (claimant : ℕ × List ℕ). ¬ (account ≡ account_of claimant.0)) claimant later none)
        ∙ owed_nothing account later (All-tail (λ (claimant : ℕ × List ℕ). ¬ (account ≡ account_of claimant.0)) claimant later none)

    -- the parties after one are of accounts among those of the groups
    no_lower : (account : ℕ) (claimants : List (ℕ × List ℕ)) → Rise account_of claimants → All (λ group. account < group.0) (grouped account_of claimants) → All (λ claimant. ¬ (account ≡ account_of claimant.0)) claimants
    unfolding grouped
    no_lower account [] rise above = All-nil (λ (claimant : ℕ × List ℕ). ¬ (account ≡ account_of claimant.0))
    no_lower account (claimant ∷ later) rise above =
        let rest = AllPairs-tail (λ (claimant other : ℕ × List ℕ). account_of claimant.0 ≤ account_of other.0) claimant later rise in
        let from = AllPairs-head (λ (claimant other : ℕ × List ℕ). account_of claimant.0 ≤ account_of other.0) claimant later rise in
        let first : account < account_of claimant.0 =
        elim (joins (account_of claimant.0) claimant.1 (grouped account_of later) (rising_after account_of claimant later rise) (low_after account_of claimant later rise)) [
          | inl (is, higher) ↦ (subst (All (λ (group : ℕ × List ℕ). account < group.0)) is above) 0 (0, []) (omega arith)
          | inr (next, others, split, is) ↦ (subst (All (λ (group : ℕ × List ℕ). account < group.0)) is above) 0 (0, []) (omega arith)
        ] in
        All-cons (λ (claimant : ℕ × List ℕ). ¬ (account ≡ account_of claimant.0)) claimant later (λ same. absurd (omega (arith, first, same)))
        (λ k d within same. absurd (omega (arith, first, from k d within, same)))

    -- each account's lines come to what its parties are owed
    pub claims_of_groups : (claimants : List (ℕ × List ℕ)) → AreOfParties lines name claimants → Rise account_of claimants
        → All (λ group. claim_at_places group.1 ≡ owed group.0 claimants) (grouped account_of claimants)
    unfolding grouped
    claims_of_groups [] are rise = All-nil (λ (group : ℕ × List ℕ). claim_at_places group.1 ≡ owed group.0 [])
    claims_of_groups (claimant ∷ later) are rise =
        let account = account_of claimant.0 in
        let Owed : ℕ × List ℕ → Type 0 = λ group. claim_at_places group.1 ≡ owed group.0 (claimant ∷ later) in
        let Before : ℕ × List ℕ → Type 0 = λ group. claim_at_places group.1 ≡ owed group.0 later in
        let tail = AllPairs-tail (λ (claimant other : ℕ × List ℕ). account_of claimant.0 ≤ account_of other.0) claimant later rise in
        let rest = claims_of_groups later (parties_after claimant later are) tail in
        elim (joins account claimant.1 (grouped account_of later) (rising_after account_of claimant later rise) (low_after account_of claimant later rise)) [
          | inl (is, above) ↦
              let none = owed_nothing account later (no_lower account later tail above) in
              subst (All Owed) (sym is)
              (All-cons Owed (account, claimant.1) (grouped account_of later) (omega (arith, owed_own claimant later account refl, none))
              (λ k d within. rest k d within ∙ sym (owed_other claimant later (get_or (grouped account_of later) k d).0 (λ same. absurd (omega (arith, above k d within, same))))))
          | inr (next, others, split, is) ↦
              let apart = next_apart claimant later next others are rise split in
              let all = subst (All Before) split rest in
              let first = All-head Before (account, next) others all in
              let higher = AllPairs-head (λ (group other : ℕ × List ℕ). group.0 < other.0) (account, next) others (subst Rising split (rising_after account_of claimant later rise)) in
              let after = All-tail Before (account, next) others all in
              subst (All Owed) (sym is)
              (All-cons Owed (account, next ++ claimant.1) others (omega (arith, claim_of_both next claimant.1 apart, first, owed_own claimant later account refl))
              (λ k d within. after k d within ∙ sym (owed_other claimant later (get_or others k d).0 (λ same. absurd (omega (arith, higher k d within, same))))))
        ]
