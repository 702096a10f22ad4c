-- The answer on a usage line, from the lines of a registration as they are kept: in order of account, one party's after another's, each from the last one back.
use Rattle.std.proofs.Common.{◌≡◌, ◌∙◌, ◌≤◌, ◌<◌, ◌∷◌, [], ℕ, Bool, true, false, zero, suc, List, Some, None, All, AllPairs, Contains, filter, length, map, get_or, nat_eq, nat_le, ap, sym, refl, subst, arith}
use Rattle.std.specs.Prelude.{flat_map}
use Rattle.std.specs.Cmp.Lexicographic.{pointwise}
use Rattle.std.proofs.lemmas.List.Elements.{All-filter, All-head, All-tail, filter_passes}
use Rattle.std.proofs.lemmas.List.{length-map, get_or-map}
use Rattle.std.proofs.lemmas.List.Kept.{AllPairs-filter}
use Rattle.std.proofs.lemmas.Slice.Eq.{bytes_eq-Decides}
use Rattle.line_split.specs.Claims.{total_of}
use Rattle.line_split.specs.declared.TheConstants.{MOST_CLAIMED}
use Rattle.line_split.specs.declared.reason.Reason.TheVariants.{Over}
use Rattle.line_split.specs.UsageLine.{UsageLine}
use Rattle.cwr_share.specs.ClaimsOn.{claims_by, claims_on, is_known, reason_against, renamed}
use Rattle.cwr_share.specs.Compiled.{AreClaimLines, AreInRuns, InterestsRise, Kept, begins_interest, claim_lines, claims_of_claimants, kept_lines, line_by, lines_at, lines_of_claimants, lines_of_party, nameless}
use Rattle.cwr_share.specs.declared.claim_line.ClaimLine.{ClaimLine}
use Rattle.cwr_share.specs.Found.{LookedUp, names_in}
use Rattle.cwr_share.specs.Payees.{payee_of}
use Rattle.cwr_share.specs.Registered.{Registered}
use Rattle.cwr_share.specs.Registrations.{ShareLine}
use Rattle.cwr_share.proofs.ClaimLemmas.{against_nothing, against_over, counts, length-lines_of_parties, map_twice, no_line, total-counts}
use Rattle.cwr_share.proofs.CompiledLemmas.{HasOnce, once_from_pairs}
use Rattle.cwr_share.proofs.InForceLemmas.{same_text}
use Rattle.cwr_share.proofs.FewPayees.{few_paid}
use Rattle.cwr_share.proofs.Groups.{grouped, in_order, of_a_party, runs_of_groups, same_lines, some_places}
use Rattle.cwr_share.proofs.OneRegistry.{found_inside}
use Rattle.cwr_share.proofs.PaidClaims.{ArePaid, of_parties, rise, same_paid}
use Rattle.cwr_share.proofs.PayeeLemmas.{payee_at}
use Rattle.cwr_share.proofs.Runs.{IsAlike, runs_of_alike}

-- the share lines of one party are alike, where interests do not fall
alike_in_party : (party : List ℕ) (lines : List ShareLine) → InterestsRise lines → AllPairs IsAlike (lines_of_party party lines)
alike_in_party party lines rise = λ i j d before within.
    let of_party : ShareLine → Bool = λ line. pointwise nat_eq line.party party in
    let kept = filter_passes of_party lines in
    let first = get_or (lines_of_party party lines) i d in
    let second = get_or (lines_of_party party lines) j d in
    let same = (bytes_eq-Decides first.party party).0 (kept i d (omega arith)) ∙ sym ((bytes_eq-Decides second.party party).0 (kept j d within)) in
    (same, AllPairs-filter (λ line later. line.interest ≤ later.interest) of_party lines rise i j d before within)

-- a share line without its party
abbrev unnamed : ShareLine → ShareLine
unnamed line = renamed (λ text. []) line

-- an element of what a list is mapped to
get_or_mapped : {X Y : Type 0} (f : X → Y) (xs : List X) (k : ℕ) (d : X) → get_or (map f xs) k (f d) ≡ f (get_or xs k d)
get_or_mapped f [] k d = refl
get_or_mapped f (x ∷ xs) zero d = refl
get_or_mapped f (x ∷ xs) (suc k) d = get_or_mapped f xs k d

-- the nameless lines are the lines without their parties
nameless_lines : (parties : List (List ℕ)) (registration : Kept) → nameless registration ≡ map unnamed (kept_lines parties registration)
nameless_lines parties registration = sym (map_twice (line_by parties) unnamed registration.shares)

lines_at_unnamed : (lines : List ShareLine) (places : List ℕ) → lines_at (map unnamed lines) places ≡ map unnamed (lines_at lines places)
lines_at_unnamed lines [] = refl
lines_at_unnamed lines (place ∷ places) =
    ap (λ (l : ShareLine). l ∷ lines_at (map unnamed lines) places) (get_or_mapped unnamed lines place no_line)
    ∙ ap (λ (l : List ShareLine). unnamed (get_or lines place no_line) ∷ l) (lines_at_unnamed lines places)

-- among the lines of one party the party tells nothing
begins_unnamed : (party : List ℕ) (line : ShareLine) (later : List ShareLine) → line.party ≡ party → All (λ other. other.party ≡ party) later → begins_interest (unnamed line) (map unnamed later) ≡ begins_interest line later
begins_unnamed party line [] own all = refl
begins_unnamed party line (next ∷ later) own all = rw (same_text line.party next.party (own ∙ sym (All-head (λ (other : ShareLine). other.party ≡ party) next later all))) refl

claim_lines_unnamed : (account : ℕ) (party : List ℕ) (lines : List ShareLine) → All (λ line. line.party ≡ party) lines → claim_lines account (map unnamed lines) ≡ claim_lines account lines
unfolding claim_lines
claim_lines_unnamed account party [] all = refl
claim_lines_unnamed account party (line ∷ later) all =
    let rest = All-tail (λ (line : ShareLine). line.party ≡ party) line later all in
    rw (claim_lines_unnamed account party later rest, begins_unnamed party line later (All-head (λ (line : ShareLine). line.party ≡ party) line later all) rest) refl

flat_agree : {X Y : Type 0} (f g : X → List Y) (xs : List X) → All (λ x. f x ≡ g x) xs → flat_map f xs ≡ flat_map g xs
flat_agree f g [] agree = refl
flat_agree f g (x ∷ xs) agree = rw (All-head (λ x. f x ≡ g x) x xs agree, flat_agree f g xs (All-tail (λ x. f x ≡ g x) x xs agree)) refl

module _ (registered : Registered) (work : List ℕ) (registration : Kept) (up : LookedUp registered work registration) where
  abbrev pub its_lines : List ShareLine
  its_lines = kept_lines (names_in registered) registration

  abbrev pay : List ℕ → List ℕ
  pay = payee_of registered.payees

  abbrev account_of : ℕ → ℕ
  account_of party = get_or up.accounts party 0

  abbrev pub its_groups : List (ℕ × List ℕ)
  its_groups = grouped account_of up.kept.claimants

  -- a party has its row, its name and its account
  record HasAccount (party : ℕ) : Type 0 where
    row : party < length registered.payees
    within : party < length up.accounts
    name : get_or (names_in registered) party [] ≡ (get_or registered.payees party ([], [])).0
    payee : get_or registered.accounts (account_of party) [] ≡ (get_or registered.payees party ([], [])).1

  has_account : (party : ℕ) → party < length (names_in registered) → HasAccount party
  has_account party inside =
      let row : party < length registered.payees = omega (arith, inside, length-map registered.payees (λ (row : List ℕ × List ℕ). row.0)) in
      let within : party < length up.accounts =
      omega (arith, row, ap length up.are.exact, length-map registered.payees (λ (row : List ℕ × List ℕ). row.1), length-map up.accounts (λ (account : ℕ). get_or registered.accounts account [])) in
      record {
        row = row;
        within = within;
        name = get_or-map (λ (row : List ℕ × List ℕ). row.0) registered.payees party ([], []) [] row;
        payee = sym (get_or-map (λ (account : ℕ). get_or registered.accounts account []) up.accounts party 0 [] within)
            ∙ (ap (λ (texts : List (List ℕ)). get_or texts party []) (sym up.are.exact) ∙ get_or-map (λ (row : List ℕ × List ℕ). row.1) registered.payees party ([], []) [] row);
      }

  once : HasOnce (names_in registered)
  once = once_from_pairs (names_in registered) (λ i j d before within same.
      let second = (has_account j within).row in
      let first : i < length registered.payees = omega (arith, before, second) in
      up.sound.one_payee i j (d, []) before second
      (sym (get_or-map (λ (row : List ℕ × List ℕ). row.0) registered.payees i (d, []) d first) ∙ (same ∙ get_or-map (λ (row : List ℕ × List ℕ). row.0) registered.payees j (d, []) d second)))

  are_paid : ArePaid pay (names_in registered) account_of registered.accounts
  are_paid = record {
    rising = up.sound.rising;
    distinct = once;
    some = λ party inside. (up.are.some party 0 (has_account party inside).within).0;
    known = λ party inside. (up.are.some party 0 (has_account party inside).within).1;
    paid = λ party inside.
        let has = has_account party inside in
        has.payee ∙ (sym (payee_at registered.payees up.sound.one_payee party ([], []) has.row) ∙ ap pay (sym has.name));
    ordered = λ i j before inside. up.are.ordered i j 0 before (has_account j inside).within;
  }

  -- the parties of its lines are parties of the registry
  named : All (λ line. Contains (names_in registered) line.party) its_lines
  named k d within =
      let line = get_or its_lines k d in
      let at : Contains (map (λ line. line.party) its_lines) line.party =
      (k, omega (arith, within, length-map its_lines (λ (line : ShareLine). line.party)), get_or-map (λ (line : ShareLine). line.party) its_lines k d _ within) in
      (up.sound.in_force line.party).1 (work, its_lines, found_inside registered.works work its_lines up.works, at)

  -- the lines as they are kept, by account
  same_kept : registration.lines ≡ lines_of_claimants its_lines its_groups
  same_kept =
      let parties = of_parties pay (names_in registered) registered.accounts account_of are_paid its_lines up.kept.claimants up.kept.compiled named in
      up.kept.lines
      ∙ (flat_agree (λ (claimant : ℕ × List ℕ). claim_lines (account_of claimant.0) (lines_at (nameless registration) claimant.1)) (λ claimant. claim_lines (account_of claimant.0) (lines_at its_lines claimant.1)) up.kept.claimants
      (λ k d within.
      let claimant = get_or up.kept.claimants k d in
      ap (claim_lines (account_of claimant.0)) (ap (λ (l : List ShareLine). lines_at l claimant.1) (nameless_lines (names_in registered) registration) ∙ lines_at_unnamed its_lines claimant.1)
      ∙ claim_lines_unnamed (account_of claimant.0) (get_or (names_in registered) claimant.0 []) (lines_at its_lines claimant.1) (parties.own k d within))
      ∙ sym (same_lines its_lines (λ (party : ℕ). get_or (names_in registered) party []) account_of up.kept.claimants parties
      (rise pay (names_in registered) registered.accounts account_of are_paid its_lines up.kept.claimants up.kept.compiled named)))

  -- the payees of its lines, of which there are few
  abbrev few_payees : List (List ℕ)
  few_payees = up.few_payees.0

  -- an account is of one of them
  abbrev IsFew : ℕ → Type 0
  IsFew account = (account < length registered.accounts) × Contains few_payees (get_or registered.accounts account [])

  -- and so is that of each party that has lines
  paid_few : All (λ claimant. IsFew (account_of claimant.0)) up.kept.claimants
  paid_few k d within =
      let claimant = get_or up.kept.claimants k d in
      let name = get_or (names_in registered) claimant.0 [] in
      let own = lines_of_party name its_lines in
      let inside : claimant.0 < length (names_in registered) = up.kept.compiled.known k d within in
      let same : lines_at its_lines claimant.1 ≡ own = up.kept.compiled.exact k d within in
      let long : length (lines_at its_lines claimant.1) ≡ length claimant.1 = length-map claimant.1 _ in
      let some : 0 < length own = omega (arith, up.kept.compiled.some k d within, ap (λ (l : List ShareLine). length l) same, long) in
      let of_party : ShareLine → Bool = λ line. pointwise nat_eq line.party name in
      let all : All (λ line. Contains few_payees (pay line.party)) own = All-filter of_party (λ line. Contains few_payees (pay line.party)) its_lines up.few_payees.2 in
      let its : (get_or own 0 no_line).party ≡ name = (bytes_eq-Decides (get_or own 0 no_line).party name).0 (filter_passes of_party its_lines 0 no_line some) in
      (are_paid.known claimant.0 inside, subst (Contains few_payees) (ap pay its ∙ sym (are_paid.paid claimant.0 inside)) (all 0 no_line some))

  -- claims are worked out from them
  pub are_claim_lines : AreClaimLines its_lines its_groups registration.lines
  are_claim_lines =
      let claimants = up.kept.claimants in
      let compiled = up.kept.compiled in
      let parties = of_parties pay (names_in registered) registered.accounts account_of are_paid its_lines claimants compiled named in
      let rises = rise pay (names_in registered) registered.accounts account_of are_paid its_lines claimants compiled named in
      record {
        exact = same_kept;
        few = omega (
          arith,
          few_paid registered.accounts few_payees up.sound.rising its_groups (in_order account_of claimants rises).0
              (of_a_party account_of IsFew claimants rises paid_few),
          up.few_payees.1,
        );
        rising = (in_order account_of claimants rises).0;
        accounts = of_a_party account_of (λ (account : ℕ). 0 < account) claimants rises (λ k d within. are_paid.some (get_or claimants k d).0 (compiled.known k d within));
        some = some_places account_of claimants rises compiled.some;
        runs = runs_of_groups its_lines (λ (party : ℕ). get_or (names_in registered) party []) account_of claimants parties rises
            (λ k d within. subst AreInRuns (sym (compiled.exact k d within)) (runs_of_alike _ (alike_in_party (get_or (names_in registered) (get_or claimants k d).0 []) its_lines up.rise)));
      }

  -- and there are few
  pub few_kept : length registration.lines ≡ length its_lines
  few_kept = omega (arith, ap (λ (l : List ClaimLine). length l) up.kept.lines, length-lines_of_parties up.accounts (nameless registration) up.kept.claimants, up.kept.compiled.total)

module _ (table : List (ℕ × List ℕ)) (registered : Registered) (line : UsageLine) (registration : Kept) (land : ℕ) (up : LookedUp registered line.work registration)
    (same : land ≡ line.territory) (known : is_known table line.territory ≡ true) where
  abbrev lines_here : List ShareLine
  lines_here = kept_lines (names_in registered) registration

  -- the claims of its accounts
  abbrev claims_here : List (ℕ × ℕ)
  claims_here = claims_of_claimants table land line.right lines_here (its_groups registered line.work registration up)

  these : filter counts claims_here ≡ claims_by table registered line lines_here
  these =
      rw same
      (same_paid (pay registered line.work registration up) (names_in registered) registered.accounts (account_of registered line.work registration up) (are_paid registered line.work registration up)
      lines_here up.kept.claimants up.kept.compiled (named registered line.work registration up) table line.territory line.right)

  total : total_of (claims_by table registered line lines_here) ≡ total_of claims_here
  total = ap total_of (sym these) ∙ total-counts claims_here

  -- what a claim of too much comes to
  pub answered_over : nat_le (total_of claims_here) MOST_CLAIMED ≡ false → (reason_against table registered line ≡ Some Over) × (claims_on table registered line ≡ [])
  answered_over over = against_over table registered line lines_here up.works known (ap (λ n. nat_le n MOST_CLAIMED) total ∙ over)

  -- and one of no more
  pub answered : nat_le (total_of claims_here) MOST_CLAIMED ≡ true → (reason_against table registered line ≡ None) × (claims_on table registered line ≡ filter counts claims_here)
  answered within =
      let (reason, claims) = against_nothing table registered line lines_here up.works known (ap (λ n. nat_le n MOST_CLAIMED) total ∙ within) in
      (reason, claims ∙ sym these)
