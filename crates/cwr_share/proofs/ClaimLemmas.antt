-- What share lines come to: those of a party, from the last one back; those of a registration, claimant by claimant; and the answer on a usage line.
use Rattle.std.proofs.Common.{◌≡◌, ◌∙◌, ◌≤◌, ◌<◌, ◌+◌, ◌-◌, ◌++◌, ◌∷◌, ◌⊎◌, [], ℕ, Bool, true, false, List, Some, None, All, AllPairs, Contains, zero, suc, drop, filter, length, take, map, get_or, ltb, nat_eq, nat_le, not, sum_by, append-nil, ap, sym, refl, subst, inl, inr, arith}
use Rattle.std.specs.Prelude.{Any, IsTrue, ◌↔◌, ◌==◌, ◌&&◌, if◌then◌else◌}
use Rattle.std.specs.List.{list_any, range_with_len}
use Rattle.std.specs.Cmp.Lexicographic.{pointwise}
use Rattle.std.proofs.lemmas.Bool.{cases_Bool, false_from_ne_true, le-leb, le-ltb, leb-false, leb-true, lt-leb, lt-ltb, false≢true, cases_eq, cases_lt, and_parts, and_right, eqb-true, eq-eqb, ne_eqb}
use Rattle.std.proofs.lemmas.Bool.Decides.{same_from_decides}
use Rattle.std.proofs.lemmas.List.{append_assoc, drop_all, drop-drop, get_or-append_right, get_or-map, length-append, get_or_append_left, get_or_default, length-map, length_push, length-drop, length-take-le, drop_more, get_or-drop, get_or-take, take_all}
use Rattle.std.proofs.lemmas.List.Elements.{All-append, All-contains, All-filter, All-push, All-tail, filter_more}
use Rattle.std.proofs.lemmas.List.Folds.{Any-from_list_any, list_any_at}
use Rattle.std.proofs.lemmas.List.Sums.{count_by-le-length, length-filter, sum_by-cons, sum_by-take-le, sum_by_more}
use Rattle.std.proofs.lemmas.Slice.Eq.{bytes_eq-Decides}
use Rattle.std.proofs.Math.Seq.{drop-append_seam, get_or-append_seam}
use Rattle.csv_table.specs.declared.forms.TheConstants.{MOST_CODE}
use Rattle.tis_tree.specs.Territories.{AreTerritories, IsKnown, encloses, row_at}
use Rattle.tis_tree.proofs.Enclosing.{at_known, known_at}
use Rattle.line_split.specs.Claims.{total_of}
use Rattle.line_split.specs.declared.TheConstants.{MOST_CLAIMED}
use Rattle.line_split.specs.declared.reason.Reason.TheVariants.{Land, Over, Work}
use Rattle.line_split.specs.UsageLine.{UsageLine}
use Rattle.line_split.specs.declared.usage.Right.{Right}
use Rattle.line_split.specs.declared.usage.Right.TheVariants.{P, M, S}
use Rattle.cwr_share.specs.ClaimsOn.{claims_by, claims_on, covers, deciding, is_alike, is_known, reason_against, share_for}
use Rattle.cwr_share.specs.Compiled.{AreClaimLines, AreInRuns, begins_interest, claim_line, claim_lines, claims_of_claimants, lines_at, lines_of_claimants, lines_of_parties, lines_of_party, places_in, share_under}
use Rattle.cwr_share.specs.declared.claim_line.ClaimLine.{ClaimLine}
use Rattle.cwr_share.specs.Registered.{Registered}
use Rattle.cwr_share.specs.Registrations.{ShareLine, find_work}
use Rattle.cwr_share.proofs.Runs.{run_tells, runs_drop}
use Rattle.cwr_share.proofs.CompiledLemmas.{AllPairs-head, AllPairs-tail, contains_cases}
use Rattle.cwr_share.proofs.InForceLemmas.{same_text}

module _ (table : List (ℕ × List ℕ)) (land : ℕ) where
  -- a later line of the interest and party whose territory contains the land
  abbrev pub has_later : ShareLine → List ShareLine → Bool
  has_later line later = list_any (λ other. is_alike line other && covers table land other) later

  -- among lines that are alike, one of the interest of the first contains the land
  abbrev pub is_decided : List ShareLine → Bool
  is_decided [] = false
  is_decided (line ∷ later) = has_later line (line ∷ later)

  -- what some lines come to, and whether the interest of the first is decided
  pub record Claimed (right : Right) (lines : List ShareLine) (claim : ℕ) (decided : Bool) : Type 0 where
    pub sum : claim ≡ sum_by (share_for right) (deciding table land lines)
    pub first : decided ≡ is_decided lines

  pub claimed_none : (right : Right) → Claimed right [] 0 false
  unfolding deciding
  claimed_none right = record { sum = refl; first = refl }

  module _ (right : Right) (line : ShareLine) (later : List ShareLine) (claim : ℕ) (decided : Bool) (runs : AreInRuns (line ∷ later))
      (claimed : Claimed right later claim decided) (covered : Bool) (is : covers table land line ≡ covered) where
    -- whether a line after it decides
    tells : (not (begins_interest line later) && decided) ≡ has_later line later
    tells = rw claimed.first (run_tells table land line later runs)

    itself : is_alike line line ≡ true
    itself = rw (eq-eqb line.interest line.interest refl, same_text line.party line.party refl) refl

    -- the line decides
    pub claimed_more : (not (begins_interest line later) && decided) ≡ false → covered ≡ true → Claimed right (line ∷ later) (claim + share_for right line) true
    unfolding deciding
    claimed_more new here =
        let none : has_later line later ≡ false = sym tells ∙ new in
        let covers_it : covers table land line ≡ true = is ∙ here in
        record {
          sum = rw (covers_it, none) (omega (arith, claimed.sum, sum_by-cons (share_for right) line (deciding table land later)));
          first = rw (itself, covers_it) refl;
        }

    -- it does not, where its territory does not contain the land
    pub claimed_apart : (not (begins_interest line later) && decided) ≡ false → covered ≡ false → Claimed right (line ∷ later) claim false
    unfolding deciding
    claimed_apart new apart =
        let none : has_later line later ≡ false = sym tells ∙ new in
        let covers_none : covers table land line ≡ false = is ∙ apart in
        record { sum = rw covers_none claimed.sum; first = rw (covers_none, and_right (is_alike line line) false refl) (sym none) }

    -- nor where a later line does
    pub claimed_before : (not (begins_interest line later) && decided) ≡ true → Claimed right (line ∷ later) claim true
    unfolding deciding
    claimed_before old =
        let some : has_later line later ≡ true = sym tells ∙ old in
        record {
          sum = elim (cases_Bool (covers table land line)) [ inr apart ↦ rw apart claimed.sum | inl here ↦ rw (here, some) claimed.sum ];
          first = elim (cases_Bool (covers table land line)) [ inr apart ↦ rw (apart, and_right (is_alike line line) false refl) (sym some) | inl here ↦ rw (itself, here) refl ];
        }

-- The share lines of an account as claims are worked out: the last one first.

-- one line more before the others comes last
pub claim_lines_more : (account : ℕ) (line : ShareLine) (later : List ShareLine) → claim_lines account (line ∷ later) ≡ claim_lines account later ++ claim_line account (begins_interest line later) line ∷ []
unfolding claim_lines
claim_lines_more account line later = refl

pub claim_lines_none : (account : ℕ) → claim_lines account [] ≡ []
unfolding claim_lines
claim_lines_none account = refl

pub length-claim_lines : (account : ℕ) (lines : List ShareLine) → length (claim_lines account lines) ≡ length lines
unfolding claim_lines
length-claim_lines account [] = refl
length-claim_lines account (line ∷ later) = omega (arith, length-claim_lines account later, length_push (claim_lines account later) (claim_line account (begins_interest line later) line))

pub of_its_account : (account : ℕ) (lines : List ShareLine) → All (λ line. line.account ≡ account) (claim_lines account lines)
unfolding claim_lines
of_its_account account [] = λ k d within. absurd (omega arith)
of_its_account account (line ∷ later) = All-push (λ line. line.account ≡ account) (claim_lines account later) (claim_line account (begins_interest line later) line) (of_its_account account later) refl

-- the one at a place from the front is the one at that place from the back
pub claim_line_at : (account : ℕ) (lines : List ShareLine) (others : List ClaimLine) (count : ℕ) (d : ClaimLine) (e : ShareLine) → count < length lines
    → get_or (claim_lines account lines ++ others) count d
    ≡ claim_line account (begins_interest (get_or lines (length lines - 1 - count) e) (drop (length lines - count) lines)) (get_or lines (length lines - 1 - count) e)
unfolding claim_lines
claim_line_at account [] others count d e within = absurd (omega (arith, within))
claim_line_at account (line ∷ later) others count d e within = by (cases_lt count (length later)) (claim_line_at account later (this ∷ others) count d e)
  where
    this : ClaimLine
    this = claim_line account (begins_interest line later) line

    together : (claim_lines account later ++ this ∷ []) ++ others ≡ claim_lines account later ++ this ∷ others
    together = append_assoc (claim_lines account later) (this ∷ []) others

    by : (count < length later) ⊎ (length later ≤ count)
        → (count < length later → get_or (claim_lines account later ++ this ∷ others) count d
        ≡ claim_line account (begins_interest (get_or later (length later - 1 - count) e) (drop (length later - count) later)) (get_or later (length later - 1 - count) e))
        → get_or ((claim_lines account later ++ this ∷ []) ++ others) count d
        ≡ claim_line account (begins_interest (get_or (line ∷ later) (length (line ∷ later) - 1 - count) e) (drop (length (line ∷ later) - count) (line ∷ later))) (get_or (line ∷ later) (length (line ∷ later) - 1 - count) e)
    by (inl inside) rest =
        let first : length (line ∷ later) - 1 - count ≡ suc (length later - 1 - count) = omega arith in
        let second : length (line ∷ later) - count ≡ suc (length later - count) = omega arith in
        rw (together, first, second) (rest inside)
    by (inr last) rest =
        let its : count ≡ length (claim_lines account later) = omega (arith, within, last, length-claim_lines account later) in
        let first : length (line ∷ later) - 1 - count ≡ 0 = omega arith in
        let second : length (line ∷ later) - count ≡ 1 = omega arith in
        rw (together, first, second) (ap (λ n. get_or (claim_lines account later ++ this ∷ others) n d) its ∙ get_or-append_seam (claim_lines account later) this others d)

-- one line more from the last one back
module _ (lines : List ShareLine) (count : ℕ) (e : ShareLine) (some : count < length lines) where
  pub next_line : drop (length lines - (count + 1)) lines ≡ get_or lines (length lines - 1 - count) e ∷ drop (length lines - count) lines
  next_line =
      let place = length lines - 1 - count in
      let first : length lines - (count + 1) ≡ place = omega arith in
      let second : place + 1 ≡ length lines - count = omega arith in
      rw (first, sym second) (drop_more lines place e (omega arith))

  -- it is in a run with those after it
  pub next_runs : AreInRuns lines → AreInRuns (get_or lines (length lines - 1 - count) e ∷ drop (length lines - count) lines)
  next_runs runs = rw next_line at (runs_drop (length lines - (count + 1)) lines runs)

-- as many lines as places
pub length-lines_at : (lines : List ShareLine) (places : List ℕ) → length (lines_at lines places) ≡ length places
length-lines_at lines places = length-map places _

-- what a line gives is what its share line gives
share_same : (right : Right) (account : ℕ) (begins : Bool) (line : ShareLine) → share_under right (claim_line account begins line) ≡ share_for right line
share_same P account begins line = refl
share_same M account begins line = refl
share_same S account begins line = refl

abbrev pub no_line : ShareLine
no_line = record { interest = 0; party = []; performing = 0; mechanical = 0; synchronisation = 0; includes = false; territory = 0 }

-- The next line of the account whose lines come first.
module _ (table : List (ℕ × List ℕ)) (land : ℕ) (right : Right) (lines : List ClaimLine) (count : ℕ) (line : ClaimLine) (is : line ≡ get_or lines count line) (claim : ℕ) (decided : Bool)
    (account : ℕ) (first : List ShareLine) (others : List ClaimLine) (split : lines ≡ claim_lines account first ++ others) (runs : AreInRuns first) (some : count < length first)
    (claimed : Claimed table land right (drop (length first - count) first) claim decided) where
  abbrev its_line : ShareLine
  its_line = get_or first (length first - 1 - count) no_line

  abbrev after_it : List ShareLine
  after_it = drop (length first - count) first

  same_line : line ≡ claim_line account (begins_interest its_line after_it) its_line
  same_line = is ∙ (ap (λ (l : List ClaimLine). get_or l count line) split ∙ claim_line_at account first others count line no_line some)

  begins : line.begins ≡ begins_interest its_line after_it
  begins = ap (λ (l : ClaimLine). l.begins) same_line

  territory : line.territory ≡ its_line.territory
  territory = ap (λ (l : ClaimLine). l.territory) same_line

  share : share_under right line ≡ share_for right its_line
  share = ap (share_under right) same_line ∙ share_same right account (begins_interest its_line after_it) its_line

  one_more : drop (length first - (count + 1)) first ≡ its_line ∷ after_it
  one_more = next_line first count no_line some

  runs_here : AreInRuns (its_line ∷ after_it)
  runs_here = next_runs first count no_line some runs

  -- it decides
  pub step_more : (not line.begins && decided) ≡ false → encloses table line.territory land ≡ true → Claimed table land right (drop (length first - (count + 1)) first) (claim + share_under right line) true
  step_more new here =
      rw (one_more, share) (claimed_more table land right its_line after_it claim decided runs_here claimed true (rw territory at here) (rw begins at new) refl)

  -- its territory does not contain the land
  pub step_apart : (not line.begins && decided) ≡ false → encloses table line.territory land ≡ false → Claimed table land right (drop (length first - (count + 1)) first) claim false
  step_apart new apart = rw one_more (claimed_apart table land right its_line after_it claim decided runs_here claimed false (rw territory at apart) (rw begins at new) refl)

  -- its interest is decided
  pub step_before : (not line.begins && decided) ≡ true → Claimed table land right (drop (length first - (count + 1)) first) claim true
  step_before old = rw one_more (claimed_before table land right its_line after_it claim decided runs_here claimed (covers table land its_line) refl (rw begins at old))

-- The lines of the first account end where those of another begin.
module _ (lines : List ClaimLine) (count : ℕ) (same : (k : ℕ) (d : ClaimLine) → k < count → (get_or lines k d).account ≡ (get_or lines 0 d).account)
    (account : ℕ) (first : List ShareLine) (others : List ClaimLine) (split : lines ≡ claim_lines account first ++ others) (some : 0 < length first) (apart : All (λ other. ¬ (other.account ≡ account)) others) where
  long : length (claim_lines account first) ≡ length first
  long = length-claim_lines account first

  -- a line of it is of its account
  pub within_first : (k : ℕ) (d : ClaimLine) → k < length first → (get_or lines k d).account ≡ account
  within_first k d inside =
      let there : k < length (claim_lines account first) = omega (arith, inside, long) in
      ap (λ (l : List ClaimLine). (get_or l k d).account) split
      ∙ (ap (λ (l : ClaimLine). l.account) (get_or_append_left (claim_lines account first) others d k there) ∙ of_its_account account first k d there)

  -- no more lines than those are of one account
  pub no_further : count ≤ length lines → count ≤ length first
  no_further within = elim (cases_lt (length first) count) [
    | inr short ↦ short
    | inl past ↦
        let d : ClaimLine = record { account = 0; shares = record { performing = 0; mechanical = 0; synchronisation = 0 }; territory = 0; begins = false } in
        let next : get_or lines (length first) d ≡ get_or others 0 d =
        ap (λ (l : List ClaimLine). get_or l (length first) d) split ∙ (get_or-append_right (claim_lines account first) others (length first) (length first) d long (omega arith) ∙ ap (λ n. get_or others n d) (omega arith)) in
        let left : 0 < length others = omega (arith, past, within, ap (λ (l : List ClaimLine). length l) split, length-append (claim_lines account first) others, long) in
        absurd (apart 0 d left (sym (ap (λ (l : ClaimLine). l.account) next) ∙ (same (length first) d past ∙ within_first 0 d some)))
  ]

-- whether a claim is not 0
abbrev pub counts : ℕ × ℕ → Bool
counts claim = not (claim.1 == 0)

module _ (all : List (ℕ × ℕ)) where
  -- the first of some claims, those that are not 0, and what they come to
  pub record Gathered (list : List (ℕ × ℕ)) (total n : ℕ) : Type 0 where
    pub kept : list ≡ filter counts (take n all)
    pub sum : total ≡ total_of (take n all)
    pub small : total ≤ MOST_CLAIMED

  pub gathered_none : Gathered [] 0 0
  gathered_none = record { kept = refl; sum = refl; small = omega arith }

  -- there is room for one more
  pub gathered_few : (list : List (ℕ × ℕ)) (total n : ℕ) → Gathered list total n → n < length all → length list < length all
  gathered_few list total n gathered left =
      let first : length (take n all) ≡ n = length-take-le n all (omega arith) in
      omega (arith, ap (λ (l : List (ℕ × ℕ)). length l) gathered.kept, length-filter counts (take n all), count_by-le-length counts (take n all), first)

  -- where no claim is left, these are all
  pub gathered_all : (list : List (ℕ × ℕ)) (total n : ℕ) → Gathered list total n → length all ≤ n → (nat_le (total_of all) MOST_CLAIMED ≡ true) × (list ≡ filter counts all)
  gathered_all list total n gathered last =
      let whole : take n all ≡ all = take_all n all last in
      let sum : total ≡ total_of all = gathered.sum ∙ ap total_of whole in
      (le-leb (total_of all) MOST_CLAIMED (omega (arith, gathered.small, sum)), gathered.kept ∙ ap (filter counts) whole)

  module _ (list : List (ℕ × ℕ)) (total n : ℕ) (claim : ℕ × ℕ) (gathered : Gathered list total n) (left : n < length all) (is : get_or all n claim ≡ claim) where
    next_sum : total + claim.1 ≡ total_of (take (n + 1) all)
    next_sum = omega (arith, gathered.sum, sum_by_more (λ (claim : ℕ × ℕ). claim.1) all n claim left, ap (λ (claim : ℕ × ℕ). claim.1) is)

    -- a claim more
    pub gathered_more : 0 < claim.1 → total + claim.1 ≤ MOST_CLAIMED → Gathered (list ++ claim ∷ []) (total + claim.1) (n + 1)
    gathered_more some small =
        let test : (claim.1 == 0) ≡ false = ne_eqb claim.1 0 (λ none. absurd (omega arith)) in
        record {
          kept = rw (filter_more counts all n claim left, is, test) (ap (λ l. l ++ claim ∷ []) gathered.kept);
          sum = next_sum;
          small = small;
        }

    -- a claim of 0 is left out
    pub gathered_zero : claim.1 ≡ 0 → total + claim.1 ≤ MOST_CLAIMED → Gathered list (total + claim.1) (n + 1)
    gathered_zero none small =
        let test : (claim.1 == 0) ≡ true = eq-eqb claim.1 0 none in
        record {
          kept = rw (filter_more counts all n claim left, is, test) (gathered.kept ∙ sym (append-nil (filter counts (take n all))));
          sum = next_sum;
          small = small;
        }

    -- the claims come to too much
    pub gathered_over : MOST_CLAIMED < total + claim.1 → nat_le (total_of all) MOST_CLAIMED ≡ false
    gathered_over over = lt-leb (total_of all) MOST_CLAIMED (omega (arith, next_sum, sum_by-take-le (λ (claim : ℕ × ℕ). claim.1) all (n + 1), over))

module _ (table : List (ℕ × List ℕ)) (land : ℕ) (right : Right) (lines : List ShareLine) (claimants : List (ℕ × List ℕ)) where
  -- as many claims as claimants
  pub length-claims : length (claims_of_claimants table land right lines claimants) ≡ length claimants
  length-claims = length-map claimants _

  module _ (k : ℕ) (claimant : ℕ × List ℕ) (within : k < length claimants) (is : claimant ≡ get_or claimants k claimant) where
    -- the claim of a claimant
    pub claim_at : (claim : ℕ) → claim ≡ sum_by (share_for right) (deciding table land (lines_at lines claimant.1))
        → get_or (claims_of_claimants table land right lines claimants) k (claimant.0, claim) ≡ (claimant.0, claim)
    claim_at claim sum =
        get_or-map _ claimants k claimant (claimant.0, claim) within
        ∙ (ap (λ (p : ℕ × List ℕ). (p.0, sum_by (share_for right) (deciding table land (lines_at lines p.1)))) (sym is)
        ∙ ap (λ n. (claimant.0, n)) (sym sum))

    -- it is behind those of lower accounts
    pub lower_accounts : AllPairs (λ claimant later. claimant.0 < later.0) claimants → All (λ other. other.0 < claimant.0) (filter counts (take k (claims_of_claimants table land right lines claimants)))
    lower_accounts rising =
        let all = claims_of_claimants table land right lines claimants in
        All-filter counts (λ other. other.0 < claimant.0) (take k all)
        (λ j d kept.
        let before : j < k = omega (arith, kept, length-take-le k all (omega (arith, within, length-claims))) in
        let this : get_or (take k all) j d ≡ get_or all j d = get_or-take k all j d before in
        let there : j < length claimants = omega (arith, before, within) in
        let other : (get_or all j d).0 ≡ (get_or claimants j claimant).0 = ap (λ (p : ℕ × ℕ). p.0) (get_or-map _ claimants j claimant d there) in
        let lower = rising j k claimant before within in
        omega (arith, lower, ap (λ (p : ℕ × ℕ). p.0) this, other, ap (λ (p : ℕ × List ℕ). p.0) is))

-- as many lines as places
pub length-lines_of_parties : (accounts : List ℕ) (lines : List ShareLine) (claimants : List (ℕ × List ℕ)) → length (lines_of_parties accounts lines claimants) ≡ places_in claimants
length-lines_of_parties accounts lines [] = refl
length-lines_of_parties accounts lines (claimant ∷ later) =
    let front = claim_lines (get_or accounts claimant.0 0) (lines_at lines claimant.1) in
    omega (
      arith,
      length-append front (lines_of_parties accounts lines later),
      length-claim_lines (get_or accounts claimant.0 0) (lines_at lines claimant.1),
      length-lines_at lines claimant.1,
      length-lines_of_parties accounts lines later,
      sum_by-cons (λ (p : ℕ × List ℕ). length p.1) claimant later,
    )

-- the lines of claimants are of their accounts
of_claimants : (named : List ShareLine) (Holds : ℕ → Type 0) (claimants : List (ℕ × List ℕ)) → All (λ claimant. Holds claimant.0) claimants → All (λ line. Holds line.account) (lines_of_claimants named claimants)
of_claimants named Holds [] all = λ k d within. absurd (omega arith)
of_claimants named Holds (claimant ∷ later) all =
    All-append (λ line. Holds line.account) (claim_lines claimant.0 (lines_at named claimant.1)) (lines_of_claimants named later)
    (λ k d within. subst Holds (sym (of_its_account claimant.0 (lines_at named claimant.1) k d within)) (all 0 claimant (omega arith)))
    (of_claimants named Holds later (All-tail (λ claimant. Holds claimant.0) claimant later all))

-- The lines from the first of a claimant on.
module _ (named : List ShareLine) (claimants : List (ℕ × List ℕ)) (lines : List ClaimLine) (claim_lines_of : AreClaimLines named claimants lines) (at n : ℕ)
    (here : drop at lines ≡ lines_of_claimants named (drop n claimants)) where
  -- where lines are left, a claimant is
  pub claimant_left : at < length lines → n < length claimants
  claimant_left left = elim (cases_lt n (length claimants)) [
    | inl inside ↦ inside
    | inr past ↦
        let none : drop n claimants ≡ [] = drop_all n claimants past in
        absurd (omega (arith, left, length-drop at lines, ap (λ (l : List ClaimLine). length l) (here ∙ ap (lines_of_claimants named) none)))
  ]

  -- and where none is left, none is
  pub none_left : length lines ≤ at → length claimants ≤ n
  none_left past = elim (cases_lt n (length claimants)) [
    | inr done ↦ done
    | inl inside ↦
        let none : lines_of_claimants named (drop n claimants) ≡ [] = sym here ∙ drop_all at lines past in
        let first : lines_of_claimants named (drop n claimants) ≡ claim_lines (get_or claimants n (0, [])).0 (lines_at named (get_or claimants n (0, [])).1) ++ lines_of_claimants named (drop (n + 1) claimants) =
        ap (lines_of_claimants named) (drop_more claimants n (0, []) inside) in
        let front = claim_lines (get_or claimants n (0, [])).0 (lines_at named (get_or claimants n (0, [])).1) in
        absurd (omega (
          arith,
          ap (λ (l : List ClaimLine). length l) (sym first ∙ none),
          length-append front (lines_of_claimants named (drop (n + 1) claimants)),
          length-claim_lines (get_or claimants n (0, [])).0 (lines_at named (get_or claimants n (0, [])).1),
          length-lines_at named (get_or claimants n (0, [])).1,
          claim_lines_of.some n (0, []) inside,
        ))
  ]

  module _ (inside : n < length claimants) where
    -- the claimant
    abbrev pub claimant_here : ℕ × List ℕ
    claimant_here = get_or claimants n (0, [])

    pub is_here : claimant_here ≡ get_or claimants n claimant_here
    is_here = get_or_default claimants n (0, []) claimant_here inside

    -- its lines, and those of the claimants after it
    abbrev pub others : List ClaimLine
    others = lines_of_claimants named (drop (n + 1) claimants)

    pub first_lines : drop at lines ≡ claim_lines claimant_here.0 (lines_at named claimant_here.1) ++ others
    first_lines = here ∙ ap (lines_of_claimants named) (drop_more claimants n (0, []) inside)

    pub other_accounts : All (λ other. ¬ (other.account ≡ claimant_here.0)) others
    other_accounts =
        of_claimants named (λ account. ¬ (account ≡ claimant_here.0)) (drop (n + 1) claimants)
        (λ k d within same.
        let there : n + 1 + k < length claimants = omega (arith, within, length-drop (n + 1) claimants) in
        let first : get_or claimants n d ≡ claimant_here = get_or_default claimants n d (0, []) inside in
        let higher = claim_lines_of.rising n (n + 1 + k) d (omega arith) there in
        omega (arith, higher, same, ap (λ (p : ℕ × List ℕ). p.0) (get_or-drop (n + 1) claimants k d), ap (λ (p : ℕ × List ℕ). p.0) first))

    some_lines : 0 < length (lines_at named claimant_here.1)
    some_lines = omega (arith, length-lines_at named claimant_here.1, claim_lines_of.some n (0, []) inside)

    pub its_lines : (0 < length (lines_at named claimant_here.1)) × AreInRuns (lines_at named claimant_here.1)
    its_lines = (some_lines, claim_lines_of.runs n (0, []) inside)

    -- the first line is the claimant's
    pub its_account : (d : ClaimLine) → (get_or lines at d).account ≡ claimant_here.0
    its_account d =
        let front = claim_lines claimant_here.0 (lines_at named claimant_here.1) in
        let long : 0 < length front = omega (arith, length-claim_lines claimant_here.0 (lines_at named claimant_here.1), some_lines) in
        let first : at ≡ at + 0 = omega arith in
        ap (λ (line : ClaimLine). line.account)
        (ap (λ k. get_or lines k d) first ∙ sym (get_or-drop at lines 0 d) ∙ ap (λ (l : List ClaimLine). get_or l 0 d) first_lines ∙ get_or_append_left front others d 0 long)
        ∙ of_its_account claimant_here.0 (lines_at named claimant_here.1) 0 d long

    -- behind its lines are those of the next
    next_claimant : (count : ℕ) → count ≡ length (lines_at named claimant_here.1) → drop (at + count) lines ≡ lines_of_claimants named (drop (n + 1) claimants)
    next_claimant count is =
        let front = claim_lines claimant_here.0 (lines_at named claimant_here.1) in
        let long : count ≡ length front = is ∙ sym (length-claim_lines claimant_here.0 (lines_at named claimant_here.1)) in
        sym (drop-drop count at lines) ∙ (ap (drop count) first_lines ∙ (ap (λ k. drop k (front ++ others)) long ∙ drop-append_seam front others))

    -- where the claim of the first account and the number of its lines are worked out, they are the claimant's, and behind its lines are those of the next
    pub claim_here : (table : List (ℕ × List ℕ)) (land : ℕ) (right : Right) (claim count : ℕ)
        → ((account : ℕ) (first : List ShareLine) (others : List ClaimLine) → drop at lines ≡ claim_lines account first ++ others → 0 < length first → AreInRuns first → All (λ other. ¬ (other.account ≡ account)) others
        → (claim ≡ sum_by (share_for right) (deciding table land first)) × (count ≡ length first))
        → (get_or (claims_of_claimants table land right named claimants) n (claimant_here.0, claim) ≡ (claimant_here.0, claim)) × (drop (at + count) lines ≡ lines_of_claimants named (drop (n + 1) claimants))
    claim_here table land right claim count worked_out =
        let (sum, long) = worked_out claimant_here.0 (lines_at named claimant_here.1) others first_lines its_lines.0 its_lines.1 other_accounts in
        (claim_at table land right named claimants n claimant_here inside is_here claim sum, next_claimant count long)

-- a test that only lines of a party pass, finds one among them
list_any-filter : {X : Type 0} (test keep : X → Bool) → ((x : X) → test x ≡ true → keep x ≡ true) → (xs : List X) → list_any test (filter keep xs) ≡ list_any test xs
list_any-filter test keep only [] = refl
list_any-filter test keep only (x ∷ xs) = elim (cases_Bool (keep x)) [
  | inl kept ↦ rw (kept, list_any-filter test keep only xs) refl
  | inr left ↦
      let fails : test x ≡ false = false_from_ne_true (test x) (λ passes. false≢true (sym left ∙ only x passes)) in
      rw (left, fails) (list_any-filter test keep only xs)
]

module _ (table : List (ℕ × List ℕ)) (land : ℕ) where
  -- the lines of a party that decide are those that decide among its lines
  pub deciding_of_party : (party : List ℕ) (lines : List ShareLine) → lines_of_party party (deciding table land lines) ≡ deciding table land (lines_of_party party lines)
  unfolding deciding
  deciding_of_party party [] = refl
  deciding_of_party party (line ∷ later) = by (cases_Bool (pointwise nat_eq line.party party)) (deciding_of_party party later)
    where
      of_party : ShareLine → Bool
      of_party other = pointwise nat_eq other.party party

      by : (pointwise nat_eq line.party party ≡ true) ⊎ (pointwise nat_eq line.party party ≡ false) → lines_of_party party (deciding table land later) ≡ deciding table land (lines_of_party party later)
          → lines_of_party party (deciding table land (line ∷ later)) ≡ deciding table land (lines_of_party party (line ∷ later))
      by (inr other) rest = rw other (elim (cases_Bool (covers table land line && not (has_later table land line later))) [
        | inl decides ↦ rw (decides, other) rest
        | inr not_it ↦ rw not_it rest
      ])
      by (inl its) rest =
          let only : (other : ShareLine) → (is_alike line other && covers table land other) ≡ true → of_party other ≡ true =
          λ other told.
          let alike = (and_parts (is_alike line other) (covers table land other) told).0 in
          let same = (bytes_eq-Decides line.party other.party).0 ((and_parts (line.interest == other.interest) (pointwise nat_eq line.party other.party) alike).1) in
          same_text other.party party (sym same ∙ (bytes_eq-Decides line.party party).0 its) in
          let among : has_later table land line (lines_of_party party later) ≡ has_later table land line later =
          list_any-filter (λ other. is_alike line other && covers table land other) of_party only later in
          rw (its, among) (elim (cases_Bool (covers table land line && not (has_later table land line later))) [
            | inl decides ↦ rw (decides, its) (ap (λ l. line ∷ l) rest)
            | inr not_it ↦ rw not_it rest
          ])

-- two functions that agree at each element
pub map_agree : {X Y : Type 0} (f g : X → Y) (xs : List X) → All (λ x. f x ≡ g x) xs → map f xs ≡ map g xs
map_agree f g [] agree = refl
map_agree f g (x ∷ xs) agree = rw (agree 0 x (omega arith), map_agree f g xs (All-tail (λ x. f x ≡ g x) x xs agree)) refl

pub map_twice : {X Y Z : Type 0} (f : X → Y) (g : Y → Z) (xs : List X) → map g (map f xs) ≡ map (λ x. g (f x)) xs
map_twice f g [] = refl
map_twice f g (x ∷ xs) = ap (λ l. g (f x) ∷ l) (map_twice f g xs)

-- those that are not 0 come to what all come to
pub total-counts : (claims : List (ℕ × ℕ)) → total_of (filter counts claims) ≡ total_of claims
total-counts [] = refl
total-counts (claim ∷ claims) =
    let rest = total-counts claims in
    let all = sum_by-cons (λ (claim : ℕ × ℕ). claim.1) claim claims in
    elim (cases_eq claim.1 0) [
      | inl none ↦ rw (eq-eqb claim.1 0 none) (omega (arith, rest, all, none))
      | inr some ↦ rw (ne_eqb claim.1 0 some) (omega (arith, rest, all, sum_by-cons (λ (claim : ℕ × ℕ). claim.1) claim (filter counts claims)))
    ]

-- Accounts that rise give the claims that all accounts give, where those that are left out have no claim.
pub merged : (g : ℕ → ℕ) (m from : ℕ) (accounts : List ℕ) → AllPairs (λ a b. a < b) accounts → All (λ a. (from ≤ a) × (a < from + m)) accounts
    → ((a : ℕ) → from ≤ a → a < from + m → ¬ Contains accounts a → g a ≡ 0)
    → filter counts (map (λ a. (a, g a)) accounts) ≡ filter counts (map (λ a. (a, g a)) (range_with_len from m))
merged g zero from [] rising within left_out = refl
merged g zero from (a ∷ accounts) rising within left_out = let (low, high) = within 0 a (omega arith) in absurd (omega (arith, low, high))
merged g (suc m) from [] rising within left_out =
    let none : g from ≡ 0 = left_out from (omega arith) (omega arith) (λ has. absurd (omega (arith, has.1))) in
    rw (eq-eqb (g from) 0 none) (merged g m (from + 1) [] rising (λ k d inside. absurd (omega arith)) (λ a low high without. left_out a (omega arith) (omega arith) without))
merged g (suc m) from (a ∷ accounts) rising within left_out =
    let above : All (λ b. a < b) accounts = AllPairs-head (λ a b. a < b) a accounts rising in
    let low : from ≤ a = (within 0 a (omega arith)).0 in
    elim (cases_eq from a) [
      | inl is ↦
          let rest = merged g m (from + 1) accounts (AllPairs-tail (λ a b. a < b) a accounts rising)
          (λ k d inside. let high = (within (suc k) d (omega arith)).1 in let more = above k d inside in (omega (arith, more, is), omega (arith, high)))
          (λ b from_next to without. left_out b (omega arith) (omega arith)
          (λ has. elim (contains_cases a b accounts has) [ inl same ↦ omega (arith, is, same, from_next) | inr later ↦ without later ])) in
          subst (λ b. filter counts (map (λ a. (a, g a)) (b ∷ accounts)) ≡ filter counts (map (λ a. (a, g a)) (range_with_len from (suc m)))) is
          (ap (λ l. if counts (from, g from) then (from, g from) ∷ l else l) rest)
      | inr apart ↦
          let none : g from ≡ 0 = left_out from (omega arith) (omega arith) (λ has. elim (contains_cases a from accounts has) [
            | inl same ↦ apart (sym same)
            | inr later ↦ let more = All-contains (λ b. a < b) accounts from above later in omega (arith, more, low)
          ]) in
          let rest = merged g m (from + 1) (a ∷ accounts) rising
          (λ k d inside. (behind k d inside low apart above, let high = (within k d inside).1 in omega (arith, high)))
          (λ b from_next to without. left_out b (omega arith) (omega arith) without) in
          rw (eq-eqb (g from) 0 none) rest
    ]
  where
    behind : (k d : ℕ) → k < length (a ∷ accounts) → from ≤ a → ¬ (from ≡ a) → All (λ b. a < b) accounts → from + 1 ≤ get_or (a ∷ accounts) k d
    behind zero d inside low apart above = omega (arith, apart)
    behind (suc k) d inside low apart above = let more = above k d (omega (arith, inside)) in omega (arith, more, low)

-- the test of a territory tells whether it has a row
pub known_tells : (table : List (ℕ × List ℕ)) (code : ℕ) → (is_known table code ≡ true) ↔ IsKnown table code
known_tells table code = (λ told. to (Any-from_list_any test table told), λ known. back (known_at table code known))
  where
    test : ℕ × List ℕ → Bool
    test row = row.0 == code

    to : Any (λ row. test row ≡ true) table → IsKnown table code
    to (place, row, within, is, told) = at_known table code place row within (ap (λ (r : ℕ × List ℕ). r.0) is ∙ eqb-true row.0 code told)

    back : (place : ℕ) × (place < length table) × ((row_at table place).0 ≡ code) → is_known table code ≡ true
    back (place, within, is) = list_any_at test table place (0, []) within (eq-eqb (row_at table place).0 code is)

-- what says whether a territory has a row says what the test does
pub known_is : (table : List (ℕ × List ℕ)) (code : ℕ) (told : Bool) → IsTrue told ↔ IsKnown table code → told ≡ is_known table code
known_is table code told is = same_from_decides told (is_known table code) is (known_tells table code)

-- a code out of range has no row
pub out_of_range : (table : List (ℕ × List ℕ)) (code : ℕ) → AreTerritories table → ¬ ((0 < code) × (code ≤ MOST_CODE)) → is_known table code ≡ false
out_of_range table code sound out = false_from_ne_true (is_known table code) (λ told.
    let (place, within, is) = known_at table code ((known_tells table code).0 told) in
    let (some, few) = sound.codes place (0, []) within in
    out (omega (arith, some, is), omega (arith, few, is)))

module _ (table : List (ℕ × List ℕ)) (registered : Registered) (line : UsageLine) where
  -- no registration in force has the work
  pub against_work : find_work line.work registered.works ≡ None → (reason_against table registered line ≡ Some Work) × (claims_on table registered line ≡ [])
  against_work none = rw none (refl, refl)

  module _ (lines : List ShareLine) (works : find_work line.work registered.works ≡ Some lines) where
    -- the territory is unknown
    pub against_land : is_known table line.territory ≡ false → (reason_against table registered line ≡ Some Land) × (claims_on table registered line ≡ [])
    against_land unknown = rw (works, unknown) (refl, refl)

    -- the claims come to too much
    pub against_over : is_known table line.territory ≡ true → nat_le (total_of (claims_by table registered line lines)) MOST_CLAIMED ≡ false
        → (reason_against table registered line ≡ Some Over) × (claims_on table registered line ≡ [])
    against_over known over =
        let test : ltb MOST_CLAIMED (total_of (claims_by table registered line lines)) ≡ true = lt-ltb MOST_CLAIMED _ (leb-false _ MOST_CLAIMED over) in
        rw (works, known, test) (refl, refl)

    -- nothing stands against the claims
    pub against_nothing : is_known table line.territory ≡ true → nat_le (total_of (claims_by table registered line lines)) MOST_CLAIMED ≡ true
        → (reason_against table registered line ≡ None) × (claims_on table registered line ≡ claims_by table registered line lines)
    against_nothing known within =
        let test : ltb MOST_CLAIMED (total_of (claims_by table registered line lines)) ≡ false = le-ltb MOST_CLAIMED _ (leb-true _ MOST_CLAIMED within) in
        rw (works, known, test) (refl, refl)
