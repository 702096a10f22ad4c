-- How the share lines of a registration are put in order: in order of party, and those of a party from the last one back.
use Rattle.std.proofs.Common.{◌≡◌, ◌==◌, ◌∙◌, ◌++◌, inl, inr, ◌<◌, ◌≤◌, ◌+◌, ◌∷◌, [], ℕ, zero, suc, List, All, AllPairs, eqb, ltb, true, false, drop, length, map, get_or, not, ap, sym, refl, subst, arith, Bool, Option, Some, None}
use Rattle.std.specs.Prelude.{⊤, ◌&&◌, flat_map, if◌then◌else◌, reverse}
use Rattle.std.specs.Option.{option_eq}
use Rattle.std.specs.List.{HoldsAt}
use Rattle.std.specs.List.Sorted.{IsNonDecreasingBy}
use Rattle.std.proofs.lemmas.Bool.{cases_Bool, eq-eqb, le-ltb, lt-ltb, ne_eqb}
use Rattle.std.proofs.lemmas.Cmp.{nat_eq_equiv}
use Rattle.cwr_share.specs.ClaimsOn.{is_alike}
use Rattle.std.proofs.lemmas.List.{append_assoc, drop_more, get_or-map, map-append, reverse-append}
use Rattle.std.proofs.lemmas.List.Elements.{All-append, All-cons, All-head, All-nil, All-push, All-tail}
use Rattle.cwr_share.specs.Compiled.{AreInOrder, begins_interest, claim_line, claim_lines, in_order, IsCompiled, line_by, placed, rank_of, with_place}
use Rattle.cwr_share.specs.Registrations.{ShareLine}
use Rattle.cwr_share.specs.declared.claim_line.ClaimLine.{ClaimLine}
use Rattle.cwr_share.specs.declared.registration.Placed.{Placed}
use Rattle.cwr_share.specs.declared.share_line.RegisteredShare.{RegisteredShare}
use Rattle.cwr_share.proofs.ClaimLemmas.{claim_lines_more, claim_lines_none}
use Rattle.cwr_share.proofs.CompiledLemmas.{AllPairs-head, AllPairs-tail, Rising, each_with_place, place_goes}
use Rattle.line_split.proofs.ByAccount.{only_rising}
use Rattle.std.specs.List.{IsDistinct}
use Rattle.std.proofs.lemmas.List.Kept.{AllPairs-cons}
use Rattle.std.specs.List.Sorted.{IsPermutation, IsStrictlyIncreasing}
use Rattle.std.proofs.lemmas.List.{length-map}
use Rattle.std.proofs.lemmas.List.Quantifiers.{all_pairs_push}
use Rattle.std.proofs.lemmas.List.Sorted.{All-permutation, IsPermutation-cons, IsPermutation-map, IsPermutation-middle, IsPermutation-push_more, IsPermutation-refl, IsPermutation-sym, IsPermutation-trans}
use Rattle.std.proofs.lemmas.Map.Keys.{IsDistinct-IsPermutation, IsDistinct-from_apart, IsStrictlyIncreasing-from_distinct}

-- a place with its party
abbrev at_place : ℕ → ℕ → Placed
at_place party place = record { party = party; place = place }

-- the places of a claimant, with an earlier one, which comes last
placed_before : (party place : ℕ) (places : List ℕ) → placed (party, place ∷ places) ≡ placed (party, places) ++ at_place party place ∷ []
placed_before party place places =
    ap (map (at_place party)) (reverse-append (place ∷ []) places) ∙ map-append (at_place party) (reverse places) (place ∷ [])

-- and with a later one, which comes first
placed_after : (party place : ℕ) (places : List ℕ) → placed (party, places ++ place ∷ []) ≡ at_place party place ∷ placed (party, places)
placed_after party place places = ap (map (at_place party)) (reverse-append places (place ∷ []))

module _ (P : Placed → Type 0) where
  each_placed : (party : ℕ) (places : List ℕ) → All (λ place. P (at_place party place)) places → All P (placed (party, places))
  each_placed party [] all = All-nil P
  each_placed party (place ∷ places) all =
      rw (placed_before party place places)
      (All-push P (placed (party, places)) (at_place party place)
      (each_placed party places (All-tail (λ place. P (at_place party place)) place places all)) (all 0 place (omega arith)))

  -- what holds of the places of each claimant holds of each in order
  pub each_in_order : (claimants : List (ℕ × List ℕ)) → All (λ claimant. All (λ place. P (at_place claimant.0 place)) claimant.1) claimants → All P (in_order claimants)
  each_in_order [] all = All-nil P
  each_in_order (claimant ∷ later) all =
      All-append P (placed claimant) (in_order later) (each_placed claimant.0 claimant.1 (all 0 claimant (omega arith)))
      (each_in_order later (All-tail (λ (claimant : ℕ × List ℕ). All (λ place. P (at_place claimant.0 place)) claimant.1) claimant later all))

module _ (party place : ℕ) where
  -- a place put before the others that are of no lower party
  abbrev pub put : List Placed → List Placed
  put [] = at_place party place ∷ []
  put (entry ∷ order) = if ltb entry.party party then entry ∷ put order else at_place party place ∷ entry ∷ order

  put_front : (order : List Placed) → All (λ entry. party ≤ entry.party) order → put order ≡ at_place party place ∷ order
  put_front [] high = refl
  put_front (entry ∷ order) high = let this : ltb entry.party party ≡ false = le-ltb entry.party party (high 0 entry (omega arith)) in rw this refl

  put_behind : (front order : List Placed) → All (λ entry. entry.party < party) front → put (front ++ order) ≡ front ++ put order
  put_behind [] order low = refl
  put_behind (entry ∷ front) order low =
      let this : ltb entry.party party ≡ true = lt-ltb entry.party party (low 0 entry (omega arith)) in
      rw this (ap (λ (l : List Placed). entry ∷ l) (put_behind front order (All-tail (λ (entry : Placed). entry.party < party) entry front low)))

  -- it is the place of its claimant
  pub put_in_order : (claimants : List (ℕ × List ℕ)) → Rising claimants → put (in_order claimants) ≡ in_order (with_place party place claimants)
  put_in_order [] rising = refl
  put_in_order (claimant ∷ later) rising =
      let above : All (λ other. claimant.0 < other.0) later = AllPairs-head (λ claimant other. claimant.0 < other.0) claimant later rising in
      let high : party ≤ claimant.0 → All (λ entry. party ≤ entry.party) (in_order (claimant ∷ later)) =
      λ low. each_in_order (λ entry. party ≤ entry.party) (claimant ∷ later)
      (All-cons (λ (claimant : ℕ × List ℕ). All (λ place. party ≤ claimant.0) claimant.1) claimant later (λ k d within. low) (λ k d within i e inside. omega (arith, low, above k d within))) in
      elim (place_goes party place claimant later) [
        | inl (less, is) ↦ rw is (put_front (in_order (claimant ∷ later)) (high (omega (arith, less))))
        | inr (inl (equal, is)) ↦
            rw (is, placed_after party place claimant.1)
            (put_front (in_order (claimant ∷ later)) (high (omega (arith, equal)))
            ∙ ap (λ (a : ℕ). at_place party place ∷ (placed (a, claimant.1) ++ in_order later)) (sym equal))
        | inr (inr (more, is)) ↦
            rw is
            (put_behind (placed claimant) (in_order later) (each_placed (λ entry. entry.party < party) claimant.0 claimant.1 (λ k d within. more))
            ∙ ap (λ (l : List Placed). placed claimant ++ l) (put_in_order later (AllPairs-tail (λ claimant other. claimant.0 < other.0) claimant later rising)))
      ]

-- what came before is of a lower party
abbrev IsBelow : Option (ℕ × ℕ) → ℕ → Type 0
IsBelow None party = ⊤
IsBelow (Some before) party = before.0 < party

-- whether two share lines are of one party and interest
abbrev same_interest : ℕ × ℕ → ℕ × ℕ → Bool
same_interest line other = (line.0 == other.0) && (line.1 == other.1)

-- two lines without parties are alike where their interests are
alike_nameless : (line next : ShareLine) → line.party ≡ [] → next.party ≡ [] → is_alike line next ≡ (next.interest == line.interest)
alike_nameless line next none nothing =
    rw (none, nothing) (elim (cases_Bool (line.interest == next.interest)) [
      | inl same ↦ rw same (sym (sym (nat_eq_equiv.symm line.interest next.interest) ∙ same))
      | inr other ↦ rw other (sym (sym (nat_eq_equiv.symm line.interest next.interest) ∙ other))
    ])

-- The share lines at places in order, each under the account of its party, where the line before them is of this party and interest. Each one begins an interest unless the one before it is of the same.
module _ (account_of : ℕ → ℕ) (line_of : ℕ → ShareLine) where
  abbrev pub lines_in : Option (ℕ × ℕ) → List Placed → List ClaimLine
  lines_in before [] = []
  lines_in before (entry ∷ order) =
      claim_line (account_of entry.party) (not (option_eq same_interest before (Some (entry.party, (line_of entry.place).interest)))) (line_of entry.place)
      ∷ lines_in (Some (entry.party, (line_of entry.place).interest)) order

  -- the party and interest of the last of a claimant's lines, which is the first of the file
  abbrev last_of : ℕ → List ℕ → Option (ℕ × ℕ) → Option (ℕ × ℕ)
  last_of party [] before = before
  last_of party (place ∷ places) before = Some (party, (line_of place).interest)

  -- the lines have lost their parties
  module _ (nameless : (place : ℕ) → (line_of place).party ≡ []) where
    begins : (party place : ℕ) (places : List ℕ) (before : Option (ℕ × ℕ)) → IsBelow before party
        → not (option_eq same_interest (last_of party places before) (Some (party, (line_of place).interest))) ≡ begins_interest (line_of place) (map line_of places)
    begins party place [] None below = refl
    begins party place [] (Some before) below = let other : (before.0 == party) ≡ false = ne_eqb before.0 party (λ same. absurd (omega (arith, below, same))) in rw other refl
    begins party place (next ∷ places) before below =
        let same : (party == party) ≡ true = eq-eqb party party refl in
        rw same (ap not (sym (alike_nameless (line_of place) (line_of next) (nameless place) (nameless next))))

    lines_of_one : (party : ℕ) (places : List ℕ) (before : Option (ℕ × ℕ)) (rest : List Placed) → IsBelow before party
        → lines_in before (placed (party, places) ++ rest) ≡ claim_lines (account_of party) (map line_of places) ++ lines_in (last_of party places before) rest
    lines_of_one party [] before rest below = rw (claim_lines_none (account_of party)) refl
    lines_of_one party (place ∷ places) before rest below =
        let line = line_of place in
        let front = claim_lines (account_of party) (map line_of places) in
        let after = lines_in (Some (party, line.interest)) rest in
        let step : lines_in before ((placed (party, places) ++ at_place party place ∷ []) ++ rest)
        ≡ front ++ claim_line (account_of party) (not (option_eq same_interest (last_of party places before) (Some (party, line.interest)))) line ∷ after =
        ap (lines_in before) (append_assoc (placed (party, places)) (at_place party place ∷ []) rest) ∙ lines_of_one party places before (at_place party place ∷ rest) below in
        ap (λ (l : List Placed). lines_in before (l ++ rest)) (placed_before party place places)
        ∙ (step
        ∙ (ap (λ (b : Bool). front ++ claim_line (account_of party) b line ∷ after) (begins party place places before below)
        ∙ (sym (append_assoc front (claim_line (account_of party) (begins_interest line (map line_of places)) line ∷ []) after)
        ∙ ap (λ (l : List ClaimLine). l ++ after) (sym (claim_lines_more (account_of party) line (map line_of places))))))

    -- they are those of each claimant
    pub lines_of_all : (claimants : List (ℕ × List ℕ)) (before : Option (ℕ × ℕ)) → Rising claimants → All (λ claimant. IsBelow before claimant.0) claimants
        → lines_in before (in_order claimants) ≡ flat_map (λ claimant. claim_lines (account_of claimant.0) (map line_of claimant.1)) claimants
    lines_of_all [] before rising below = refl
    lines_of_all (claimant ∷ later) before rising below =
        lines_of_one claimant.0 claimant.1 before (in_order later) (below 0 claimant (omega arith))
        ∙ ap (λ (l : List ClaimLine). claim_lines (account_of claimant.0) (map line_of claimant.1) ++ l)
        (lines_of_all later (last_of claimant.0 claimant.1 before) (AllPairs-tail (λ claimant other. claimant.0 < other.0) claimant later rising) (still_below claimant.1))
      where
        still_below : (places : List ℕ) → All (λ other. IsBelow (last_of claimant.0 places before) other.0) later
        still_below [] = All-tail (λ (claimant : ℕ × List ℕ). IsBelow before claimant.0) claimant later below
        still_below (place ∷ places) = AllPairs-head (λ claimant other. claimant.0 < other.0) claimant later rising

-- the share line at a place
abbrev pub line_at : List ShareLine → ℕ → ShareLine
line_at lines place = get_or lines place (record { interest = 0; party = []; performing = 0; mechanical = 0; synchronisation = 0; includes = false; territory = 0 })

-- lines that have lost their parties have none at any place
pub nameless_at : (shares : List RegisteredShare) (place : ℕ) → (line_at (map (line_by []) shares) place).party ≡ []
nameless_at [] place = refl
nameless_at (share ∷ shares) zero = refl
nameless_at (share ∷ shares) (suc place) = nameless_at shares place

-- one line more is added in order
pub lines_next : (account_of : ℕ → ℕ) (shares : List RegisteredShare) (order : List Placed) (n : ℕ) (d : Placed) (share : RegisteredShare) (before : Option (ℕ × ℕ)) (lines : List ClaimLine)
    → n < length order → (get_or order n d).place < length shares → share ≡ get_or shares (get_or order n d).place share
    → HoldsAt (λ share. share.party ≡ (get_or order n d).party) shares (get_or order n d).place
    → (lines ++ claim_line (account_of share.party) (not (option_eq same_interest before (Some (share.party, share.interest)))) (line_by [] share) ∷ [])
    ++ lines_in account_of (line_at (map (line_by []) shares)) (Some (share.party, share.interest)) (drop (n + 1) order)
    ≡ lines ++ lines_in account_of (line_at (map (line_by []) shares)) before (drop n order)
lines_next account_of shares order n d share before lines within inside is own =
    let entry = get_or order n d in
    let line_of = line_at (map (line_by []) shares) in
    let rest = drop (n + 1) order in
    let whose : share.party ≡ entry.party = ap (λ (s : RegisteredShare). s.party) is ∙ own share in
    let line : line_by [] share ≡ line_of entry.place = ap (line_by []) is ∙ sym (get_or-map (line_by []) shares entry.place share _ inside) in
    let both : (share.party, line_by [] share) ≡ (entry.party, line_of entry.place) = cc (whose, line) in
    append_assoc lines (claim_line (account_of share.party) (not (option_eq same_interest before (Some (share.party, share.interest)))) (line_by [] share) ∷ [])
    (lines_in account_of line_of (Some (share.party, share.interest)) rest)
    ∙ ap (λ (l : List ClaimLine). lines ++ l)
    (ap (λ (p : ℕ × ShareLine). claim_line (account_of p.0) (not (option_eq same_interest before (Some (p.0, p.1.interest)))) p.1 ∷ lines_in account_of line_of (Some (p.0, p.1.interest)) rest) both
    ∙ ap (lines_in account_of line_of before) (sym (drop_more order n d within)))

-- ---- the order by numbers

abbrev Below : Placed → Placed → Type 0
Below entry later = rank_of entry < rank_of later

abbrev Few : Placed → Type 0
Few entry = entry.place < 4294967296

all_pairs_append : {X : Type 0} (R : X → X → Type 0) (xs ys : List X) → AllPairs R xs → AllPairs R ys → All (λ x. All (R x) ys) xs → AllPairs R (xs ++ ys)
all_pairs_append R [] ys first second cross = second
all_pairs_append R (x ∷ xs) ys first second cross =
    AllPairs-cons R x (xs ++ ys) (All-append (R x) xs ys (AllPairs-head R x xs first) (All-head (λ x. All (R x) ys) x xs cross))
    (all_pairs_append R xs ys (AllPairs-tail R x xs first) second (All-tail (λ x. All (R x) ys) x xs cross))

-- the lines of a claimant rise in number
claimant_ranks : (party : ℕ) (places : List ℕ) → AllPairs (λ place later. place < later) places → All (λ place. place < 4294967296) places → AllPairs Below (placed (party, places))
claimant_ranks party [] rise few = λ i j d before within. absurd (omega (arith, within))
claimant_ranks party (place ∷ places) rise few =
    let later = AllPairs-head (λ (place later : ℕ). place < later) place places rise in
    let first = All-head (λ (place : ℕ). place < 4294967296) place places few in
    let rest = All-tail (λ (place : ℕ). place < 4294967296) place places few in
    let above : All (λ entry. Below entry (at_place party place)) (placed (party, places)) =
    each_placed (λ entry. Below entry (at_place party place)) party places (λ i d inside. omega (arith, later i d inside, rest i d inside, first)) in
    subst (AllPairs Below) (sym (placed_before party place places))
    (all_pairs_push Below (placed (party, places)) (at_place party place) (claimant_ranks party places (AllPairs-tail (λ (place later : ℕ). place < later) place places rise) rest) above)

-- and so do those of all claimants
ranks_rise : (claimants : List (ℕ × List ℕ)) → Rising claimants → All (λ claimant. AllPairs (λ place later. place < later) claimant.1) claimants
    → All (λ claimant. All (λ place. place < 4294967296) claimant.1) claimants → AllPairs Below (in_order claimants)
ranks_rise [] rising places few = λ i j d before within. absurd (omega (arith, within))
ranks_rise (claimant ∷ later) rising places few =
    let above = AllPairs-head (λ claimant other. claimant.0 < other.0) claimant later rising in
    let own = All-head (λ (claimant : ℕ × List ℕ). All (λ place. place < 4294967296) claimant.1) claimant later few in
    let others = All-tail (λ (claimant : ℕ × List ℕ). All (λ place. place < 4294967296) claimant.1) claimant later few in
    all_pairs_append Below (placed claimant) (in_order later)
    (claimant_ranks claimant.0 claimant.1 (All-head (λ (claimant : ℕ × List ℕ). AllPairs (λ place later. place < later) claimant.1) claimant later places) own)
    (ranks_rise later (AllPairs-tail (λ claimant other. claimant.0 < other.0) claimant later rising)
    (All-tail (λ (claimant : ℕ × List ℕ). AllPairs (λ place later. place < later) claimant.1) claimant later places) others)
    (each_placed (λ entry. All (Below entry) (in_order later)) claimant.0 claimant.1
    (λ i d inside. each_in_order (Below (at_place claimant.0 (get_or claimant.1 i d))) later
    (λ k e within j q low. omega (arith, above k e within, own i d inside, others k e within j q low))))

each_few : (claimants : List (ℕ × List ℕ)) → All (λ claimant. All (λ place. place < 4294967296) claimant.1) claimants → All Few (in_order claimants)
each_few claimants few = each_in_order Few claimants few

-- lines are the same where their numbers are
one_line : (x y : Placed) → Few x → Few y → rank_of x ≡ rank_of y → x ≡ y
one_line x y few_x few_y same =
    let party : x.party ≡ y.party = omega (arith, few_x, few_y, same) in
    let place : x.place ≡ y.place = omega (arith, few_x, few_y, same) in
    rw (party, place) refl

abbrev ranked : Placed → ℕ × ℕ
ranked entry = (rank_of entry, 0)

from_ranks : (xs ys : List Placed) → All Few xs → All Few ys → map ranked xs ≡ map ranked ys → xs ≡ ys
from_ranks [] [] few_xs few_ys same = refl
from_ranks [] (y ∷ ys) few_xs few_ys same = cc same
from_ranks (x ∷ xs) [] few_xs few_ys same = cc same
from_ranks (x ∷ xs) (y ∷ ys) few_xs few_ys same =
    let first : rank_of x ≡ rank_of y = ap (λ (l : List (ℕ × ℕ)). (get_or l 0 (0, 0)).0) same in
    let rest : map ranked xs ≡ map ranked ys = ap (drop 1) same in
    let one = one_line x y (All-head Few x xs few_xs) (All-head Few y ys few_ys) first in
    let others = from_ranks xs ys (All-tail Few x xs few_xs) (All-tail Few y ys few_ys) rest in
    rw (one, others) refl

first_ranks : (xs : List Placed) → map (λ (pair : ℕ × ℕ). pair.0) (map ranked xs) ≡ map rank_of xs
first_ranks [] = refl
first_ranks (x ∷ xs) = ap (λ (l : List ℕ). rank_of x ∷ l) (first_ranks xs)

module _ (ys : List Placed) (rise : AllPairs Below ys) where
  some_placed : Placed
  some_placed = record { party = 0; place = 0 }

  increasing : IsStrictlyIncreasing (map rank_of ys)
  increasing k lt =
      let low : k + 1 < length ys = omega (arith, lt, length-map ys rank_of) in
      rw (get_or-map rank_of ys k some_placed 0 (omega (arith, low)), get_or-map rank_of ys (k + 1) some_placed 0 low) (rise k (k + 1) some_placed (omega arith) low)

  differing : IsDistinct eqb (map rank_of ys)
  differing = IsDistinct-from_apart eqb (map rank_of ys) (λ i j d lt small.
      let in_list : j < length ys = omega (arith, small, length-map ys rank_of) in
      ne_eqb _ _ (λ same.
      let less = rise i j some_placed lt in_list in
      let equal : rank_of (get_or ys i some_placed) ≡ rank_of (get_or ys j some_placed) =
      sym (get_or-map rank_of ys i some_placed d (omega (arith, lt, in_list))) ∙ (same ∙ get_or-map rank_of ys j some_placed d in_list) in
      absurd (omega (arith, less, equal))))

-- lines that are sorted by their numbers are those that rise, where the two have the same lines
only_order : (xs ys : List Placed) → IsPermutation xs ys → IsNonDecreasingBy rank_of xs → AllPairs Below ys → All Few ys → xs ≡ ys
only_order xs ys moved up rise few =
    let back = IsPermutation-sym xs ys moved in
    let distinct = IsDistinct-IsPermutation eqb nat_eq_equiv.symm (map rank_of ys) (map rank_of xs) (IsPermutation-map rank_of ys xs back) (differing ys rise) in
    let climbs : IsStrictlyIncreasing (map rank_of xs) = IsStrictlyIncreasing-from_distinct (map rank_of xs)
    (λ i j d le lt.
    let in_list : j < length xs = omega (arith, lt, length-map xs rank_of) in
    rw (get_or-map rank_of xs i some_line d (omega (arith, le, in_list)), get_or-map rank_of xs j some_line d in_list) (up i j some_line le in_list)) distinct in
    from_ranks xs ys (All-permutation Few ys xs back few) few
    (only_rising (map ranked xs) (map ranked ys) (IsPermutation-map ranked xs ys moved)
    (subst IsStrictlyIncreasing (sym (first_ranks xs)) climbs) (subst IsStrictlyIncreasing (sym (first_ranks ys)) (increasing ys rise)))
  where
    some_line : Placed
    some_line = record { party = 0; place = 0 }

pub sorted_in_order : (claimants : List (ℕ × List ℕ)) (old new : List Placed) → AreInOrder claimants → IsPermutation old (in_order claimants) → IsPermutation old new
    → IsNonDecreasingBy rank_of new → new ≡ in_order claimants
sorted_in_order claimants old new are all moved up =
    only_order new (in_order claimants) (IsPermutation-trans new old (in_order claimants) (IsPermutation-sym old new moved) all) up
    (ranks_rise claimants are.rising are.places are.few) (each_few claimants are.few)

-- ---- one line more

put_shuffles : (party place : ℕ) (order : List Placed) → IsPermutation (at_place party place ∷ order) (put party place order)
put_shuffles party place [] = IsPermutation-refl (at_place party place ∷ [])
put_shuffles party place (entry ∷ order) = elim (cases_Bool (ltb entry.party party)) [
  | inl low ↦
      rw low
      (IsPermutation-trans (at_place party place ∷ entry ∷ order) (entry ∷ at_place party place ∷ order) (entry ∷ put party place order)
      (IsPermutation-sym (entry ∷ at_place party place ∷ order) (at_place party place ∷ entry ∷ order) (IsPermutation-middle (entry ∷ []) (at_place party place) order))
      (IsPermutation-cons entry (at_place party place ∷ order) (put party place order) (put_shuffles party place order)))
  | inr high ↦ rw high (IsPermutation-refl (at_place party place ∷ entry ∷ order))
]

pub moved_more : (party place : ℕ) (claimants : List (ℕ × List ℕ)) (order : List Placed) → Rising claimants → IsPermutation order (in_order claimants)
    → IsPermutation (order ++ at_place party place ∷ []) (in_order (with_place party place claimants))
moved_more party place claimants order rising moved =
    IsPermutation-push_more order (in_order claimants) (in_order (with_place party place claimants)) (at_place party place) moved
    (subst (IsPermutation (at_place party place ∷ in_order claimants)) (put_in_order party place claimants rising) (put_shuffles party place (in_order claimants)))

pub places_more : (party place : ℕ) (claimants : List (ℕ × List ℕ)) → Rising claimants → All (λ claimant. AllPairs (λ place later. place < later) claimant.1) claimants
    → All (λ claimant. All (λ other. other < place) claimant.1) claimants → All (λ claimant. AllPairs (λ place later. place < later) claimant.1) (with_place party place claimants)
places_more party place claimants rising places below =
    each_with_place party place (λ claimant. AllPairs (λ place later. place < later) claimant.1)
    (λ claimant. AllPairs (λ place later. place < later) claimant.1 × All (λ other. other < place) claimant.1)
    (λ claimant both apart. both.0)
    (λ claimant both equal. all_pairs_push (λ (place later : ℕ). place < later) claimant.1 place both.0 both.1)
    claimants (λ apart. λ i j d before within. absurd (omega (arith, before, within))) rising (λ k d within. (places k d within, below k d within))

-- Share lines are compiled, and these are their places, in any order.
pub record IsGathered (parties : List (List ℕ)) (lines : List ShareLine) (order : List Placed) : Type 0 where
  pub claimants : List (ℕ × List ℕ)
  pub compiled : IsCompiled parties lines claimants
  pub places : All (λ claimant. AllPairs (λ place later. place < later) claimant.1) claimants
  pub moved : IsPermutation order (in_order claimants)
