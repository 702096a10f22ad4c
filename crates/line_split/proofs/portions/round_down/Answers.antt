use Rattle.std.proofs.Common.{◌≡◌, ◌<◌, ◌≤◌, ◌+◌, ◌-◌, ℕ, ℤ, unsigned_abs, w64, to_z, of_z, Bool, cond, leb, true, false, List, length, map, get_or, sum_by, take, sym, ap, ◌∙◌, arith}
use Rattle.std.proofs.lemmas.Int.{to_z-of_z}
use Rattle.std.proofs.lemmas.Bool.{le-leb, lt-leb}
use Rattle.std.proofs.lemmas.List.{length-map, length-take-le}
use Rattle.std.proofs.lemmas.List.Sums.{sum_by_more_le}
use Rattle.line_split.specs.declared.TheConstants.{MOST_CLAIMED, RESIDUE}
use Rattle.line_split.specs.declared.contender.Contender.{Contender}
use Rattle.line_split.specs.Claims.{base_of, counted_claims, participants_of, total_of}
use Rattle.line_split.specs.Contenders.{place_and_remainder, signed_quota}
use Rattle.line_split.specs.LargestRemainder.{contenders_of, quota_of}
use Rattle.line_split.proofs.ClaimLemmas.{claim_at, counted_by_limit, length-participants, residue_at}
use Rattle.line_split.proofs.Division.{AreEntered, all_contend, all_quotas, all_taken, fits_left, length-contenders, one_more}
use Rattle.line_split.proofs.Fair.{base_positive, shares_are_base}
use Rattle.line_split.proofs.Places.{sum_by_number}
use Rattle.line_split.proofs.portions.round_down.Goals as goal
use Rattle.line_split.proofs.portions.round_down.Goals.{then-counts, else-counts, then-counts-2, else-counts-2}

pub loop-claim-init : goal.loop-claim-init
loop-claim-init c =
    let counted : c.if-counts.counted ≡ total_of (counted_claims c.args.claims.now) = elim c.if-counts.branch [
      | then-counts w ↦
          let counts : leb c.total-claimed.result MOST_CLAIMED ≡ true = le-leb _ _ w.if-counts.true in
          w.counted-is ∙ sym (counted_by_limit c.args.claims.now c.total-claimed.result c.total-claimed.ensures ∙ ap (λ (b : Bool). cond b c.total-claimed.result 0) counts)
      | else-counts w ↦
          let not_all : leb c.total-claimed.result MOST_CLAIMED ≡ false = lt-leb _ _ w.if-counts.false in
          w.counted-is ∙ sym (counted_by_limit c.args.claims.now c.total-claimed.result c.total-claimed.ensures ∙ ap (λ (b : Bool). cond b c.total-claimed.result 0) not_all)
    ] in
    record {
      counted = counted;
      base = c.max-base.ensures ∙ omega (arith, counted);
      quotas = c.clear.ensures.items;
      contenders = ap (λ (l : List Contender). map place_and_remainder l) c.clear-2.ensures.items;
      left = omega (arith, c.unsigned_abs-left.ensures.value);
      room = c.clear.ensures.capacity;
      places = c.clear-2.ensures.capacity;
    }

-- all shares come to the base
whole : (base : ℕ) (claims : List (ℕ × ℕ)) → base ≡ base_of claims → sum_by (λ p. p.1) (participants_of claims) ≡ base
whole base claims base_is = sum_by_number (λ x. x) (participants_of claims) ∙ (shares_are_base claims ∙ sym base_is)

-- as many contenders as are entered
entered_count : (amount : ℤ) (base n : ℕ) (claims : List (ℕ × ℕ)) (contenders : List Contender) → n ≤ length claims + 1
    → map place_and_remainder contenders ≡ contenders_of (unsigned_abs amount) base (take n (participants_of claims)) → length contenders ≡ n
entered_count amount base n claims contenders le are =
    sym (length-map contenders place_and_remainder)
    ∙ (ap (λ (l : List (ℕ × ℕ)). length l) are
    ∙ (length-contenders (unsigned_abs amount) base (take n (participants_of claims))
    ∙ length-take-le n (participants_of claims) (omega (arith, length-participants claims))))

-- the participant of a claim: its share is the claim or nothing, as the test says
participant : (claims : List (ℕ × ℕ)) (i total share : ℕ) (counts : Bool) → i < length claims → total ≡ total_of claims → leb total MOST_CLAIMED ≡ counts
    → share ≡ cond counts (get_or claims i (0, 0)).1 0 → get_or (participants_of claims) i (0, 0) ≡ ((get_or claims i (0, 0)).0, share)
participant claims i total share counts lt total_is test share_is =
    claim_at claims i (0, 0) lt
    ∙ (ap (λ (t : ℕ). ((get_or claims i (0, 0)).0, cond (leb t MOST_CLAIMED) (get_or claims i (0, 0)).1 0)) (sym total_is)
    ∙ (ap (λ (b : Bool). ((get_or claims i (0, 0)).0, cond b (get_or claims i (0, 0)).1 0)) test
    ∙ ap (λ (s : ℕ). ((get_or claims i (0, 0)).0, s)) (sym share_is)))

pub enter-left-requires-clause-share : goal.enter-left-requires-clause-share
enter-left-requires-clause-share c =
    let here : get_or (participants_of c.args.claims.now) c.loop-claim.claim-index (0, 0) ≡ ((get_or c.args.claims.now c.loop-claim.claim-index (0, 0)).0, c.if-counts-2.share) = elim c.if-counts-2.branch [
      | then-counts-2 w ↦ participant c.args.claims.now c.loop-claim.claim-index c.total-claimed.result c.if-counts-2.share true c.loop-claim-test.true c.total-claimed.ensures (le-leb _ _ w.if-counts-2.true) w.share-is
      | else-counts-2 w ↦ participant c.args.claims.now c.loop-claim.claim-index c.total-claimed.result c.if-counts-2.share false c.loop-claim-test.true c.total-claimed.ensures (lt-leb _ _ w.if-counts-2.false) w.share-is
    ] in
    let part = sum_by_more_le (λ (p : ℕ × ℕ). p.1) (participants_of c.args.claims.now) c.loop-claim.claim-index (0, 0) (omega (arith, length-participants c.args.claims.now, c.loop-claim-test.true)) in
    omega (arith, part, ap (λ (p : ℕ × ℕ). p.1) here, whole c.max-base.result c.args.claims.now c.loop-claim.invariant.base)

pub enter-left-requires-clause-places : goal.enter-left-requires-clause-places
enter-left-requires-clause-places c =
    let many = entered_count (to_z w64 (of_z w64 c.args.amount)) c.max-base.result c.loop-claim.claim-index c.args.claims.now c.loop-claim.contenders.items (omega (arith, c.loop-claim-test.true)) c.loop-claim.invariant.contenders in
    omega (arith, many, c.loop-claim.contenders.ok.0, c.loop-claim.invariant.places, c.loop-claim-test.true, c.requires.places)

-- what is entered so far
so_far : (amount : ℤ) (base n : ℕ) (claims : List (ℕ × ℕ)) (list : List (ℕ × ℤ)) (contenders : List Contender) (left : ℕ)
    → list ≡ map (signed_quota amount base) (take n (participants_of claims)) → map place_and_remainder contenders ≡ contenders_of (unsigned_abs amount) base (take n (participants_of claims))
    → left + sum_by (λ p. quota_of (unsigned_abs amount) base p.1) (take n (participants_of claims)) ≡ unsigned_abs amount
    → AreEntered amount base n (participants_of claims) list (map place_and_remainder contenders) left
so_far amount base n claims list contenders left quotas contend rest = record { quotas = quotas; contend = contend; rest = rest }

-- the participant of the loop's claim
this_participant : (c : goal.After-enter-left) → get_or (participants_of c.args.claims.now) c.loop-claim.claim-index (0, 0) ≡ ((get_or c.args.claims.now c.loop-claim.claim-index (0, 0)).0, c.if-counts-2.share)
this_participant c = elim c.if-counts-2.branch [
  | then-counts-2 w ↦ participant c.args.claims.now c.loop-claim.claim-index c.total-claimed.result c.if-counts-2.share true c.loop-claim-test.true c.total-claimed.ensures (le-leb _ _ w.if-counts-2.true) w.share-is
  | else-counts-2 w ↦ participant c.args.claims.now c.loop-claim.claim-index c.total-claimed.result c.if-counts-2.share false c.loop-claim-test.true c.total-claimed.ensures (lt-leb _ _ w.if-counts-2.false) w.share-is
]

pub overflow_sub-left : goal.overflow_sub-left
overflow_sub-left c =
    let a = to_z w64 (of_z w64 c.args.amount) in
    fits_left a c.max-base.result c.loop-claim.claim-index (participants_of c.args.claims.now) _ c.loop-claim.list.items (map place_and_remainder c.loop-claim.contenders.items) c.loop-claim.left c.enter-left.result
    (omega (arith, base_positive c.args.claims.now, c.loop-claim.invariant.base)) (whole c.max-base.result c.args.claims.now c.loop-claim.invariant.base)
    (so_far a c.max-base.result c.loop-claim.claim-index c.args.claims.now c.loop-claim.list.items c.loop-claim.contenders.items c.loop-claim.left c.loop-claim.invariant.quotas c.loop-claim.invariant.contenders c.loop-claim.invariant.left)
    (omega (arith, length-participants c.args.claims.now, c.loop-claim-test.true)) (this_participant c) c.enter-left.ensures.size

pub loop-claim-preserved : goal.loop-claim-preserved
loop-claim-preserved c =
    let a = to_z w64 (of_z w64 c.args.amount) in
    let more = one_more a c.max-base.result c.loop-claim.claim-index (participants_of c.args.claims.now) _ c.loop-claim.list.items (map place_and_remainder c.loop-claim.contenders.items) c.loop-claim.left c.enter-left.result
    (omega (arith, base_positive c.args.claims.now, c.loop-claim.invariant.base)) (whole c.max-base.result c.args.claims.now c.loop-claim.invariant.base)
    (so_far a c.max-base.result c.loop-claim.claim-index c.args.claims.now c.loop-claim.list.items c.loop-claim.contenders.items c.loop-claim.left c.loop-claim.invariant.quotas c.loop-claim.invariant.contenders c.loop-claim.invariant.left)
    (omega (arith, length-participants c.args.claims.now, c.loop-claim-test.true)) (this_participant c) c.enter-left.ensures.size
    c.enter-left.new.list.items (map place_and_remainder c.enter-left.new.contenders.items) c.enter-left.ensures.quota c.enter-left.ensures.contends in
    record {
      counted = c.loop-claim.invariant.counted;
      base = c.loop-claim.invariant.base;
      quotas = more.quotas;
      contenders = more.contend;
      left = more.rest;
      room = c.enter-left.ensures.room ∙ c.loop-claim.invariant.room;
      places = c.enter-left.ensures.places ∙ c.loop-claim.invariant.places;
    }

pub enter-requires-clause-places : goal.enter-requires-clause-places
enter-requires-clause-places c =
    let many = entered_count (to_z w64 (of_z w64 c.args.amount)) c.max-base.result c.loop-claim.claim-index c.args.claims.now c.loop-claim.contenders.items (omega (arith, c.loop-claim.auto.claim-index-end)) c.loop-claim.invariant.contenders in
    omega (arith, many, c.loop-claim.contenders.ok.0, c.loop-claim.invariant.places, c.loop-claim.auto.claim-index-end, c.requires.places)

-- the participant after the claims is the residue
last_participant : (c : goal.After-enter) → get_or (participants_of c.args.claims.now) c.loop-claim.claim-index (0, 0) ≡ (RESIDUE, c.max-base.result - c.if-counts.counted)
last_participant c =
    let last : c.loop-claim.claim-index ≡ length c.args.claims.now = omega (arith, c.loop-claim-test.false, c.loop-claim.auto.claim-index-end) in
    ap (λ (n : ℕ). get_or (participants_of c.args.claims.now) n (0, 0)) last
    ∙ (residue_at c.args.claims.now (0, 0)
    ∙ ap (λ (share : ℕ). (RESIDUE, share)) (omega (arith, c.loop-claim.invariant.counted, c.loop-claim.invariant.base)))

pub overflow_sub-result : goal.overflow_sub-result
overflow_sub-result c =
    let a = to_z w64 (of_z w64 c.args.amount) in
    fits_left a c.max-base.result c.loop-claim.claim-index (participants_of c.args.claims.now) _ c.loop-claim.list.items (map place_and_remainder c.loop-claim.contenders.items) c.loop-claim.left c.enter.result
    (omega (arith, base_positive c.args.claims.now, c.loop-claim.invariant.base)) (whole c.max-base.result c.args.claims.now c.loop-claim.invariant.base)
    (so_far a c.max-base.result c.loop-claim.claim-index c.args.claims.now c.loop-claim.list.items c.loop-claim.contenders.items c.loop-claim.left c.loop-claim.invariant.quotas c.loop-claim.invariant.contenders c.loop-claim.invariant.left)
    (omega (arith, length-participants c.args.claims.now, c.loop-claim.auto.claim-index-end)) (last_participant c) c.enter.ensures.size

all_are : (c : goal.After-enter) → AreEntered (to_z w64 (of_z w64 c.args.amount)) c.max-base.result (c.loop-claim.claim-index + 1) (participants_of c.args.claims.now) c.enter.new.list.items (map place_and_remainder c.enter.new.contenders.items) (c.loop-claim.left - c.enter.result)
all_are c =
    let a = to_z w64 (of_z w64 c.args.amount) in
    one_more a c.max-base.result c.loop-claim.claim-index (participants_of c.args.claims.now) _ c.loop-claim.list.items (map place_and_remainder c.loop-claim.contenders.items) c.loop-claim.left c.enter.result
    (omega (arith, base_positive c.args.claims.now, c.loop-claim.invariant.base)) (whole c.max-base.result c.args.claims.now c.loop-claim.invariant.base)
    (so_far a c.max-base.result c.loop-claim.claim-index c.args.claims.now c.loop-claim.list.items c.loop-claim.contenders.items c.loop-claim.left c.loop-claim.invariant.quotas c.loop-claim.invariant.contenders c.loop-claim.invariant.left)
    (omega (arith, length-participants c.args.claims.now, c.loop-claim.auto.claim-index-end)) (last_participant c) c.enter.ensures.size
    c.enter.new.list.items (map place_and_remainder c.enter.new.contenders.items) c.enter.ensures.quota c.enter.ensures.contends

all_there : (c : goal.After-enter) → length (participants_of c.args.claims.now) ≤ c.loop-claim.claim-index + 1
all_there c = omega (arith, length-participants c.args.claims.now, c.loop-claim-test.false)

pub returns-clause-quotas : goal.returns-clause-quotas
returns-clause-quotas c = all_quotas _ _ _ _ _ _ _ _ _ (to_z-of_z w64 c.args.amount c.ranges.amount) c.loop-claim.invariant.base (all_there c) (all_are c)

pub returns-clause-contenders : goal.returns-clause-contenders
returns-clause-contenders c = all_contend _ _ _ _ _ _ _ _ _ (to_z-of_z w64 c.args.amount c.ranges.amount) c.loop-claim.invariant.base (all_there c) (all_are c)

pub returns-clause-left : goal.returns-clause-left
returns-clause-left c = all_taken _ _ _ _ _ _ _ _ _ (to_z-of_z w64 c.args.amount c.ranges.amount) c.loop-claim.invariant.base (all_there c) (all_are c)
