-- The steps of the division: contenders in a row, their order, and what the units are given to.
use Rattle.std.proofs.Common.{◌≡◌, ℕ, ℤ, unsigned_abs, ◌+◌, ◌-◌, ◌<◌, ◌≤◌, inl, inr, Bool, true, false, cond, eqb, ltb, List, [], ◌∷◌, ◌++◌, All, length, map, get_or, take, sum_by, count_by, refl, sym, ap, ◌∙◌, subst, arith, zero-add}
use Rattle.std.specs.List.{enumerate_from}
use Rattle.std.specs.Ordering.{is_lt, nat_cmp}
use Rattle.std.specs.List.Sorted.{IsPermutation, IsSortedBy}
use Rattle.std.specs.Cmp.{IsStrictWeakOrder}
use Rattle.std.proofs.lemmas.Bool.{cases_lt, eq-eqb, ne_eqb, lt-ltb, le-ltb}
use Rattle.std.proofs.lemmas.Bool.Decides.{nat_tests}
use Rattle.std.proofs.lemmas.Cmp.{nat_cmp_total, nat_eq_equiv, on_total, back_total}
use Rattle.std.proofs.lemmas.List.Sorted.{ranks_by, sorted_far, All-permutation, IsPermutation-map, sum_by-IsPermutation}
use Rattle.std.proofs.lemmas.Map.Keys.{IsDistinct-from_apart, IsDistinct-IsPermutation, apart_from_distinct}
use Rattle.std.proofs.lemmas.List.{length-map, map_more, length-take-le, get_or_default, get_or-map, get_or-take, same_lists, take_all}
use Rattle.std.proofs.lemmas.List.FromFn.{length-enumerate_from}
use Rattle.std.proofs.lemmas.List.Sums.{sum_by_more, sum_by_more_le}
use Rattle.line_split.specs.declared.contender.Contender.{Contender}
use Rattle.line_split.specs.LargestRemainder.{quota_of, remainder_of, comes_before, contenders_of, units_left, rank_of, portions_among}
use Rattle.line_split.specs.Claims.{base_of, participants_of}
use Rattle.line_split.specs.Contenders.{place_and_remainder, place_of, signed_quota, with_unit}
use Rattle.line_split.specs.FairSplit.{value_at}
use Rattle.line_split.specs.Signs.{signed_entry, signed_portions_of, with_sign_of}
use Rattle.line_split.proofs.Enumerated.{enumerate_from_push}
use Rattle.line_split.proofs.SumBelow.{sum_below, bit, same_sums, sum_below-part, sum_below-front, sum_below-only, sum_below-constant, sum_by-places, sum_by-map}
use Rattle.line_split.proofs.Ranks.{rank}
use Rattle.line_split.proofs.Quotas.{left, remainders, quotas_fit, left_small}
use Rattle.line_split.proofs.Places.{number_at_is, sum_by_number, units_left_is, contender_at, rank_is, length-portions, portion_at}
use Rattle.line_split.proofs.ClaimLemmas.{length-participants}
use Rattle.line_split.proofs.Fair.{base_positive, shares_are_base, some_place}
use Rattle.line_split.proofs.Signs.{sign_adds, size_of_signed}

-- one more contender
pub contenders_more : (amount base : ℕ) (ps : List (ℕ × ℕ)) (i : ℕ) (d : ℕ × ℕ) → i < length ps
    → contenders_of amount base (take (i + 1) ps) ≡ contenders_of amount base (take i ps) ++ (i, remainder_of amount base (get_or ps i d).1) ∷ []
contenders_more amount base ps i d lt =
    ap (λ (rs : List ℕ). enumerate_from 0 rs) (map_more (λ p. remainder_of amount base p.1) ps i d lt)
    ∙ (enumerate_from_push 0 (map (λ p. remainder_of amount base p.1) (take i ps)) (remainder_of amount base (get_or ps i d).1)
    ∙ ap (λ (k : ℕ). contenders_of amount base (take i ps) ++ (k, remainder_of amount base (get_or ps i d).1) ∷ [])
    (zero-add _ ∙ (length-map (take i ps) (λ p. remainder_of amount base p.1) ∙ length-take-le i ps (omega arith))))

pub length-contenders : (amount base : ℕ) (ps : List (ℕ × ℕ)) → length (contenders_of amount base ps) ≡ length ps
length-contenders amount base ps = length-enumerate_from 0 _ ∙ length-map ps (λ p. remainder_of amount base p.1)

-- the quotas of some participants and of one more fit the amount
pub quota_fits : (amount base : ℕ) (ps : List (ℕ × ℕ)) → 0 < base → sum_by (λ p. p.1) ps ≡ base → (i : ℕ) (d : ℕ × ℕ) → i < length ps
    → sum_by (λ p. quota_of amount base p.1) (take i ps) + quota_of amount base (get_or ps i d).1 ≤ amount
quota_fits amount base ps some whole i d lt =
    let all = quotas_fit (length ps) amount base (value_at ps) some (sym (sum_by_number (λ x. x) ps) ∙ whole) in
    let part = sum_by_more_le (λ p. quota_of amount base p.1) ps i d lt in
    omega (arith, all, part, sum_by_number (quota_of amount base) ps)

-- the first n participants are entered: each with its quota and as a contender, and the quotas taken from the amount's size
pub record AreEntered (amount : ℤ) (base n : ℕ) (ps : List (ℕ × ℕ)) (list : List (ℕ × ℤ)) (contenders : List (ℕ × ℕ)) (left : ℕ) : Type 0 where
  pub quotas : list ≡ map (signed_quota amount base) (take n ps)
  pub contend : contenders ≡ contenders_of (unsigned_abs amount) base (take n ps)
  pub rest : left + sum_by (λ p. quota_of (unsigned_abs amount) base p.1) (take n ps) ≡ unsigned_abs amount

-- One more participant is entered: its quota fits what is left.
module _ (amount : ℤ) (base n : ℕ) (ps : List (ℕ × ℕ)) (p : ℕ × ℕ) (list : List (ℕ × ℤ)) (contenders : List (ℕ × ℕ)) (units quota : ℕ)
    (some : 0 < base) (whole : sum_by (λ p. p.1) ps ≡ base) (entered : AreEntered amount base n ps list contenders units)
    (lt : n < length ps) (here : get_or ps n (0, 0) ≡ p) (quota_is : quota ≡ quota_of (unsigned_abs amount) base p.1) where
  own : quota ≡ quota_of (unsigned_abs amount) base (get_or ps n (0, 0)).1
  own = quota_is ∙ ap (λ (p : ℕ × ℕ). quota_of (unsigned_abs amount) base p.1) (sym here)

  pub fits_left : quota ≤ units
  fits_left = omega (arith, quota_fits (unsigned_abs amount) base ps some whole n (0, 0) lt, entered.rest, own)

  pub one_more : (list_new : List (ℕ × ℤ)) (contenders_new : List (ℕ × ℕ)) → list_new ≡ list ++ signed_quota amount base p ∷ []
      → contenders_new ≡ contenders ++ (length list, remainder_of (unsigned_abs amount) base p.1) ∷ []
      → AreEntered amount base (n + 1) ps list_new contenders_new (units - quota)
  one_more list_new contenders_new list_is contenders_is = record {
    quotas = list_is
        ∙ (ap (λ (l : List (ℕ × ℤ)). l ++ signed_quota amount base p ∷ []) entered.quotas
        ∙ (ap (λ (q : ℕ × ℕ). map (signed_quota amount base) (take n ps) ++ signed_quota amount base q ∷ []) (sym here)
        ∙ sym (map_more (signed_quota amount base) ps n (0, 0) lt)));
    contend = contenders_is
        ∙ (ap (λ (l : List (ℕ × ℕ)). l ++ (length list, remainder_of (unsigned_abs amount) base p.1) ∷ []) entered.contend
        ∙ (ap (λ (q : ℕ × ℕ). contenders_of (unsigned_abs amount) base (take n ps) ++ (q.0, remainder_of (unsigned_abs amount) base q.1) ∷ []) place
        ∙ sym (contenders_more (unsigned_abs amount) base ps n (0, 0) lt)));
    rest = omega (arith, fits_left, sum_by_more (λ p. quota_of (unsigned_abs amount) base p.1) ps n (0, 0) lt, entered.rest, own);
  }
    where
      many : length list ≡ n
      many = ap (λ (l : List (ℕ × ℤ)). length l) entered.quotas ∙ (length-map (take n ps) (signed_quota amount base) ∙ length-take-le n ps (omega arith))

      place : ◌≡◌ {A = ℕ × ℕ} (length list, p.1) (n, (get_or ps n (0, 0)).1)
      place = ap (λ (k : ℕ). (k, p.1)) many ∙ ap (λ (q : ℕ × ℕ). (n, q.1)) (sym here)

-- all participants are entered
module _ (a amount : ℤ) (b base n : ℕ) (ps : List (ℕ × ℕ)) (list : List (ℕ × ℤ)) (contenders : List (ℕ × ℕ)) (left : ℕ)
    (same : a ≡ amount) (base_is : b ≡ base) (all : length ps ≤ n) (entered : AreEntered a b n ps list contenders left) where
  pub all_quotas : list ≡ map (signed_quota amount base) ps
  all_quotas = entered.quotas ∙ (λ i. map (signed_quota (same i) (base_is i)) (take_all n ps all i))

  pub all_contend : contenders ≡ contenders_of (unsigned_abs amount) base ps
  all_contend = entered.contend ∙ (λ i. contenders_of (unsigned_abs (same i)) (base_is i) (take_all n ps all i))

  pub all_taken : left ≡ units_left (unsigned_abs amount) base ps
  all_taken =
      let quotas : sum_by (λ p. quota_of (unsigned_abs a) b p.1) (take n ps) ≡ sum_by (λ p. quota_of (unsigned_abs amount) base p.1) ps = λ i. sum_by (λ p. quota_of (unsigned_abs (same i)) (base_is i) p.1) (take_all n ps all i) in
      omega (arith, quotas, entered.rest, ap unsigned_abs same)

-- the order that the sort goes by
abbrev pub contender_lt : Contender → Contender → Bool
contender_lt a b = is_lt (nat_cmp b.precedence.0 a.precedence.0)

contender_lt_order : IsStrictWeakOrder contender_lt
contender_lt_order = ranks_by (on_total (λ (t : Contender). t.precedence.0) (back_total nat_cmp_total)) (λ t. t)

-- the order of contenders is that of the definition
same_order : (a b : Contender) → contender_lt a b ≡ comes_before (place_and_remainder a) (place_and_remainder b)
same_order a b = grind (arith, nat_tests)

-- of two places, the one that the other does not come before comes before it
one_first : (a b : ℕ × ℕ) → comes_before b a ≡ false → eqb a.0 b.0 ≡ false → comes_before a b ≡ true
one_first a b h other = grind (arith, nat_tests)

-- Contenders that each have their own place, and the same contenders in order.
module _ (contenders sorted : List Contender) (d : Contender) (moved : IsPermutation contenders sorted) (up : IsSortedBy contender_lt sorted)
    (places : (k : ℕ) → k < length contenders → place_of (get_or contenders k d) ≡ k) where
  abbrev place_at : List Contender → ℕ → ℕ
  place_at list k = place_of (get_or list k d)

  apart : (j k e : ℕ) → j < k → k < length sorted → eqb (place_at sorted j) (place_at sorted k) ≡ false
  apart j k e less lt =
      let distinct = IsDistinct-IsPermutation eqb nat_eq_equiv.symm (map (λ t. place_of t) contenders) (map (λ t. place_of t) sorted)
      (IsPermutation-map (λ t. place_of t) contenders sorted moved) (IsDistinct-from_apart eqb (map (λ t. place_of t) contenders) (λ i m e low small.
      let in_list : m < length contenders = rw (length-map contenders (λ t. place_of t)) at small in
      ne_eqb _ _ (λ same. absurd (omega (arith, same, get_or-map (λ t. place_of t) contenders i d e (omega arith), get_or-map (λ t. place_of t) contenders m d e in_list, places i (omega arith), places m in_list))))) in
      let other = apart_from_distinct {K = ℕ} eqb (map (λ t. place_of t) sorted) j k e distinct less (rw (length-map sorted (λ t. place_of t)) lt) in
      rw (get_or-map (λ t. place_of t) sorted j d e (omega arith), get_or-map (λ t. place_of t) sorted k d e lt) at other

  -- each of the first contenders in order has the place of a contender
  pub served_place : (left i : ℕ) → left ≤ length sorted → i < length (take left sorted) → place_of (get_or (take left sorted) i d) < length contenders
  served_place left i le lt =
      let early : i < left = omega (arith, lt, length-take-le left sorted le) in
      let below = All-permutation (λ t. place_of t < length contenders) contenders sorted moved
      (λ k e small. rw (get_or_default contenders k e d small) (omega (arith, places k small))) i d (omega (arith, early, le)) in
      rw (get_or-take left sorted i d early) below

  -- of the contenders in order, an earlier one comes before a later one
  in_order : (j k : ℕ) → j < length sorted → k < length sorted → comes_before (place_and_remainder (get_or sorted j d)) (place_and_remainder (get_or sorted k d)) ≡ ltb j k
  in_order j k jn kn = elim (cases_lt j k) [
    | inl less ↦
        one_first (place_and_remainder (get_or sorted j d)) (place_and_remainder (get_or sorted k d))
        (sym (same_order (get_or sorted k d) (get_or sorted j d)) ∙ sorted_far contender_lt contender_lt_order sorted up j k d (omega arith) kn)
        (apart j k 0 less kn)
        ∙ sym (lt-ltb j k less)
    | inr more ↦
        sym (same_order (get_or sorted j d) (get_or sorted k d))
        ∙ (sorted_far contender_lt contender_lt_order sorted up k j d more jn ∙ sym (le-ltb j k more))
  ]

  -- so a contender's rank is its place in order
  rank_in_order : (k : ℕ) → k < length sorted → rank_of (map place_and_remainder contenders) (place_and_remainder (get_or sorted k d)) ≡ k
  rank_in_order k lt =
      sum_by-map (λ other. bit (comes_before other (place_and_remainder (get_or sorted k d)))) place_and_remainder contenders
      ∙ (sym (sum_by-IsPermutation (λ t. bit (comes_before (place_and_remainder t) (place_and_remainder (get_or sorted k d)))) contenders sorted moved)
      ∙ (sum_by-places (λ t. bit (comes_before (place_and_remainder t) (place_and_remainder (get_or sorted k d)))) sorted d
      ∙ (same_sums (length sorted) (λ j. bit (comes_before (place_and_remainder (get_or sorted j d)) (place_and_remainder (get_or sorted k d)))) (λ j. bit (ltb j k))
      (λ j jn. ap bit (in_order j k jn lt))
      ∙ (sum_below-front (length sorted) k (λ _. 1) (omega arith) ∙ (sum_below-constant k 1 ∙ omega arith)))))

  -- 1 for the contender of a place, if its rank is below the number of units
  abbrev unit_of : (left i : ℕ) → Contender → ℕ
  unit_of left i contender = cond (eqb (place_of contender) i) (bit (ltb (rank_of (map place_and_remainder contenders) (place_and_remainder contender)) left)) 0

  -- Among the first contenders in order there is that of a place where its rank is small, and it is there once.
  pub served_once : (left i : ℕ) → left ≤ length sorted → i < length contenders
      → count_by (λ t. eqb (place_of t) i) (take left sorted) ≡ bit (ltb (rank_of (map place_and_remainder contenders) (place_and_remainder (get_or contenders i d))) left)
  served_once left i le lt = among_first ∙ (sym among_all ∙ (sum_by-IsPermutation (unit_of left i) contenders sorted moved ∙ among_contenders))
    where
      among_first : count_by (λ t. eqb (place_of t) i) (take left sorted) ≡ sum_below left (λ k. bit (eqb (place_at sorted k) i))
      among_first =
          sum_by-places (λ t. bit (eqb (place_of t) i)) (take left sorted) d
          ∙ (ap (λ (n : ℕ). sum_below n (λ k. bit (eqb (place_at (take left sorted) k) i))) (length-take-le left sorted le)
          ∙ same_sums left (λ k. bit (eqb (place_at (take left sorted) k) i)) (λ k. bit (eqb (place_at sorted k) i))
          (λ k small. ap (λ (t : Contender). bit (eqb (place_of t) i)) (get_or-take left sorted k d small)))

      turned : (b c : Bool) → cond b (bit c) 0 ≡ cond c (bit b) 0
      turned true true = refl
      turned true false = refl
      turned false true = refl
      turned false false = refl

      among_all : sum_by (unit_of left i) sorted ≡ sum_below left (λ k. bit (eqb (place_at sorted k) i))
      among_all =
          sum_by-places (unit_of left i) sorted d
          ∙ (same_sums (length sorted) (λ k. unit_of left i (get_or sorted k d)) (λ k. cond (ltb k left) (bit (eqb (place_at sorted k) i)) 0)
          (λ k small. ap (λ (r : ℕ). cond (eqb (place_at sorted k) i) (bit (ltb r left)) 0) (rank_in_order k small)
          ∙ turned (eqb (place_at sorted k) i) (ltb k left))
          ∙ sum_below-front (length sorted) left (λ k. bit (eqb (place_at sorted k) i)) le)

      at_place : (k : ℕ) → k < length contenders → (b : Bool) → eqb k i ≡ b
          → unit_of left i (get_or contenders k d) ≡ cond b (bit (ltb (rank_of (map place_and_remainder contenders) (place_and_remainder (get_or contenders k d))) left)) 0
      at_place k small b is =
          ap (λ (c : Bool). cond c (bit (ltb (rank_of (map place_and_remainder contenders) (place_and_remainder (get_or contenders k d))) left)) 0)
          (ap (λ (p : ℕ). eqb p i) (places k small) ∙ is)

      among_contenders : sum_by (unit_of left i) contenders ≡ bit (ltb (rank_of (map place_and_remainder contenders) (place_and_remainder (get_or contenders i d))) left)
      among_contenders =
          sum_by-places (unit_of left i) contenders d
          ∙ (sum_below-only (length contenders) i (λ k. unit_of left i (get_or contenders k d)) lt (λ k small other. at_place k small false (ne_eqb k i other))
          ∙ at_place i lt true (eq-eqb i i refl))

-- Fewer units are left than there are participants.
pub units_fit : (amount base left : ℕ) (claims ps : List (ℕ × ℕ)) → base ≡ base_of claims → ps ≡ participants_of claims
    → left ≡ units_left amount base ps → left < length ps
units_fit amount base left claims ps base_is ps_is left_is =
    subst (λ (x : ℕ). x < length ps) (sym left_is)
    (subst (λ (l : List (ℕ × ℕ)). units_left amount base l < length l) (sym ps_is)
    (subst (λ (b : ℕ). units_left amount b (participants_of claims) < length (participants_of claims)) (sym base_is)
    (rw (units_left_is amount (base_of claims) (participants_of claims)) (left_small (length (participants_of claims)) amount (base_of claims) (value_at (participants_of claims)) (base_positive claims) (shares_are_base claims) (some_place claims)))))

-- A quota and all units left come to no more than the amount.
pub small_portions : (amount : ℤ) (base units : ℕ) (claims ps : List (ℕ × ℕ)) (quotas : List (ℕ × ℤ))
    → base ≡ base_of claims → ps ≡ participants_of claims → quotas ≡ map (signed_quota amount base) ps
    → units ≡ units_left (unsigned_abs amount) base ps → All (λ portion. unsigned_abs portion.1 + units ≤ unsigned_abs amount) quotas
small_portions amount base units claims ps quotas base_is ps_is quotas_are units_are k d lt =
    let many : length quotas ≡ length ps =
    ap (λ (l : List (ℕ × ℤ)). length l) quotas_are ∙ length-map ps (signed_quota amount base) in
    let in_list : k < length ps = omega (arith, lt, many) in
    let whole : sum_below (length ps) (value_at ps) ≡ base =
    ap (λ (l : List (ℕ × ℕ)). sum_below (length l) (value_at l)) ps_is ∙ (shares_are_base claims ∙ sym base_is) in
    let all = quotas_fit (length ps) (unsigned_abs amount) base (value_at ps) (omega (arith, base_positive claims, base_is)) whole in
    let part = sum_by_more_le (λ p. quota_of (unsigned_abs amount) base p.1) ps k (0, 0) in_list in
    let here : unsigned_abs (get_or quotas k d).1 ≡ quota_of (unsigned_abs amount) base (get_or ps k (0, 0)).1 =
    ap (λ (l : List (ℕ × ℤ)). unsigned_abs (get_or l k d).1) quotas_are
    ∙ (ap (λ (p : ℕ × ℤ). unsigned_abs p.1) (get_or-map (signed_quota amount base) ps k (0, 0) d in_list)
    ∙ size_of_signed amount (quota_of (unsigned_abs amount) base (get_or ps k (0, 0)).1)) in
    omega (arith, here, all, part, sum_by_number (quota_of (unsigned_abs amount) base) ps, units_are)

-- What giving the units comes to at a place is the portion there.
module _ (amount : ℤ) (base units : ℕ) (ps contenders : List (ℕ × ℕ)) (quotas : List (ℕ × ℤ)) (quotas_are : quotas ≡ map (signed_quota amount base) ps)
    (contenders_are : contenders ≡ contenders_of (unsigned_abs amount) base ps) (units_are : units ≡ units_left (unsigned_abs amount) base ps) where
  abbrev size : ℕ
  size = unsigned_abs amount

  quota_at : (k : ℕ) (e : ℕ × ℤ) → k < length ps → get_or quotas k e ≡ ((get_or ps k (0, 0)).0, with_sign_of amount (quota_of size base (value_at ps k)))
  quota_at k e lt =
      ap (λ (l : List (ℕ × ℤ)). get_or l k e) quotas_are
      ∙ (get_or-map (signed_quota amount base) ps k (0, 0) e lt
      ∙ ap (λ (share : ℕ). ((get_or ps k (0, 0)).0, with_sign_of amount (quota_of size base share))) (number_at_is ps k (0, 0) lt))

  rank_at : (k : ℕ) (d : ℕ × ℕ) → k < length ps
      → rank_of contenders (get_or contenders k d) ≡ rank (length ps) (remainders size base (value_at ps)) k
  rank_at k d lt =
      ap (λ (l : List (ℕ × ℕ)). rank_of l (get_or l k d)) contenders_are
      ∙ (ap (rank_of (contenders_of size base ps)) (contender_at size base ps k d lt) ∙ rank_is size base ps k)

  pub unit_given : (k : ℕ) (d : ℕ × ℕ) (e : ℕ × ℤ) → k < length ps
      → with_unit amount (ltb (rank_of contenders (get_or contenders k d)) units) (get_or quotas k e) ≡ signed_entry amount (get_or (portions_among size base ps) k (0, 0))
  unit_given k d e lt =
      ap (λ (r : ℕ). with_unit amount (ltb r units) (get_or quotas k e)) (rank_at k d lt)
      ∙ (ap (λ (u : ℕ). with_unit amount (ltb (rank (length ps) (remainders size base (value_at ps)) k) u) (get_or quotas k e))
      (units_are ∙ units_left_is size base ps)
      ∙ (ap (with_unit amount (ltb (rank (length ps) (remainders size base (value_at ps)) k) (left (length ps) size base (value_at ps)))) (quota_at k e lt)
      ∙ (ap (λ (z : ℤ). ((get_or ps k (0, 0)).0, z))
      (sign_adds amount (quota_of size base (value_at ps k)) (bit (ltb (rank (length ps) (remainders size base (value_at ps)) k) (left (length ps) size base (value_at ps)))))
      ∙ ap (signed_entry amount) (sym (portion_at size base ps k (0, 0) lt)))))

-- What the steps of the division leave are the portions by the claims.
pub portions_made : (amount : ℤ) (base units : ℕ) (claims ps contenders : List (ℕ × ℕ)) (quotas portions : List (ℕ × ℤ))
    → base ≡ base_of claims → ps ≡ participants_of claims → quotas ≡ map (signed_quota amount base) ps
    → contenders ≡ contenders_of (unsigned_abs amount) base ps → units ≡ units_left (unsigned_abs amount) base ps → length portions ≡ length quotas
    → ((k : ℕ) (d : ℕ × ℕ) (e : ℕ × ℤ) → k < length quotas
    → get_or portions k e ≡ with_unit amount (ltb (rank_of contenders (get_or contenders k d)) units) (get_or quotas k e))
    → portions ≡ signed_portions_of amount claims
portions_made amount base units claims ps contenders quotas portions base_is ps_is quotas_are contenders_are units_are len given =
    same_lists portions (map (signed_entry amount) made) (all ∙ sym listed) (λ k e lt. at_place k e (omega (arith, all, lt)) (omega (arith, len, lt)))
    ∙ (ap (λ (b : ℕ). map (signed_entry amount) (portions_among (unsigned_abs amount) b ps)) base_is
    ∙ ap (λ (l : List (ℕ × ℕ)). map (signed_entry amount) (portions_among (unsigned_abs amount) (base_of claims) l)) ps_is)
  where
    made : List (ℕ × ℕ)
    made = portions_among (unsigned_abs amount) base ps

    all : length portions ≡ length ps
    all = len ∙ (ap (λ (l : List (ℕ × ℤ)). length l) quotas_are ∙ length-map ps (signed_quota amount base))

    listed : length (map (signed_entry amount) made) ≡ length ps
    listed = length-map made (signed_entry amount) ∙ length-portions (unsigned_abs amount) base ps

    at_place : (k : ℕ) (e : ℕ × ℤ) → k < length ps → k < length quotas → get_or portions k e ≡ get_or (map (signed_entry amount) made) k e
    at_place k e lt lt' =
        given k (0, 0) e lt'
        ∙ (unit_given amount base units ps contenders quotas quotas_are contenders_are units_are k (0, 0) e lt
        ∙ sym (get_or-map (signed_entry amount) made k (0, 0) e (rw (length-portions (unsigned_abs amount) base ps) lt)))

-- the quotas of the places before one, and its own, fit the amount
pub quota_fits_at : (amount base : ℕ) (claims : List (ℕ × ℕ)) (i : ℕ) → base ≡ base_of claims → i < length claims + 1
    → sum_below i (λ j. quota_of amount base (value_at (participants_of claims) j)) + quota_of amount base (value_at (participants_of claims) i) ≤ amount
quota_fits_at amount base claims i base_is lt =
    let all = quotas_fit (length (participants_of claims)) amount base (value_at (participants_of claims))
    (omega (arith, base_positive claims, base_is)) (shares_are_base claims ∙ sym base_is) in
    let part = sum_below-part i (length (participants_of claims)) (λ j. quota_of amount base (value_at (participants_of claims) j)) (omega (arith, length-participants claims)) in
    omega (arith, all, part)
