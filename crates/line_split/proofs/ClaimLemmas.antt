-- The claims' total, the participants and the base.
use Rattle.std.proofs.Common.{◌≡◌, ℕ, ◌+◌, ◌-◌, ◌<◌, ◌≤◌, Bool, true, false, cond, leb, List, [], ◌∷◌, length, map, max, get_or, refl, sym, ap, ◌∙◌, arith, zero-add}
use Rattle.std.proofs.lemmas.List.{map-id, length-map, length_push, get_or_append_left, get_or_push, get_or-map}
use Rattle.std.proofs.lemmas.List.Sums.{sum_by-cons, sum_by-le}
use Rattle.std.proofs.lemmas.Bool.Decides.{nat_tests}
use Rattle.line_split.specs.declared.TheConstants.{FULL_SHARE, MOST_CLAIMED, RESIDUE}
use Rattle.line_split.specs.FairSplit.{value_at}
use Rattle.line_split.proofs.Places.{number_at_is}
use Rattle.line_split.specs.Claims.{AreClaims, total_of, counted_claims, base_of, participants_of}

-- 256 claims of 100.06 per cent
pub total_small : (claims : List (ℕ × ℕ)) → AreClaims claims → total_of claims ≤ 2561536
total_small claims are =
    let each = sum_by-le (λ claim. claim.1) MOST_CLAIMED claims are.shares in
    let few = are.few in
    omega (arith, each, few)

-- Claims that do not count come to nothing.
pub total-nothing : (claims : List (ℕ × ℕ)) → total_of (map (λ claim. (claim.0, 0)) claims) ≡ 0
total-nothing [] = refl
total-nothing (claim ∷ claims) =
    sum_by-cons (λ c. c.1) (claim.0, 0) (map (λ c. (c.0, 0)) claims)
    ∙ (zero-add (total_of (map (λ c. (c.0, 0)) claims)) ∙ total-nothing claims)

pub total-counted : (claims : List (ℕ × ℕ)) → total_of (counted_claims claims) ≡ cond (leb (total_of claims) MOST_CLAIMED) (total_of claims) 0
total-counted claims = go (leb (total_of claims) MOST_CLAIMED)
  where
    go : (b : Bool) → total_of (cond b claims (map (λ claim. (claim.0, 0)) claims)) ≡ cond b (total_of claims) 0
    go true = refl
    go false = total-nothing claims

-- what a loop lists that takes each claim or 0, as the test says
pub counted_by_test : (b : Bool) (claims : List (ℕ × ℕ))
    → map (λ claim. (claim.0, cond b claim.1 0)) claims ≡ cond b claims (map (λ claim. (claim.0, 0)) claims)
counted_by_test true claims = map-id claims
counted_by_test false claims = refl

pub base_small : (claims : List (ℕ × ℕ)) → base_of claims ≤ MOST_CLAIMED
base_small claims = rw (total-counted claims) (go (total_of claims))
  where
    go : (t : ℕ) → (max FULL_SHARE (cond (leb t MOST_CLAIMED) t 0)) ≤ MOST_CLAIMED
    go t = grind (arith, nat_tests)

length-counted : (claims : List (ℕ × ℕ)) → length (counted_claims claims) ≡ length claims
length-counted claims = go (leb (total_of claims) MOST_CLAIMED)
  where
    go : (b : Bool) → length (cond b claims (map (λ claim. (claim.0, 0)) claims)) ≡ length claims
    go true = refl
    go false = length-map claims (λ claim. (claim.0, 0))

pub length-participants : (claims : List (ℕ × ℕ)) → length (participants_of claims) ≡ length claims + 1
length-participants claims = length_push (counted_claims claims) _ ∙ ap (λ (n : ℕ). n + 1) (length-counted claims)

-- the test by which claims count, as the code makes it
pub counted_by_limit : (claims : List (ℕ × ℕ)) (total : ℕ) → total ≡ total_of claims
    → total_of (counted_claims claims) ≡ cond (leb total MOST_CLAIMED) total 0
counted_by_limit claims total is = total-counted claims ∙ ap (λ (t : ℕ). cond (leb t MOST_CLAIMED) t 0) (sym is)

-- the participants by place: a claim's account with what counts of its claim while there is one, then the residue with what nobody claims
pub claim_at : (claims : List (ℕ × ℕ)) (i : ℕ) (d : ℕ × ℕ) → i < length claims
    → get_or (participants_of claims) i d ≡ ((get_or claims i d).0, cond (leb (total_of claims) MOST_CLAIMED) (get_or claims i d).1 0)
claim_at claims i d lt =
    get_or_append_left (counted_claims claims) _ d i (omega (arith, length-counted claims))
    ∙ go (leb (total_of claims) MOST_CLAIMED)
  where
    go : (b : Bool) → get_or (cond b claims (map (λ claim. (claim.0, 0)) claims)) i d ≡ ((get_or claims i d).0, cond b (get_or claims i d).1 0)
    go true = refl
    go false = get_or-map (λ claim. (claim.0, 0)) claims i d d lt

pub residue_at : (claims : List (ℕ × ℕ)) (d : ℕ × ℕ) → get_or (participants_of claims) (length claims) d ≡ (RESIDUE, base_of claims - total_of (counted_claims claims))
residue_at claims d = get_or_push (counted_claims claims) _ d (length claims) (length-counted claims)

-- their shares of the base
pub claim_share : (claims : List (ℕ × ℕ)) (i : ℕ) → i < length claims
    → value_at (participants_of claims) i ≡ cond (leb (total_of claims) MOST_CLAIMED) (get_or claims i (0, 0)).1 0
claim_share claims i lt =
    sym (number_at_is (participants_of claims) i (0, 0) (omega (arith, length-participants claims)))
    ∙ ap (λ (e : ℕ × ℕ). e.1) (claim_at claims i (0, 0) lt)

pub residue_share : (claims : List (ℕ × ℕ)) → value_at (participants_of claims) (length claims) ≡ base_of claims - total_of (counted_claims claims)
residue_share claims =
    sym (number_at_is (participants_of claims) (length claims) (0, 0) (omega (arith, length-participants claims)))
    ∙ ap (λ (e : ℕ × ℕ). e.1) (residue_at claims (0, 0))
