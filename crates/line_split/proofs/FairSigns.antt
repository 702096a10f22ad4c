-- Portions with a sign are a fair split, and no others are.
use Rattle.std.proofs.Common.{◌≡◌, ◌∙◌, ◌<◌, ◌≤◌, ◌++◌, ◌∷◌, [], ℕ, zero, suc, ℤ, pos, negsuc, neg_ℤ, unsigned_abs, List, All, map, get_or, ap, subst, sym, refl, arith}
use Rattle.std.proofs.lemmas.Int.{ints}
use Rattle.std.proofs.lemmas.List.{map_push}
use Rattle.std.proofs.lemmas.List.Elements.{All-map, All-tail}
use Rattle.line_split.specs.declared.TheConstants.{MOST_CLAIMED, RESIDUE}
use Rattle.line_split.specs.Claims.{total_of}
use Rattle.line_split.specs.FairSplit.{HaveSignOf, IsFairSplit, IsFairSplitOfSize, sizes_of}
use Rattle.line_split.specs.LargestRemainder.{portions_of}
use Rattle.line_split.specs.Signs.{signed_portions_of, with_sign_of}
use Rattle.line_split.proofs.Fair.{only_fair, portions_are_fair}
use Rattle.line_split.proofs.Over.{nothing, portions-over}
use Rattle.line_split.proofs.Signs.{no_sign, own_sign, portions_add_up, portions_within, signed_list, size_of_signed}

-- the sizes of what was given a sign
pub sizes_signed : (amount : ℤ) (xs : List (ℕ × ℕ)) → sizes_of (signed_list amount xs) ≡ xs
sizes_signed amount [] = refl
sizes_signed amount (x ∷ xs) = (λ i. (x.0, size_of_signed amount x.1 i) ∷ sizes_signed amount xs i)

have_sign : (amount : ℤ) (xs : List (ℕ × ℕ)) → HaveSignOf amount (signed_list amount xs)
have_sign amount xs =
    All-map (λ (portion : ℕ × ℤ). portion.1 ≡ with_sign_of amount (unsigned_abs portion.1)) (λ (x : ℕ × ℕ). (x.0, with_sign_of amount x.1)) xs
    (λ k d lt. ap (with_sign_of amount) (sym (size_of_signed amount (get_or xs k d).1)))

pub signed_portions_are_fair : (amount : ℤ) (claims : List (ℕ × ℕ)) → IsFairSplit amount claims (signed_portions_of amount claims)
signed_portions_are_fair amount claims = record {
  adds_up = portions_add_up amount claims;
  same_sign = have_sign amount (portions_of (unsigned_abs amount) claims);
  by_size = subst (IsFairSplitOfSize (unsigned_abs amount) claims) (sym (sizes_signed amount (portions_of (unsigned_abs amount) claims))) (portions_are_fair (unsigned_abs amount) claims);
}

-- what has the amount's sign is its sizes with that sign
signed_sizes : (amount : ℤ) (portions : List (ℕ × ℤ)) → HaveSignOf amount portions → signed_list amount (sizes_of portions) ≡ portions
signed_sizes amount [] have = refl
signed_sizes amount (p ∷ portions) have =
    let first : p.1 ≡ with_sign_of amount (unsigned_abs p.1) = have 0 p (omega arith) in
    let rest = signed_sizes amount portions (All-tail (λ (portion : ℕ × ℤ). portion.1 ≡ with_sign_of amount (unsigned_abs portion.1)) p portions have) in
    (λ i. (p.0, sym first i) ∷ rest i)

pub only_fair_signed : (amount : ℤ) (claims : List (ℕ × ℕ)) (portions : List (ℕ × ℤ)) → IsFairSplit amount claims portions → portions ≡ signed_portions_of amount claims
only_fair_signed amount claims portions fair =
    sym (signed_sizes amount portions fair.same_sign) ∙ ap (signed_list amount) (only_fair (unsigned_abs amount) claims (sizes_of portions) fair.by_size)

signed_nothing : (amount : ℤ) (claims : List (ℕ × ℕ)) → signed_list amount (nothing claims) ≡ map (λ claim. (claim.0, pos 0)) claims
signed_nothing amount [] = refl
signed_nothing amount (claim ∷ claims) = (λ i. (claim.0, no_sign amount i) ∷ signed_nothing amount claims i)

pub signed_portions-over : (amount : ℤ) (claims : List (ℕ × ℕ)) → MOST_CLAIMED < total_of claims
    → signed_portions_of amount claims ≡ map (λ claim. (claim.0, pos 0)) claims ++ (RESIDUE, amount) ∷ []
signed_portions-over amount claims over =
    ap (signed_list amount) (portions-over (unsigned_abs amount) claims over)
    ∙ (map_push (λ (x : ℕ × ℕ). (x.0, with_sign_of amount x.1)) (nothing claims) (RESIDUE, unsigned_abs amount)
    ∙ (λ i. signed_nothing amount claims i ++ (RESIDUE, own_sign amount i) ∷ []))

-- ---- reversals

size_of_negated : (amount : ℤ) → unsigned_abs (neg_ℤ amount) ≡ unsigned_abs amount
size_of_negated amount = omega (arith, ints)

-- a size with the other sign, where it is none that is left of nothing
other_sign : (amount : ℤ) (size : ℕ) → size ≤ unsigned_abs amount → with_sign_of (neg_ℤ amount) size ≡ neg_ℤ (with_sign_of amount size)
other_sign (pos zero) size small = let none : size ≡ 0 = omega (arith, small) in omega (arith, ints, none)
other_sign (pos (suc n)) size small = refl
other_sign (negsuc n) size small = omega (arith, ints)

negated_list : (amount : ℤ) (xs : List (ℕ × ℕ)) → All (λ x. x.1 ≤ unsigned_abs amount) xs
    → signed_list (neg_ℤ amount) xs ≡ map (λ (portion : ℕ × ℤ). (portion.0, neg_ℤ portion.1)) (signed_list amount xs)
negated_list amount [] small = refl
negated_list amount (x ∷ xs) small =
    let first : with_sign_of (neg_ℤ amount) x.1 ≡ neg_ℤ (with_sign_of amount x.1) = other_sign amount x.1 (small 0 x (omega arith)) in
    let rest = negated_list amount xs (All-tail (λ (e : ℕ × ℕ). e.1 ≤ unsigned_abs amount) x xs small) in
    (λ i. (x.0, first i) ∷ rest i)

pub reversed_portions : (amount : ℤ) (claims : List (ℕ × ℕ)) → signed_portions_of (neg_ℤ amount) claims ≡ map (λ portion. (portion.0, neg_ℤ portion.1)) (signed_portions_of amount claims)
reversed_portions amount claims =
    ap (λ size. signed_list (neg_ℤ amount) (portions_of size claims)) (size_of_negated amount)
    ∙ negated_list amount (portions_of (unsigned_abs amount) claims)
    (portions_within (unsigned_abs amount) (unsigned_abs amount) claims (portions_of (unsigned_abs amount) claims) refl (omega arith))
