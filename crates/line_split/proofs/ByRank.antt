-- The portion of a participant, by its rank.
use Rattle.std.proofs.Common.{◌≡◌, ◌≤◌, ◌<◌, ◌∙◌, ℕ, List, length, refl, sym, arith}
use Rattle.line_split.specs.Claims.{base_of, participants_of}
use Rattle.line_split.specs.FairSplit.{value_at}
use Rattle.line_split.specs.LargestRemainder.{portion_of, portions_of}
use Rattle.line_split.proofs.Places.{length-portions, number_at_is, portion_is}
use Rattle.line_split.proofs.ClaimLemmas.{length-participants}
use Rattle.line_split.proofs.Fair.{base_positive, shares_are_base, value_at-portions}
use Rattle.line_split.proofs.Signs.{portions_within}

-- it is the one in the list of all
pub portion_in_list : (amount : ℕ) (claims : List (ℕ × ℕ)) (place : ℕ) → place ≤ length claims
    → portion_of amount (base_of claims) (participants_of claims) place (value_at (participants_of claims) place) ≡ value_at (portions_of amount claims) place
portion_in_list amount claims place within =
    portion_is amount (base_of claims) (participants_of claims) place
    ∙ sym (value_at-portions amount (base_of claims) (participants_of claims) (base_positive claims) (shares_are_base claims) place
    (omega (arith, length-participants claims, within)))

-- and no more than the amount
pub portion_small : (amount : ℕ) (claims : List (ℕ × ℕ)) (place : ℕ) → place ≤ length claims → value_at (portions_of amount claims) place ≤ amount
portion_small amount claims place within =
    let lt : place < length (portions_of amount claims) = omega (arith, length-participants claims, within, length-portions amount (base_of claims) (participants_of claims)) in
    rw (sym (number_at_is (portions_of amount claims) place (0, 0) lt)) (portions_within amount amount claims (portions_of amount claims) refl (omega arith) place (0, 0) lt)
