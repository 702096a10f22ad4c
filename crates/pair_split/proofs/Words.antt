-- Words of the command line: their digits, and the lists that the code makes of them.
use Rattle.std.proofs.Common.{◌≡◌, ℕ, ◌+◌, ◌<◌, ◌≤◌, List, [], length, map, get_or, All, ap, ◌∙◌, arith, Result, Ok}
use Rattle.std.specs.Char.{IsAsciiDigit}
use Rattle.std.specs.List.{enumerate_from}
use Rattle.std.specs.List.Sorted.{IsStrictlyIncreasing}
use Rattle.std.proofs.lemmas.List.{get_or-map, length-map}
use Rattle.std.proofs.lemmas.List.FromFn.{get_or-enumerate_from, length-enumerate_from}
use Rattle.line_split.specs.declared.TheConstants.{RESIDUE}
use Rattle.line_split.specs.FirstPlace.{IsFirstPlace}
use Rattle.line_split.specs.ClaimFault.{IsOver}
use Rattle.line_split.proofs.ByAccount.{account_at}
use Rattle.pair_split.specs.Pair.{claims_of, share_of, word_at}
use Rattle.pair_split.specs.PairFault.{IsTooLarge}
use Rattle.std.specs.Str.Parse.{digits_value, ParsesUnsigned}
use Rattle.std.proofs.lemmas.List.Elements.{All-nil, All-cons, All-tail}
use Rattle.std.proofs.lemmas.Str.Parse.{IsDigitsTest, IsNumeralModel, numerals_by_value, parse_gives, digits_value_short}

are_digits : IsDigitsTest (All IsAsciiDigit)
are_digits = record {
  empty = All-nil IsAsciiDigit;
  parts = λ c cs h. (h 0 c (omega arith), All-tail IsAsciiDigit c cs h);
  more = λ c cs d h. All-cons IsAsciiDigit c cs d h;
}

-- A share's digits are read as the number that they are.
pub parses_share : {E : Type 0} (digits : List ℕ) (r : Result ℕ E) → ParsesUnsigned 32 10 digits r
    → All IsAsciiDigit digits → 0 < length digits → length digits ≤ 5 → r ≡ Ok (digits_value 10 digits)
parses_share digits r h digit some few =
    let own : IsNumeralModel (All IsAsciiDigit) (digits_value 10) = numerals_by_value (All IsAsciiDigit) are_digits in
    parse_gives own 32 digits r h digit some (omega (arith, digits_value_short own digits 5 digit few))

pub length-claims : (words : List (List ℕ)) → length (claims_of words) ≡ length words
length-claims words = length-map (enumerate_from 1 words) (λ e. (e.0, share_of e.1)) ∙ length-enumerate_from 1 words

-- the claim that the word at a place makes
pub claim_at : (words : List (List ℕ)) (i : ℕ) (d : ℕ × ℕ) → i < length words → get_or (claims_of words) i d ≡ (1 + i, share_of (word_at words i))
claim_at words i d lt =
    get_or-map (λ e. (e.0, share_of e.1)) (enumerate_from 1 words) i (0, []) d (rw (length-enumerate_from 1 words) lt)
    ∙ ap (λ (e : ℕ × List ℕ). (e.0, share_of e.1)) (get_or-enumerate_from 1 words i (0, []) lt)

-- The accounts of the claims rise, from 1.
pub claims_payees : (words : List (List ℕ)) → All (λ claim. RESIDUE < claim.0) (claims_of words)
claims_payees words k d lt = rw (claim_at words k d (rw (length-claims words) at lt)) (omega arith)

pub claims_rise : (words : List (List ℕ)) → IsStrictlyIncreasing (map (λ claim. claim.0) (claims_of words))
claims_rise words k lt =
    let in_claims : k + 1 < length (claims_of words) = rw (length-map (claims_of words) (λ claim. claim.0)) at lt in
    let in_words : k + 1 < length words = rw (length-claims words) at in_claims in
    let first = account_at (claims_of words) k 0 (0, 0) (omega arith) ∙ ap (λ (claim : ℕ × ℕ). claim.0) (claim_at words k (0, 0) (omega arith)) in
    let second = account_at (claims_of words) (k + 1) 0 (0, 0) in_claims ∙ ap (λ (claim : ℕ × ℕ). claim.0) (claim_at words (k + 1) (0, 0) in_words) in
    omega (arith, first, second)

-- A claim is over 100.00 per cent where its word's share is.
pub over_from_large : (words : List (List ℕ)) (i : ℕ) → IsTooLarge words i → IsOver (claims_of words) i
over_from_large words i large = (
  rw (length-claims words) large.0,
  rw (claim_at words i (0, 0) large.0) large.1,
)

pub large_from_over : (words : List (List ℕ)) (i : ℕ) → IsOver (claims_of words) i → IsTooLarge words i
large_from_over words i over =
    let in_words : i < length words = rw (length-claims words) at over.0 in
    (in_words, rw (claim_at words i (0, 0) in_words) at over.1)

pub first_large : (words : List (List ℕ)) (place : ℕ) → IsFirstPlace (IsOver (claims_of words)) place → IsFirstPlace (IsTooLarge words) place
first_large words place first = record {
  here = λ i is. large_from_over words i (first.here i is);
  none_before = λ i lt large. first.none_before i lt (over_from_large words i large);
  from_one = first.from_one;
}
