-- Sums of 128 bits.
use Rattle.std.proofs.Common.{◌≡◌, ◌∙◌, ◌+◌, ◌^◌, ◌<◌, ◌≤◌, ◌+ℤ◌, ℕ, ℤ, FitsSigned, ap, arith, negsuc, of_z, pos, to_z, unsigned_abs, w64}
use Rattle.std.proofs.lemmas.Int.{fits_signed_from_abs, to_z-of_z}
use Rattle.line_split.proofs.IntSums.{size_plus}
use Rattle.residue_documents.specs.Reasons.{CanBeAdded, amount_in, sums_shown}
use Rattle.residue_documents.specs.declared.reasons.ReasonSums.{ReasonSums}
use mir.Syntax.{w128}

-- a number as it is handed on
abbrev pub handed : ℤ → ℤ
handed a = to_z w128 (of_z w128 a)

pub handed_is : (a : ℤ) (m : ℕ) → unsigned_abs a ≤ m → m < 2 ^ 127 → handed a ≡ a
handed_is a m small room = to_z-of_z w128 a (fits_signed_from_abs w128 a (omega (arith, small, room)))

-- two numbers, and their sum
pub handed_both : (a b : ℤ) (m n : ℕ) → unsigned_abs a ≤ m → unsigned_abs b ≤ n → m + n < 2 ^ 127 → handed a +ℤ handed b ≡ a +ℤ b
handed_both a b m n left right room i = handed_is a m left (omega (arith, room)) i +ℤ handed_is b n right (omega (arith, room)) i

pub both_fit : (a b : ℤ) (m n : ℕ) → unsigned_abs a ≤ m → unsigned_abs b ≤ n → m + n < 2 ^ 127 → FitsSigned w128 (handed a +ℤ handed b)
both_fit a b m n left right room =
    rw (handed_both a b m n left right room) (fits_signed_from_abs w128 (a +ℤ b) (omega (arith, size_plus a b m n left right, room)))

pub sum_is : (a b : ℤ) (m n : ℕ) → unsigned_abs a ≤ m → unsigned_abs b ≤ n → m + n < 2 ^ 127 → handed (handed a +ℤ handed b) ≡ a +ℤ b
sum_is a b m n left right room = ap handed (handed_both a b m n left right room) ∙ handed_is (a +ℤ b) (m + n) (size_plus a b m n left right) room

-- and one number more
pub third_fits : (a b d : ℤ) (m n k : ℕ) → unsigned_abs a ≤ m → unsigned_abs b ≤ n → unsigned_abs d ≤ k → m + n + k < 2 ^ 127
    → FitsSigned w128 (handed (handed a +ℤ handed b) +ℤ handed d)
third_fits a b d m n k left right last room =
    rw (sum_is a b m n left right (omega (arith, room)), handed_is d k last (omega (arith, room)))
    (fits_signed_from_abs w128 (a +ℤ b +ℤ d) (omega (arith, size_plus (a +ℤ b) d (m + n) k (size_plus a b m n left right) last, room)))

pub third_is : (a b d : ℤ) (m n k : ℕ) → unsigned_abs a ≤ m → unsigned_abs b ≤ n → unsigned_abs d ≤ k → m + n + k < 2 ^ 127
    → handed (handed (handed a +ℤ handed b) +ℤ handed d) ≡ a +ℤ b +ℤ d
third_is a b d m n k left right last room =
    (λ i. handed (sum_is a b m n left right (omega (arith, room)) i +ℤ handed_is d k last (omega (arith, room)) i))
    ∙ handed_is (a +ℤ b +ℤ d) (m + n + k) (size_plus (a +ℤ b) d (m + n) k (size_plus a b m n left right) last) room

-- an amount of 64 bits
pub narrow_small : (a : ℤ) → FitsSigned w64 a → unsigned_abs a ≤ 2 ^ 63
narrow_small (pos n) fits = omega (arith, fits.sfits)
narrow_small (negsuc n) fits = omega (arith, fits.sfits)

-- what the four reasons come to is small
pub reasons_small : (sums : ReasonSums) (total : ℤ) → CanBeAdded sums → total ≡ amount_in (sums_shown sums) → unsigned_abs total ≤ 2 ^ 63 + 2 ^ 63 + 2 ^ 63 + 2 ^ 63
reasons_small sums total small is =
    let two = size_plus sums.work.amount sums.land.amount (2 ^ 63) (2 ^ 63) small.work.1 small.land.1 in
    let three = size_plus (sums.work.amount +ℤ sums.land.amount) sums.over.amount (2 ^ 63 + 2 ^ 63) (2 ^ 63) two small.over.1 in
    let four =
    size_plus (sums.work.amount +ℤ sums.land.amount +ℤ sums.over.amount) sums.open.amount (2 ^ 63 + 2 ^ 63 + 2 ^ 63) (2 ^ 63) three small.open_share.1 in
    omega (arith, ap unsigned_abs is, four)
