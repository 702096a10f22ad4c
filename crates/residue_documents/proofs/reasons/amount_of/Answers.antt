use Rattle.std.proofs.Common.{◌≡◌, ◌∙◌, ◌+◌, ◌^◌, ◌<◌, ◌≤◌, ◌+ℤ◌, ℕ, ℤ, FitsSigned, ap, arith, of_z, rules, to_z, unsigned_abs, w64}
use Rattle.std.proofs.lemmas.Int.{fits_signed_from_abs, to_z-of_z}
use Rattle.line_split.proofs.IntSums.{size_plus}
use mir.Syntax.{w128}
use Rattle.residue_documents.proofs.reasons.amount_of.Goals as goal

-- a number as it is handed on
abbrev handed : ℤ → ℤ
handed a = to_z w128 (of_z w128 a)

handed_is : (a : ℤ) (m : ℕ) → unsigned_abs a ≤ m → m < 2 ^ 127 → handed a ≡ a
handed_is a m small room = to_z-of_z w128 a (fits_signed_from_abs w128 a (omega (arith, small, room)))

-- a sum, one number more
sum_is : (a b : ℤ) (m n : ℕ) → unsigned_abs a ≤ m → unsigned_abs b ≤ n → m + n < 2 ^ 127 → handed (a +ℤ handed b) ≡ a +ℤ b
sum_is a b m n left right room =
    ap (λ (z : ℤ). handed (a +ℤ z)) (handed_is b n right (omega (arith, room))) ∙ handed_is (a +ℤ b) (m + n) (size_plus a b m n left right) room

module _ (a b c d : ℤ) (a_small : unsigned_abs a ≤ 2 ^ 63) (b_small : unsigned_abs b ≤ 2 ^ 63) (c_small : unsigned_abs c ≤ 2 ^ 63) (d_small : unsigned_abs d ≤ 2 ^ 63) where
  two : handed (handed a +ℤ handed b) ≡ a +ℤ b
  two = ap (λ (z : ℤ). handed (z +ℤ handed b)) (handed_is a (2 ^ 63) a_small (omega arith)) ∙ sum_is a b (2 ^ 63) (2 ^ 63) a_small b_small (omega arith)

  two_small : unsigned_abs (a +ℤ b) ≤ 2 ^ 63 + 2 ^ 63
  two_small = size_plus a b (2 ^ 63) (2 ^ 63) a_small b_small

  three : handed (handed (handed a +ℤ handed b) +ℤ handed c) ≡ a +ℤ b +ℤ c
  three = ap (λ (z : ℤ). handed (z +ℤ handed c)) two ∙ sum_is (a +ℤ b) c (2 ^ 63 + 2 ^ 63) (2 ^ 63) two_small c_small (omega arith)

  three_small : unsigned_abs (a +ℤ b +ℤ c) ≤ 2 ^ 63 + 2 ^ 63 + 2 ^ 63
  three_small = size_plus (a +ℤ b) c (2 ^ 63 + 2 ^ 63) (2 ^ 63) two_small c_small

  four : handed (handed (handed (handed a +ℤ handed b) +ℤ handed c) +ℤ handed d) ≡ a +ℤ b +ℤ c +ℤ d
  four =
      ap (λ (z : ℤ). handed (z +ℤ handed d)) three
      ∙ sum_is (a +ℤ b +ℤ c) d (2 ^ 63 + 2 ^ 63 + 2 ^ 63) (2 ^ 63) three_small d_small (omega arith)

  four_fits : FitsSigned w128 (handed (handed (handed a +ℤ handed b) +ℤ handed c) +ℤ handed d)
  four_fits =
      rw (three, handed_is d (2 ^ 63) d_small (omega arith))
      (fits_signed_from_abs w128 (a +ℤ b +ℤ c +ℤ d)
      (omega (arith, size_plus (a +ℤ b +ℤ c) d (2 ^ 63 + 2 ^ 63 + 2 ^ 63) (2 ^ 63) three_small d_small)))

-- an amount of 64 bits is the same of 128 bits
small_still : (wide narrow : ℤ) → wide ≡ narrow → unsigned_abs narrow ≤ 2 ^ 63 → unsigned_abs wide ≤ 2 ^ 63
small_still wide narrow is small = omega (arith, ap unsigned_abs is, small)

pub overflow_add-result-3 : goal.overflow_add-result-3
overflow_add-result-3 c =
    let sums = c.args.sums.now in
    let work = c.from.ensures ∙ to_z-of_z w64 sums.work.amount (search rules) in
    let land = c.from-2.ensures ∙ to_z-of_z w64 sums.land.amount (search rules) in
    let over = c.from-3.ensures ∙ to_z-of_z w64 sums.over.amount (search rules) in
    let open_share = c.from-4.ensures ∙ to_z-of_z w64 sums.open.amount (search rules) in
    four_fits c.from.result c.from-2.result c.from-3.result c.from-4.result (small_still _ _ work c.requires.work.1) (small_still _ _ land c.requires.land.1)
    (small_still _ _ over c.requires.over.1) (small_still _ _ open_share c.requires.open_share.1)

pub returns : goal.returns
returns c =
    let sums = c.args.sums.now in
    let work = c.from.ensures ∙ to_z-of_z w64 sums.work.amount (search rules) in
    let land = c.from-2.ensures ∙ to_z-of_z w64 sums.land.amount (search rules) in
    let over = c.from-3.ensures ∙ to_z-of_z w64 sums.over.amount (search rules) in
    let open_share = c.from-4.ensures ∙ to_z-of_z w64 sums.open.amount (search rules) in
    four c.from.result c.from-2.result c.from-3.result c.from-4.result (small_still _ _ work c.requires.work.1) (small_still _ _ land c.requires.land.1)
    (small_still _ _ over c.requires.over.1) (small_still _ _ open_share c.requires.open_share.1)
    ∙ (λ i. work i +ℤ land i +ℤ over i +ℤ open_share i)
