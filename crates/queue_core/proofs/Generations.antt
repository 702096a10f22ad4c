-- Which round of a ring a place is in, and which block of numbers a number is in.
use Rattle.std.proofs.Common.{◌≡◌, ◌∙◌, ◌≤◌, ◌<◌, ◌+◌, ◌*◌, ◌/◌, ◌%◌, ℕ, ap, sym, inl, inr, arith, mul-le-mul_right}
use Rattle.std.proofs.lemmas.Bool.{cases_lt}
use Rattle.std.proofs.lemmas.Nat.{div-add-mod', div-mul-add}

module _ (R : ℕ) (some : 0 < R) where
  -- an earlier place of a slot is in an earlier round
  pub earlier_round : (j c : ℕ) → j < c → j % R ≡ c % R → j / R < c / R
  earlier_round j c lt same = elim (cases_lt (j / R) (c / R)) [
    | inl less ↦ less
    | inr le ↦
        let m : c / R * R ≤ j / R * R = mul-le-mul_right R le in
        let a = div-add-mod' j R in
        let b = div-add-mod' c R in
        let x : ℕ = c / R * R in let y : ℕ = j / R * R in let r : ℕ = c % R in
        let a' : y + r ≡ j = ap (λ (k : ℕ). y + k) (sym same) ∙ a in let b' : x + r ≡ c = b in let m' : x ≤ y = m in absurd (omega (arith, a', b', m', lt))
  ]

-- which block of as many numbers a number is in
pub same_block : (R q p s t : ℕ) → s < R → t < R → q * R + s ≡ p * R + t → q ≡ p
same_block R q p s t low also same = sym (div-mul-add q R s low) ∙ (ap (λ (n : ℕ). n / R) same ∙ div-mul-add p R t also)
