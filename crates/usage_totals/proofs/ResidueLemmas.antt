-- The residue's portion is the last.
use Rattle.std.proofs.Common.{◌≡◌, ◌∙◌, ◌+◌, ◌<◌, ◌≤◌, ◌++◌, ◌∷◌, ◌==◌, [], ℕ, ℤ, pos, unsigned_abs, Bool, List, All, ap, arith, cond, eq-eqb, filter, get_or, length, map, of_z, subst, sym, to_z, w64}
use Rattle.std.proofs.lemmas.Bool.{ne_eqb}
use Rattle.std.proofs.lemmas.List.{length-map, length_push}
use Rattle.std.proofs.lemmas.List.Elements.{All-map, All-tail}
use Rattle.line_split.proofs.IntSums.{none_plus}
use Rattle.line_split.proofs.Signs.{signed_portion_accounts, signed_portions_small}
use Rattle.line_split.specs.Claims.{AreClaims}
use Rattle.line_split.specs.Signs.{int_sum_by, signed_portions_of}
use Rattle.line_split.specs.declared.TheConstants.{MOST_AMOUNT, RESIDUE}
use Rattle.payee_book.specs.Run.{portion_for}
use Rattle.usage_totals.proofs.TotalLemmas.{amount_kept}

abbrev account_of : ℕ × ℤ → ℕ
account_of portion = portion.0

abbrev sum_of : List (ℕ × ℤ) → ℤ
sum_of portions = int_sum_by (λ (portion : ℕ × ℤ). portion.1) portions

-- the portion of the last account of a list, which no other has
last_alone : (list : List (ℕ × ℤ)) (others : List ℕ) (d : ℕ × ℤ) → map account_of list ≡ others ++ 0 ∷ [] → All (λ account. 0 < account) others → portion_for 0 list ≡ (get_or list (length others) d).1
last_alone [] [] d is above = absurd (cc)
last_alone [] (other ∷ others) d is above = absurd (cc)
last_alone (portion ∷ []) [] d is above =
    let zero_is : portion.0 ≡ 0 = cc in
    ap (λ (b : Bool). sum_of (cond b (portion ∷ []) [])) (eq-eqb portion.0 0 zero_is) ∙ none_plus portion.1
last_alone (portion ∷ next ∷ list) [] d is above = absurd (cc)
last_alone (portion ∷ list) (other ∷ others) d is above =
    let first : portion.0 ≡ other = cc in
    let rest : map account_of list ≡ others ++ 0 ∷ [] = cc in
    let apart : portion.0 ≡ 0 → ⊥ = λ e. absurd (omega (arith, above 0 0 (omega arith), first, e)) in
    ap (λ (b : Bool). sum_of (cond b (portion ∷ filter (λ (p : ℕ × ℤ). p.0 == 0) list) (filter (λ (p : ℕ × ℤ). p.0 == 0) list))) (ne_eqb portion.0 0 apart)
    ∙ last_alone list others d rest (All-tail (λ account. 0 < account) other others above)

module _ (amount : ℤ) (claims : List (ℕ × ℕ)) where
  -- there is one for each claim, and then the residue's
  pub portions_long : length (signed_portions_of amount claims) ≡ length claims + 1
  portions_long =
      sym (length-map (signed_portions_of amount claims) account_of)
      ∙ ap (λ (l : List ℕ). length l) (signed_portion_accounts amount claims)
      ∙ length_push (map (λ (claim : ℕ × ℕ). claim.0) claims) RESIDUE
      ∙ ap (λ n. n + 1) (length-map claims (λ (claim : ℕ × ℕ). claim.0))

  pub residue_last : (d : ℕ × ℤ) → AreClaims claims → (get_or (signed_portions_of amount claims) (length claims) d).1 ≡ portion_for RESIDUE (signed_portions_of amount claims)
  residue_last d are =
      let place : length (map (λ (claim : ℕ × ℕ). claim.0) claims) ≡ length claims = length-map claims (λ (claim : ℕ × ℕ). claim.0) in
      ap (λ n. (get_or (signed_portions_of amount claims) n d).1) (sym place)
      ∙ sym (last_alone (signed_portions_of amount claims) (map (λ (claim : ℕ × ℕ). claim.0) claims) d (signed_portion_accounts amount claims)
      (All-map (λ account. 0 < account) (λ (claim : ℕ × ℕ). claim.0) claims are.payees))

  -- what is read of them by the place behind the claims
  pub residue_shown : (shown : List (ℕ × ℤ)) (listed : List (ℕ × ℕ)) → unsigned_abs amount ≤ MOST_AMOUNT → AreClaims claims → shown ≡ signed_portions_of (to_z w64 (of_z w64 amount)) claims → listed ≡ claims
      → (length listed < length shown)
      × (to_z w64 (of_z w64 (get_or shown (length listed) (0, pos 0)).1) ≡ portion_for RESIDUE (signed_portions_of amount claims))
      × (unsigned_abs (to_z w64 (of_z w64 (get_or shown (length listed) (0, pos 0)).1)) ≤ MOST_AMOUNT)
  residue_shown shown listed small are is all =
      let these : shown ≡ signed_portions_of amount claims = is ∙ ap (λ (z : ℤ). signed_portions_of z claims) (amount_kept amount small) in
      let within : length listed < length shown = omega (arith, portions_long, ap (λ (l : List (ℕ × ℤ)). length l) these, ap (λ (l : List (ℕ × ℕ)). length l) all) in
      let portion : (get_or shown (length listed) (0, pos 0)).1 ≡ portion_for RESIDUE (signed_portions_of amount claims) =
      (λ i. (get_or (these i) (length (all i)) (0, pos 0)).1) ∙ residue_last (0, pos 0) are in
      let each : (k : ℕ) (d : ℕ × ℤ) → k < length shown → unsigned_abs (get_or shown k d).1 ≤ MOST_AMOUNT =
      subst (λ (l : List (ℕ × ℤ)). (k : ℕ) (d : ℕ × ℤ) → k < length l → unsigned_abs (get_or l k d).1 ≤ MOST_AMOUNT) (sym these) (signed_portions_small amount MOST_AMOUNT claims small) in
      let one : unsigned_abs (get_or shown (length listed) (0, pos 0)).1 ≤ MOST_AMOUNT = each (length listed) (0, pos 0) within in
      let kept = amount_kept (get_or shown (length listed) (0, pos 0)).1 one in
      (within, kept ∙ portion, rw kept one)
