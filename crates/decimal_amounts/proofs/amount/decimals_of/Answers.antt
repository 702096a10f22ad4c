use Rattle.std.proofs.Common.{◌≡◌, ◌∙◌, ◌<◌, ◌+◌, ◌-◌, ℕ, List, ap, arith, drop, get_or, inl, inr, length, refl, subst, sym, take}
use Rattle.std.proofs.lemmas.Bool.{cases_eq, eq-eqb, eqb-true, false≢true}
use Rattle.std.proofs.lemmas.List.{length-drop, take_all}
use Rattle.decimal_amounts.specs.Decimals.{ArePlain, IsWhole}
use Rattle.decimal_amounts.proofs.Numbers.{behind, marked, unmarked}
use Rattle.decimal_amounts.proofs.amount.decimals_of.Goals as goal
use Rattle.decimal_amounts.proofs.amount.decimals_of.Goals.{then-is_empty-2-via-then-is_empty-2}
use Rattle.decimal_amounts.proofs.amount.decimals_of.Goals.{then-is_empty-2-via-else-is_empty-2+then-not-are_digits}
use Rattle.decimal_amounts.proofs.amount.decimals_of.Goals.{then-is_empty-2-via-else-is_empty-2+else-not-are_digits+then-not-is_whole}

-- what a slice from a place to the end is
to_the_end : (text : List ℕ) (n : ℕ) → take (length text - n) (drop n text) ≡ drop n text
to_the_end text n = take_all (length text - n) (drop n text) (omega (arith, length-drop n text))

pub returns-else-are_digits-clause-none : goal.returns-else-are_digits-clause-none
returns-else-are_digits-clause-none c = λ count has.
    let at = c.place_of-at.result in
    let before = subst (λ (s : ℕ). (k : ℕ) → k < at → ¬ (get_or c.args.number.now k 0 ≡ s)) c.byte.ensures c.place_of-at.ensures.before in
    false≢true (c.if-are_digits.ensures.1 (unmarked c.args.mark c.args.number.now at c.place_of-at.ensures.within before c.if-at-number.true has.0 has.1 has.2))

pub returns-then-is_empty-2-clause-none : goal.returns-then-is_empty-2-clause-none
returns-then-is_empty-2-clause-none c = λ count has.
    let text = c.args.number.now in
    let at = c.place_of-at.result in
    let low : at < length text = omega (arith, c.place_of-at.ensures.within, c.if-at-number.false) in
    let before = subst (λ (s : ℕ). (k : ℕ) → k < at → ¬ (get_or text k 0 ≡ s)) c.byte.ensures c.place_of-at.ensures.before in
    let found = subst (λ (s : ℕ). get_or text at 0 ≡ s) c.byte.ensures (c.place_of-at.ensures.found low) in
    let is = behind c.args.mark text at c.place_of-at.ensures.within before low found has.0 has.1 has.2 in
    let same = to_the_end text (at + 1) in
    elim c.then-is_empty-2.branch [
      | then-is_empty-2-via-then-is_empty-2 w ↦ omega (arith, is.1, ap (λ (l : List ℕ). length l) same, eqb-true (length (take (length text - (at + 1)) (drop (at + 1) text))) 0 (sym c.is_empty-2.ensures ∙ w.if-is_empty-2.true))
      | then-is_empty-2-via-else-is_empty-2+then-not-are_digits w ↦ false≢true (w.if-not-are_digits.ensures.1 (subst ArePlain (sym same) is.0))
      | then-is_empty-2-via-else-is_empty-2+else-not-are_digits+then-not-is_whole w ↦ false≢true (w.if-not-is_whole.ensures.1 (subst (λ (g : ℕ). IsWhole g (take at text)) (sym w.group.ensures) is.2))
    ]

pub returns-clause-found : goal.returns-clause-found
returns-clause-found c =
    let text = c.args.number.now in
    let at = c.place_of-at.result in
    let low : at < length text = omega (arith, c.place_of-at.ensures.within, c.if-at-number.false) in
    let before = subst (λ (s : ℕ). (k : ℕ) → k < at → ¬ (get_or text k 0 ≡ s)) c.byte.ensures c.place_of-at.ensures.before in
    let found = subst (λ (s : ℕ). get_or text at 0 ≡ s) c.byte.ensures (c.place_of-at.ensures.found low) in
    let same = to_the_end text (at + 1) in
    let some : 0 < length (drop (at + 1) text) = elim (cases_eq (length (drop (at + 1) text)) 0) [
      | inl none ↦ absurd (false≢true (sym c.if-is_empty-2.false ∙ (c.is_empty-2.ensures ∙ eq-eqb (length (take (length text - (at + 1)) (drop (at + 1) text))) 0 (ap (λ (l : List ℕ). length l) same ∙ none))))
      | inr more ↦ omega (arith, more)
    ] in
    let plain = subst ArePlain same (c.if-not-are_digits.ensures.0 refl) in
    let whole = subst (λ (g : ℕ). IsWhole g (take at text)) c.group.ensures (c.if-not-is_whole.ensures.0 refl) in
    (take at text, drop (at + 1) text, marked c.args.mark text at c.place_of-at.ensures.within before low found plain some whole, λ i. length (sym same i))
