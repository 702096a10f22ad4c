-- Where the mark of a number stands, and what its digits write.
use Rattle.std.proofs.Common.{◌≡◌, ◌∙◌, ◌≤◌, ◌<◌, ◌+◌, ◌-◌, ◌*◌, ◌%◌, ◌++◌, ◌∷◌, [], ℕ, List, All, true, false, cond, drop, get_or, length, suc, take, ap, arith, inl, inr, refl, subst}
use Rattle.std.proofs.Common.{sym, append-nil}
use Rattle.std.specs.List.{filter}
use Rattle.std.specs.Str.Parse.{digits_value}
use Rattle.std.proofs.Math.Seq.{drop-cons, get_or-append_seam}
use Rattle.std.proofs.lemmas.Bool.{cases_eq}
use Rattle.std.proofs.lemmas.Bool.Decides.{nat_tests}
use Rattle.std.proofs.lemmas.Int.Digits.{digits_value_push}
use Rattle.std.proofs.lemmas.List.{get_or-take, length-append, length-take-le, take-append-drop}
use Rattle.std.proofs.lemmas.List.Elements.{All-from_get_or, All-get_or, All-head, All-tail, All-weaker, filter_more}
use Rattle.std.proofs.lemmas.Str.{digit_value_digit}
use Rattle.decimal_amounts.specs.declared.amount.Mark.{Mark}
use Rattle.decimal_amounts.specs.declared.amount.Mark.TheVariants.{Point, Comma}
use Rattle.decimal_amounts.specs.Decimals.{ArePlain, IsDigit, IsNumber, IsWhole, group_byte, is_digit, mark_byte, value_of}

-- ---- digits

pub digit_true : (byte : ℕ) → IsDigit byte → is_digit byte ≡ true
digit_true byte digit = grind (arith, nat_tests)

pub digit_false : (byte : ℕ) → ¬ IsDigit byte → is_digit byte ≡ false
digit_false byte none = grind (arith, nat_tests)

module _ (text : List ℕ) (i : ℕ) (within : i < length text) where
  -- one digit more
  pub value_digit : IsDigit (get_or text i 0) → value_of (take (i + 1) text) ≡ value_of (take i text) * 10 + (get_or text i 0 - 48)
  value_digit digit =
      let more : filter is_digit (take (i + 1) text) ≡ filter is_digit (take i text) ++ get_or text i 0 ∷ [] =
      filter_more is_digit text i 0 within
      ∙ ap (λ b. filter is_digit (take i text) ++ cond b (get_or text i 0 ∷ []) []) (digit_true (get_or text i 0) digit) in
      omega (arith, ap (digits_value 10) more, digits_value_push 10 (filter is_digit (take i text)) (get_or text i 0), digit_value_digit (get_or text i 0) digit)

  -- or a byte that is none
  pub value_other : ¬ IsDigit (get_or text i 0) → value_of (take (i + 1) text) ≡ value_of (take i text)
  value_other none =
      ap (digits_value 10) (filter_more is_digit text i 0 within
      ∙ (ap (λ b. filter is_digit (take i text) ++ cond b (get_or text i 0 ∷ []) []) (digit_false (get_or text i 0) none)
      ∙ append-nil (filter is_digit (take i text))))

-- ---- bytes that are not the mark

abbrev IsNot : (sought byte : ℕ) → Type 0
IsNot sought byte = ¬ (byte ≡ sought)

digit_is_not : (mark : Mark) (byte : ℕ) → IsDigit byte → IsNot (mark_byte mark) byte
digit_is_not Point byte digit same = omega (arith, digit.0, same)
digit_is_not Comma byte digit same = omega (arith, digit.0, same)

group_is_not : (mark : Mark) → IsNot (mark_byte mark) (group_byte mark)
group_is_not Point same = omega (arith, same)
group_is_not Comma same = omega (arith, same)

plain_has_none : (mark : Mark) (text : List ℕ) → ArePlain text → All (IsNot (mark_byte mark)) text
plain_has_none mark text = All-weaker IsDigit (IsNot (mark_byte mark)) (digit_is_not mark) text

whole_has_none : (mark : Mark) (text : List ℕ) → IsWhole (group_byte mark) text → All (IsNot (mark_byte mark)) text
whole_has_none mark text (inl plain) = plain_has_none mark text plain
whole_has_none mark text (inr groups) = All-from_get_or (IsNot (mark_byte mark)) text 0 (λ i within. elim (cases_eq ((length text - i) % 4) 0) [
  | inl between ↦ λ same. group_is_not mark (sym ((groups.each i within).0 between) ∙ same)
  | inr digit ↦ digit_is_not mark (get_or text i 0) ((groups.each i within).1 digit)
])

-- Two texts that are cut at the first such byte are cut alike.
split_same : (m : ℕ) (w v d e : List ℕ) → All (IsNot m) w → All (IsNot m) v → w ++ m ∷ d ≡ v ++ m ∷ e → (w ≡ v) × (d ≡ e)
split_same m [] [] d e none others same = (refl, cc)
split_same m [] (y ∷ v) d e none others same = absurd (All-head (IsNot m) y v others (let first : m ≡ y = cc in sym first))
split_same m (x ∷ w) [] d e none others same = absurd (All-head (IsNot m) x w none (let first : x ≡ m = cc in first))
split_same m (x ∷ w) (y ∷ v) d e none others same =
    let first : x ≡ y = cc in
    let left : w ++ m ∷ d ≡ v ++ m ∷ e = cc in
    let rest = split_same m w v d e (All-tail (IsNot m) x w none) (All-tail (IsNot m) y v others) left in
    (λ i. first i ∷ rest.0 i, rest.1)

-- ---- a number by the place of its mark

module _ (mark : Mark) (text : List ℕ) where
  abbrev m : ℕ
  m = mark_byte mark

  -- digits alone have no mark
  plain_apart : (w d : List ℕ) → ArePlain text → ¬ (text ≡ w ++ m ∷ d)
  plain_apart w d plain same =
      let within : length w < length text = omega (arith, ap (λ (l : List ℕ). length l) same, length-append w (m ∷ d)) in
      All-get_or (IsNot m) text (length w) 0 within (plain_has_none mark text plain) (ap (λ l. get_or l (length w) 0) same ∙ get_or-append_seam w m d 0)

  -- a number has one list of decimals
  pub decimals_one : (w d v e : List ℕ) → IsNumber mark text w d → IsNumber mark text v e → d ≡ e
  decimals_one w d v e one other = elim one.form [
    | inl (is, none, plain) ↦ elim other.form [
      | inl (is', none', plain') ↦ none ∙ sym none'
      | inr (is', some', whole') ↦ absurd (plain_apart v e (subst ArePlain (sym is) plain) is')
    ]
    | inr (is, some, whole) ↦ elim other.form [
      | inl (is', none', plain') ↦ absurd (plain_apart w d (subst ArePlain (sym is') plain') is)
      | inr (is', some', whole') ↦ (split_same m w v d e (whole_has_none mark w whole) (whole_has_none mark v whole') (sym is ∙ is')).1
    ]
  ]

  module _ (at : ℕ) (inside : at ≤ length text) (before : (k : ℕ) → k < at → ¬ (get_or text k 0 ≡ m)) where
    -- where it has none, it is digits alone
    pub unmarked : at ≡ length text → (w d : List ℕ) → IsNumber mark text w d → ArePlain text
    unmarked end w d number = elim number.form [
      | inl (is, none, plain) ↦ subst ArePlain (sym is) plain
      | inr (is, some, whole) ↦
          let within : length w < length text = omega (arith, ap (λ (l : List ℕ). length l) is, length-append w (m ∷ d)) in
          absurd (before (length w) (omega (arith, within, end)) (ap (λ l. get_or l (length w) 0) is ∙ get_or-append_seam w m d 0))
    ]

    module _ (low : at < length text) (found : get_or text at 0 ≡ m) where
      cut : text ≡ take at text ++ m ∷ drop (at + 1) text
      cut =
          let next : suc at ≡ at + 1 = omega arith in
          sym (take-append-drop at text) ∙ ap (λ l. take at text ++ l) (drop-cons text at 0 low ∙ (λ i. found i ∷ drop (next i) text))

      none_before : All (IsNot m) (take at text)
      none_before = All-from_get_or (IsNot m) (take at text) 0 (λ k within same.
          let under : k < at = omega (arith, within, length-take-le at text inside) in
          before k under (sym (get_or-take at text k 0 under) ∙ same))

      -- what stands before and behind the mark makes it a number, and else it is none
      pub marked : ArePlain (drop (at + 1) text) → 0 < length (drop (at + 1) text) → IsWhole (group_byte mark) (take at text) → IsNumber mark text (take at text) (drop (at + 1) text)
      marked plain some whole = record { some = omega (arith, low); form = inr (cut, some, whole); plain = plain }

      pub behind : (w d : List ℕ) → IsNumber mark text w d → ArePlain (drop (at + 1) text) × (0 < length (drop (at + 1) text)) × IsWhole (group_byte mark) (take at text)
      behind w d number = elim number.form [
        | inl (is, none, plain) ↦ absurd (digit_is_not mark (get_or text at 0) (All-get_or IsDigit text at 0 low (subst ArePlain (sym is) plain)) found)
        | inr (is, some, whole) ↦
            let same = split_same m w (take at text) d (drop (at + 1) text) (whole_has_none mark w whole) none_before (sym is ∙ cut) in
            (subst ArePlain same.1 number.plain, subst (λ (l : List ℕ). 0 < length l) same.1 some, subst (IsWhole (group_byte mark)) same.0 whole)
      ]
