-- Fields of these forms have no line feed.
use Rattle.std.proofs.Common.{◌≡◌, ℕ, List, [], ◌∷◌, Bool, true, All, arith, inl, inr}
use Rattle.std.proofs.lemmas.Bool.{cases_Bool, eqb-true}
use Rattle.std.proofs.lemmas.List.Elements.{All-cons, All-from_get_or, All-nil, All-same, All-weaker}
use Rattle.std.proofs.lemmas.List.Sums.{AllPass-from_list_all}
use Rattle.std.proofs.lemmas.Str.Parse.{digit_at}
use Rattle.std.specs.List.{list_all}
use Rattle.std.specs.Prelude.{◌==◌, not}
use Rattle.std.specs.Str.Parse.{AllDigits}
use Rattle.csv_table.specs.Forms.{IsCode, IsPrintable, IsPrintableByte, IsSignedNumber}
use Rattle.csv_table.specs.Table.{HasNoLineFeed}

abbrev IsOther : ℕ → Type 0
IsOther byte = ¬ (byte ≡ 10)

abbrev is_other : ℕ → Bool
is_other byte = not (byte == 10)

-- a text that is written out, and a row of such texts
none_by_test : (field : List ℕ) → list_all is_other field ≡ true → All IsOther field
none_by_test field passes = All-weaker (λ (byte : ℕ). is_other byte ≡ true) IsOther (λ byte other is. cc (rw is at other)) field (AllPass-from_list_all is_other field passes)

pub none_in_text : (field text : List ℕ) → field ≡ text → list_all is_other text ≡ true → All IsOther field
none_in_text field text is passes = All-same IsOther field text is (none_by_test text passes)

pub none_in_row : (row : List (List ℕ)) → list_all (list_all is_other) row ≡ true → HasNoLineFeed row
none_in_row row passes = All-weaker (λ (field : List ℕ). list_all is_other field ≡ true) (All IsOther) none_by_test row (AllPass-from_list_all (list_all is_other) row passes)

pub none_in_printable : (most : ℕ) (field : List ℕ) → IsPrintable most field → All IsOther field
none_in_printable most field is = All-weaker IsPrintableByte IsOther (λ byte printable. λ feed. absurd (omega (arith, printable.0, feed))) field is.printable

none_in_digits : (field : List ℕ) → AllDigits 10 field → All IsOther field
none_in_digits field digits = All-from_get_or IsOther field 0 (λ i low. λ feed. absurd (omega (arith, (digit_at field i digits low).0, feed)))

pub none_in_code : (field : List ℕ) → IsCode field → All IsOther field
none_in_code field is = none_in_digits field is.digits.1

pub none_in_signed_number : (most : ℕ) (field : List ℕ) → IsSignedNumber most field → All IsOther field
none_in_signed_number most [] is = All-nil IsOther
none_in_signed_number most (c ∷ rest) is = elim (cases_Bool (c == 45)) [
  | inl minus ↦ All-cons IsOther c rest (λ feed. absurd (omega (arith, eqb-true c 45 minus, feed))) (none_in_digits rest (rw minus at is.digits.1))
  | inr none ↦ none_in_digits (c ∷ rest) (rw none at is.digits.1)
]
