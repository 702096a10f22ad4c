-- Totals of usage lines, taken one line after another.
use Rattle.std.proofs.Common.{◌≡◌, ◌∙◌, ◌+◌, ◌*◌, ◌<◌, ◌≤◌, ◌++◌, ◌∷◌, [], ℕ, ℤ, pos, ◌+ℤ◌, unsigned_abs, Bool, true, false, List, ap, arith, cond, filter, get_or, length, map, refl, sym, take, to_z, of_z, w64}
use Rattle.std.proofs.lemmas.Int.{fits_signed_from_abs, to_z-of_z}
use Rattle.std.proofs.lemmas.List.{append-nil, get_or-map, get_or_default, length_push}
use Rattle.std.proofs.lemmas.List.Elements.{filter_more}
use Rattle.line_split.proofs.IntSums.{int_sum_by_push, size_plus}
use Rattle.line_split.specs.Signs.{int_sum_by}
use Rattle.line_split.specs.UsageLine.{UsageLine}
use Rattle.line_split.specs.declared.TheConstants.{MOST_AMOUNT}
use Rattle.line_split.specs.declared.TheConstants.{MOST_LINES}
use Rattle.line_split.specs.contracts.reason.Reason.{the_type}
use Rattle.line_split.specs.declared.reason.Reason.{Reason}
use Rattle.line_split.specs.declared.reason.Reason.TheVariants.{Work, Land, Over, Open}
use denote.Enum.Bare.{sameb}
use Rattle.usage_totals.specs.SoFar.{HasRoom, IsWithin, line_at, some_line}
use Rattle.usage_totals.specs.Totals.{is_same, total_of_lines}
use Rattle.usage_totals.specs.declared.total.Total.{Total}

-- of the first items of a list, one more that passes, and one that does not
pub kept_more : {X : Type 0} (p : X → Bool) (xs : List X) (i : ℕ) (x : X) → i < length xs → get_or xs i x ≡ x → p x ≡ true → filter p (take (i + 1) xs) ≡ filter p (take i xs) ++ x ∷ []
kept_more p xs i x below at passes = filter_more p xs i x below ∙ ap (λ y. filter p (take i xs) ++ cond (p y) (y ∷ []) []) at ∙ ap (λ b. filter p (take i xs) ++ cond b (x ∷ []) []) passes

pub left_more : {X : Type 0} (p : X → Bool) (xs : List X) (i : ℕ) (x : X) → i < length xs → get_or xs i x ≡ x → p x ≡ false → filter p (take (i + 1) xs) ≡ filter p (take i xs)
left_more p xs i x below at fails =
    filter_more p xs i x below ∙ ap (λ y. filter p (take i xs) ++ cond (p y) (y ∷ []) []) at ∙ ap (λ b. filter p (take i xs) ++ cond b (x ∷ []) []) fails ∙ append-nil (filter p (take i xs))

-- a line of the list, by its place
pub line_stays : (lines : List UsageLine) (place : ℕ) → place < length lines → get_or lines place (line_at lines place) ≡ line_at lines place
line_stays lines place below = get_or_default lines place (line_at lines place) some_line below

-- the code's test of two reasons is the definition's
pub same_reason : (reason other : Reason) → sameb the_type reason other ≡ is_same other reason
same_reason Work Work = refl
same_reason Work Land = refl
same_reason Work Over = refl
same_reason Work Open = refl
same_reason Land Work = refl
same_reason Land Land = refl
same_reason Land Over = refl
same_reason Land Open = refl
same_reason Over Work = refl
same_reason Over Land = refl
same_reason Over Over = refl
same_reason Over Open = refl
same_reason Open Work = refl
same_reason Open Land = refl
same_reason Open Over = refl
same_reason Open Open = refl

-- whether a line has a reason, by the list of all reasons
pub reason_told : (given : UsageLine → Reason) (reason : Reason) (reasons : List Reason) (lines : List UsageLine) (place : ℕ) (d : Reason) (line : UsageLine) (told : Bool)
    → reasons ≡ map given lines → place < length lines → get_or lines place line ≡ line → told ≡ sameb the_type (get_or reasons place d) reason → is_same reason (given line) ≡ told
reason_told given reason reasons lines place d line told is below at same =
    sym (same ∙ same_reason (get_or reasons place d) reason ∙ ap (λ (l : List Reason). is_same reason (get_or l place d)) is ∙ ap (is_same reason) (get_or-map given lines place line d below ∙ ap given at))

-- one line more
pub total_push : (lines : List UsageLine) (line : UsageLine) (total : Total) → total ≡ total_of_lines lines
    → record { lines = total.lines + 1; amount = total.amount +ℤ line.amount } ≡ total_of_lines (lines ++ line ∷ [])
total_push lines line total is =
    let pushed : record { lines = length lines + 1; amount = (total_of_lines lines).amount +ℤ line.amount } ≡ total_of_lines (lines ++ line ∷ []) =
    λ i. record { lines = sym (length_push lines line) i; amount = sym (int_sum_by_push (λ (l : UsageLine). l.amount) lines line) i } in
    ap (λ (t : Total). record { lines = t.lines + 1; amount = t.amount +ℤ line.amount }) is ∙ pushed

-- an amount is kept as it is
pub amount_kept : (amount : ℤ) → unsigned_abs amount ≤ MOST_AMOUNT → to_z w64 (of_z w64 amount) ≡ amount
amount_kept amount small = to_z-of_z w64 amount (fits_signed_from_abs w64 amount (omega (arith, small)))

-- a total of so many lines at most
pub within_none : IsWithin 0 (record { lines = 0; amount = pos 0 })
within_none = record { few = omega arith; small = omega arith }

pub within_later : (count : ℕ) (total : Total) → IsWithin count total → IsWithin (count + 1) total
within_later count total is = record { few = omega (arith, is.few); small = is.small }

pub within_more : (count : ℕ) (total : Total) (amount : ℤ) → IsWithin count total → unsigned_abs amount ≤ MOST_AMOUNT
    → IsWithin (count + 1) (record { lines = total.lines + 1; amount = total.amount +ℤ amount })
within_more count total amount is small = record {
  few = omega (arith, is.few);
  small = omega (arith, size_plus total.amount amount (total.lines * MOST_AMOUNT) MOST_AMOUNT is.small small);
}

pub room_of : (count : ℕ) (total : Total) → IsWithin count total → count < MOST_LINES → HasRoom total
room_of count total is few = record { few = omega (arith, is.few, few); small = is.small }

-- a sum over the lines that pass: one more that does, and one that does not
module _ (p : UsageLine → Bool) (portion : UsageLine → ℤ) (lines : List UsageLine) (place : ℕ) (line : UsageLine) (below : place < length lines) (at : get_or lines place line ≡ line) where
  pub sum_more : (so_far : ℤ) → p line ≡ true → so_far ≡ int_sum_by portion (filter p (take place lines)) → so_far +ℤ portion line ≡ int_sum_by portion (filter p (take (place + 1) lines))
  sum_more so_far passes is =
      ap (λ (z : ℤ). z +ℤ portion line) is ∙ sym (int_sum_by_push portion (filter p (take place lines)) line) ∙ ap (int_sum_by portion) (sym (kept_more p lines place line below at passes))

  pub sum_same : (so_far : ℤ) → p line ≡ false → so_far ≡ int_sum_by portion (filter p (take place lines)) → so_far ≡ int_sum_by portion (filter p (take (place + 1) lines))
  sum_same so_far fails is = is ∙ ap (int_sum_by portion) (sym (left_more p lines place line below at fails))
