-- Usage lines that are kept in two lists.
use Rattle.std.proofs.Common.{◌≡◌, ◌<◌, ◌≤◌, ◌+◌, ◌++◌, ◌∷◌, [], ℕ, List, zero, suc, ap, arith, get_or, length, refl, subst, sym}
use Rattle.std.proofs.lemmas.List.{length-append, length_push}
use Rattle.std.proofs.lemmas.List.Elements.{All-append, All-push}
use Rattle.std.specs.List.{slice_get}
use Rattle.std.specs.declared.option.Option.TheVariants.{Some}
use Rattle.line_split.specs.KeptLines.{line_with, lines_of}
use Rattle.line_split.specs.UsageLine.{UsageLine}
use Rattle.line_split.specs.UsageLines.{AreUsageLines, IsUsageLine}
use Rattle.line_split.specs.declared.TheConstants.{MOST_LINES}
use Rattle.line_split.specs.declared.usage.UsageDetail.{UsageDetail}

pub length-lines_of : (names : List (List ℕ)) (details : List UsageDetail) → length names ≡ length details → length (lines_of names details) ≡ length details
length-lines_of [] [] paired = refl
length-lines_of [] (detail ∷ details) paired = absurd (omega (arith, paired))
length-lines_of (name ∷ names) [] paired = absurd (omega (arith, paired))
length-lines_of (name ∷ names) (detail ∷ details) paired = let rest = length-lines_of names details (omega (arith, paired)) in omega (arith, rest)

-- the line at a place
pub line_at : (names : List (List ℕ)) (details : List UsageDetail) (i : ℕ) (name : List ℕ) (detail : UsageDetail) → length names ≡ length details → i < length details
    → slice_get (lines_of names details) i ≡ Some (line_with (get_or names i name) (get_or details i detail))
line_at [] [] i name detail paired inside = absurd (omega (arith, inside))
line_at [] (_ ∷ details) i name detail paired inside = absurd (omega (arith, paired))
line_at (_ ∷ names) [] i name detail paired inside = absurd (omega (arith, paired))
line_at (first ∷ names) (first_use ∷ details) zero name detail paired inside = refl
line_at (first ∷ names) (first_use ∷ details) (suc i) name detail paired inside = line_at names details i name detail (omega (arith, paired)) (omega (arith, inside))

-- one more line
pub lines_push : (names : List (List ℕ)) (details : List UsageDetail) (name : List ℕ) (detail : UsageDetail) → length names ≡ length details
    → lines_of (names ++ name ∷ []) (details ++ detail ∷ []) ≡ lines_of names details ++ line_with name detail ∷ []
lines_push [] [] name detail paired = refl
lines_push [] (_ ∷ details) name detail paired = absurd (omega (arith, paired))
lines_push (_ ∷ names) [] name detail paired = absurd (omega (arith, paired))
lines_push (first ∷ names) (first_use ∷ details) name detail paired =
    ap (λ (l : List UsageLine). line_with first first_use ∷ l) (lines_push names details name detail (omega (arith, paired)))

-- those of two such lists, one behind the other
pub lines_append : (names more : List (List ℕ)) (details others : List UsageDetail) → length names ≡ length details → lines_of (names ++ more) (details ++ others) ≡ lines_of names details ++ lines_of more others
lines_append [] more [] others paired = refl
lines_append [] more (_ ∷ details) others paired = absurd (omega (arith, paired))
lines_append (_ ∷ names) more [] others paired = absurd (omega (arith, paired))
lines_append (name ∷ names) more (detail ∷ details) others paired = ap (λ (l : List UsageLine). line_with name detail ∷ l) (lines_append names more details others (omega (arith, paired)))

-- which keep to the limits as the two do
pub joined_keep : (names more : List (List ℕ)) (details others : List UsageDetail) → length names ≡ length details → length more ≡ length others → AreUsageLines (lines_of names details) → AreUsageLines (lines_of more others)
    → length (lines_of names details) + length (lines_of more others) ≤ MOST_LINES → (length (names ++ more) ≡ length (details ++ others)) × AreUsageLines (lines_of (names ++ more) (details ++ others))
joined_keep names more details others paired alike first second few = (
  omega (arith, paired, alike, length-append names more, length-append details others),
  subst AreUsageLines (sym (lines_append names more details others paired)) record {
    few = omega (arith, few, length-append (lines_of names details) (lines_of more others));
    each = All-append IsUsageLine (lines_of names details) (lines_of more others) first.each second.each;
  },
)

-- and keep to them with one more
pub pushed_keep : (names : List (List ℕ)) (details : List UsageDetail) (name : List ℕ) (detail : UsageDetail) (line : UsageLine) → length names ≡ length details → AreUsageLines (lines_of names details)
    → length (lines_of names details) < MOST_LINES → IsUsageLine line → line_with name detail ≡ line
    → (length (names ++ name ∷ []) ≡ length (details ++ detail ∷ [])) × AreUsageLines (lines_of (names ++ name ∷ []) (details ++ detail ∷ []))
pushed_keep names details name detail line paired are few sound same = (
  omega (arith, paired, length_push names name, length_push details detail),
  subst AreUsageLines (sym (lines_push names details name detail paired)) record {
    few = omega (arith, few, length_push (lines_of names details) (line_with name detail));
    each = All-push IsUsageLine (lines_of names details) (line_with name detail) are.each (rw same sound);
  },
)
