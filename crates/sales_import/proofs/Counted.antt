-- What one row more is counted as.
use Rattle.std.proofs.Common.{◌≡◌, ◌≢◌, ◌⊎◌, ◌∙◌, ◌+◌, ◌^◌, ◌<◌, ◌≤◌, ◌++◌, ◌∷◌, ◌==◌, [], ℕ, ℤ, true, false, List, None, Option, Some, IfSome, ap, append-nil, arith, get_or-set_other, get_or-set_same, inl, inr, length, length-append, refl, subst, sym, unsigned_abs}
use Rattle.std.specs.List.{filter}
use Rattle.std.specs.Prelude.{is_none, slice_index_or, slice_set}
use Rattle.std.proofs.lemmas.Bool.Decides.{eqb_tells}
use Rattle.std.proofs.lemmas.Int.{ints}
use Rattle.std.proofs.lemmas.List.{map-append}
use Rattle.std.proofs.lemmas.List.Elements.{filter-append}
use Rattle.line_split.proofs.IntSums.{int_sum_by_push}
use Rattle.decimal_amounts.specs.declared.amount.AmountFault.TheVariants.{Long, Form, Fine, Large}
use Rattle.sales_lines.specs.declared.reason.Reason.{Reason}
use Rattle.sales_lines.specs.declared.reason.Reason.TheVariants.{Broken, Fields, Usage, Unknown, Unfit, Amount}
use Rattle.value_maps.specs.declared.kind.Kind.TheVariants.{Works, Territories, Rights}
use Rattle.sales_import.specs.Imported.{Reject, Sold, line_amounts, reject_amounts}
use Rattle.sales_import.specs.SoFar.{IsCounted, rejected_for, tally_for}
use Rattle.sales_import.specs.Tallies.{IsSmall, IsWithin, no_rows, place_of, tally_of, with_row}
use Rattle.sales_import.specs.declared.summary.Summary.{Summary}
use Rattle.sales_import.specs.declared.tally.Tally.{Tally}

-- ---- tallies

tally : ℕ → ℕ → ℤ → Tally
tally rows without amount = record { rows = rows; without = without; amount = amount }

same_tally : (r r' w w' : ℕ) (a a' : ℤ) → r ≡ r' → w ≡ w' → a ≡ a' → tally r w a ≡ tally r' w' a'
same_tally r r' w w' a a' rows without amount =
    ap (λ (n : ℕ). tally n w a) rows ∙ ap (λ (n : ℕ). tally r' n a) without ∙ ap (λ (z : ℤ). tally r' w' z) amount

-- what rows come to with one more
pub with_more : (amounts : List (Option ℤ)) (amount : Option ℤ) → tally_of (amounts ++ amount ∷ []) ≡ with_row (tally_of amounts) amount
unfolding tally same_tally
with_more amounts (Some amount) = same_tally _ _ _ _ _ _
    (length-append amounts (Some amount ∷ []))
    (ap length (filter-append is_none amounts (Some amount ∷ []) ∙ append-nil (filter is_none amounts)))
    (int_sum_by_push _ amounts (Some amount))
with_more amounts None = same_tally _ _ _ _ _ _
    (length-append amounts (None ∷ []))
    (ap length (filter-append is_none amounts (None ∷ [])) ∙ length-append (filter is_none amounts) (None ∷ []))
    (int_sum_by_push _ amounts None ∙ omega (arith, ints))

-- ---- one row

pub counts_line : (old new : Summary) (line : Sold)
    → new ≡ record old { all = with_row old.all (Some line.amount); lines = with_row old.lines (Some line.amount) }
    → IsCounted (record { lines = line ∷ []; rejects = []; passed = []; all = Some line.amount ∷ [] }) old new
counts_line old new line is made counted = record {
  all =
      ap (λ (s : Summary). s.all) is ∙ ap (λ (t : Tally). with_row t (Some line.amount)) counted.all
      ∙ sym (with_more made.all (Some line.amount));
  lines =
      ap (λ (s : Summary). s.lines) is ∙ ap (λ (t : Tally). with_row t (Some line.amount)) counted.lines
      ∙ sym (with_more (line_amounts made.lines) (Some line.amount))
      ∙ sym (ap tally_of (map-append (λ (l : Sold). Some l.amount) made.lines (line ∷ [])));
  rejected =
      ap (λ (s : Summary). s.rejected) is ∙ counted.rejected ∙ ap (λ (r : List Reject). tally_of (reject_amounts r)) (sym (append-nil made.rejects));
  reasons = λ reason.
      ap (tally_for reason) is ∙ counted.reasons reason
      ∙ ap (λ (r : List Reject). tally_of (reject_amounts (rejected_for reason r))) (sym (append-nil made.rejects));
  passed = ap (λ (s : Summary). s.passed) is ∙ counted.passed ∙ ap tally_of (sym (append-nil made.passed));
}

pub counts_passed : (old new : Summary) (amount : Option ℤ)
    → new ≡ record old { all = with_row old.all amount; passed = with_row old.passed amount }
    → IsCounted (record { lines = []; rejects = []; passed = amount ∷ []; all = amount ∷ [] }) old new
counts_passed old new amount is made counted = record {
  all = ap (λ (s : Summary). s.all) is ∙ ap (λ (t : Tally). with_row t amount) counted.all ∙ sym (with_more made.all amount);
  lines = ap (λ (s : Summary). s.lines) is ∙ counted.lines ∙ ap (λ (l : List Sold). tally_of (line_amounts l)) (sym (append-nil made.lines));
  rejected =
      ap (λ (s : Summary). s.rejected) is ∙ counted.rejected ∙ ap (λ (r : List Reject). tally_of (reject_amounts r)) (sym (append-nil made.rejects));
  reasons = λ reason.
      ap (tally_for reason) is ∙ counted.reasons reason
      ∙ ap (λ (r : List Reject). tally_of (reject_amounts (rejected_for reason r))) (sym (append-nil made.rejects));
  passed = ap (λ (s : Summary). s.passed) is ∙ ap (λ (t : Tally). with_row t amount) counted.passed ∙ sym (with_more made.passed amount);
}

amounts_more : (rejects : List Reject) (reject : Reject) → tally_of (reject_amounts (rejects ++ reject ∷ [])) ≡ with_row (tally_of (reject_amounts rejects)) reject.amount
amounts_more rejects reject =
    ap tally_of (map-append (λ (r : Reject). r.amount) rejects (reject ∷ [])) ∙ with_more (reject_amounts rejects) reject.amount

pub place_small : (reason : Reason) → place_of reason < 13
place_small Broken = omega arith
place_small Fields = omega arith
place_small Usage = omega arith
place_small (Unknown Works) = omega arith
place_small (Unknown Territories) = omega arith
place_small (Unknown Rights) = omega arith
place_small (Unfit Works) = omega arith
place_small (Unfit Territories) = omega arith
place_small (Unfit Rights) = omega arith
place_small (Amount Long) = omega arith
place_small (Amount Form) = omega arith
place_small (Amount Fine) = omega arith
place_small (Amount Large) = omega arith

-- Rejected rows by a place of each.
module _ (place_in : Reject → ℕ) where
  abbrev at_place : (place : ℕ) → List Reject → List Reject
  at_place place = filter (λ (reject : Reject). place_in reject == place)

  at_place_more : (place : ℕ) (rejects : List Reject) (reject : Reject) → (place_in reject == place) ≡ true
      → at_place place (rejects ++ reject ∷ []) ≡ at_place place rejects ++ reject ∷ []
  at_place_more place rejects reject test =
      filter-append (λ (r : Reject). place_in r == place) rejects (reject ∷ []) ∙ rw test refl

  at_place_same : (place : ℕ) (rejects : List Reject) (reject : Reject) → (place_in reject == place) ≡ false
      → at_place place (rejects ++ reject ∷ []) ≡ at_place place rejects
  at_place_same place rejects reject test =
      filter-append (λ (r : Reject). place_in r == place) rejects (reject ∷ []) ∙ rw test (append-nil (at_place place rejects))

  -- what stands in a place, when a row is counted in its own
  by_place : (tallies : List Tally) (rejects : List Reject) (reject : Reject) (at place : ℕ) → place_in reject ≡ at → at < length tallies
      → slice_index_or tallies at no_rows ≡ tally_of (reject_amounts (at_place at rejects))
      → slice_index_or tallies place no_rows ≡ tally_of (reject_amounts (at_place place rejects))
      → ((at == place) ≡ true) × (at ≡ place) ⊎ ((at == place) ≡ false) × (at ≢ place)
      → slice_index_or (slice_set tallies at (with_row (slice_index_or tallies at no_rows) reject.amount)) place no_rows
      ≡ tally_of (reject_amounts (at_place place (rejects ++ reject ∷ [])))
  by_place tallies rejects reject at place is inside own other (inl (test, same)) =
      let value = with_row (slice_index_or tallies at no_rows) reject.amount in
      let there : slice_index_or (slice_set tallies at value) at no_rows ≡ value = get_or-set_same tallies at value no_rows inside in
      ap (λ (n : ℕ). slice_index_or (slice_set tallies at value) n no_rows) (sym same) ∙ there ∙ ap (λ (t : Tally). with_row t reject.amount) own
      ∙ ap (λ (n : ℕ). with_row (tally_of (reject_amounts (at_place n rejects))) reject.amount) same
      ∙ sym (amounts_more (at_place place rejects) reject)
      ∙ ap (λ (r : List Reject). tally_of (reject_amounts r)) (sym (at_place_more place rejects reject (ap (λ (n : ℕ). n == place) is ∙ test)))
  by_place tallies rejects reject at place is inside own other (inr (test, differ)) =
      let value = with_row (slice_index_or tallies at no_rows) reject.amount in
      let apart : place ≢ at = λ same. differ (sym same) in
      let there : slice_index_or (slice_set tallies at value) place no_rows ≡ slice_index_or tallies place no_rows = get_or-set_other tallies at place value no_rows apart in
      there ∙ other
      ∙ ap (λ (r : List Reject). tally_of (reject_amounts r)) (sym (at_place_same place rejects reject (ap (λ (n : ℕ). n == place) is ∙ test)))

pub counts_reject : (old new : Summary) (reject : Reject) → length old.reasons ≡ 13
    → new ≡ record old {
      all = with_row old.all reject.amount;
      rejected = with_row old.rejected reject.amount;
      reasons = slice_set old.reasons (place_of reject.reason) (with_row (tally_for reject.reason old) reject.amount);
    }
    → IsCounted (record { lines = []; rejects = reject ∷ []; passed = []; all = reject.amount ∷ [] }) old new
counts_reject old new reject count is made counted = record {
  all = ap (λ (s : Summary). s.all) is ∙ ap (λ (t : Tally). with_row t reject.amount) counted.all ∙ sym (with_more made.all reject.amount);
  lines = ap (λ (s : Summary). s.lines) is ∙ counted.lines ∙ ap (λ (l : List Sold). tally_of (line_amounts l)) (sym (append-nil made.lines));
  rejected =
      ap (λ (s : Summary). s.rejected) is ∙ ap (λ (t : Tally). with_row t reject.amount) counted.rejected ∙ sym (amounts_more made.rejects reject);
  reasons = λ reason.
      ap (tally_for reason) is
      ∙ by_place (λ (r : Reject). place_of r.reason) old.reasons made.rejects reject (place_of reject.reason) (place_of reason) refl
      (subst (λ (n : ℕ). place_of reject.reason < n) (sym count) (place_small reject.reason)) (counted.reasons reject.reason)
      (counted.reasons reason) (eqb_tells (place_of reject.reason) (place_of reason));
  passed = ap (λ (s : Summary). s.passed) is ∙ counted.passed ∙ ap tally_of (sym (append-nil made.passed));
}

-- ---- no tally is too large

small_row : (t : Tally) (amount : Option ℤ) → IsSmall t → IfSome amount (λ a. unsigned_abs a ≤ 10 ^ 12) → IsSmall (with_row t amount)
small_row t (Some amount) small one = (omega (arith, ints, small.0, one), omega (arith, small.1))
small_row t None small one = (omega (arith, small.0), omega (arith, small.1))

rows_more : (t : Tally) (amount : Option ℤ) → (with_row t amount).rows ≡ t.rows + 1
rows_more t (Some amount) = refl
rows_more t None = refl

pub within_row : (number : ℕ) (t : Tally) (amount : Option ℤ) → IsWithin number t → IfSome amount (λ a. unsigned_abs a ≤ 10 ^ 12) → IsWithin (number + 1) (with_row t amount)
within_row number t amount within one = (omega (arith, rows_more t amount, within.0), small_row t amount within.1 one)

pub within_more : (number : ℕ) (t : Tally) → IsWithin number t → IsWithin (number + 1) t
within_more number t within = (omega (arith, within.0), within.1)
