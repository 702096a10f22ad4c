-- That the whole comes to its parts.
use Rattle.std.proofs.Common.{◌≡◌, ◌∙◌, ◌+◌, ◌+ℤ◌, ◌∷◌, [], ℕ, ℤ, pos, List, None, Option, Some, ap, arith, fold, length, refl, subst, sym}
use Rattle.std.specs.List.{filter, sum_by}
use Rattle.std.specs.Prelude.{is_none, unwrap_or}
use Rattle.std.proofs.lemmas.Int.{ints}
use Rattle.std.proofs.lemmas.List.{length-map}
use Rattle.line_split.proofs.IntSums.{int_sum_by-cons}
use Rattle.sales_lines.specs.declared.outcome.Outcome.{Outcome}
use Rattle.sales_lines.specs.declared.outcome.Outcome.TheVariants.{Passed, Rejected, Line}
use Rattle.sales_lines.specs.declared.reason.Reason.{Reason}
use Rattle.sales_lines.specs.declared.reason.Reason.TheVariants.{Broken, Fields, Usage, Unknown, Unfit, Amount}
use Rattle.sales_lines.specs.declared.settings.Settings.{Settings}
use Rattle.decimal_amounts.specs.declared.amount.AmountFault.TheVariants.{Long, Form, Fine, Large}
use Rattle.value_maps.specs.declared.kind.Kind.TheVariants.{Works, Territories, Rights}
use Rattle.sales_import.specs.Imported.{AreMade, Made, Reject, both, line_amounts, made_by, reject_amounts}
use Rattle.sales_import.specs.SoFar.{AddsUp, AreCounted, rejected_for, tally_for}
use Rattle.sales_import.specs.Tallies.{all_reasons, sum_of}
use Rattle.sales_import.specs.declared.summary.Summary.{Summary}
use Rattle.sales_import.specs.declared.tally.Tally.{Tally}

-- how many amounts cannot be read
abbrev none_in : List (Option ℤ) → ℕ
none_in amounts = length (filter is_none amounts)

-- what is made of rows is parted in three
record IsParted (count : ℕ) (made : Made) : Type 0 where
  all : length made.all ≡ count
  rows : length made.all ≡ length (line_amounts made.lines) + length (reject_amounts made.rejects) + length made.passed
  without : none_in made.all ≡ none_in (line_amounts made.lines) + none_in (reject_amounts made.rejects) + none_in made.passed
  amount : sum_of made.all ≡ sum_of (line_amounts made.lines) +ℤ sum_of (reject_amounts made.rejects) +ℤ sum_of made.passed

none_more : (amount : Option ℤ) (amounts : List (Option ℤ)) → none_in (amount ∷ amounts) ≡ none_in (amount ∷ []) + none_in amounts
none_more (Some amount) amounts = omega arith
none_more None amounts = omega arith

worth : Option ℤ → ℤ
worth amount = unwrap_or amount (pos 0)

sum_more : (amount : Option ℤ) (amounts : List (Option ℤ)) → sum_of (amount ∷ amounts) ≡ worth amount +ℤ sum_of amounts
unfolding worth
sum_more amount amounts = int_sum_by-cons (λ (a : Option ℤ). unwrap_or a (pos 0)) amount amounts

with_one : (count number : ℕ) (row : List (List ℕ)) (outcome : Outcome) (amount : Option ℤ) (others : Made) → IsParted count others
    → IsParted (count + 1) (both (made_by number row outcome amount) others)
with_one count number row Passed amount others parted = record {
  all = omega (arith, parted.all);
  rows = omega (arith, parted.rows);
  without = omega (arith, parted.without, none_more amount others.all, none_more amount others.passed);
  amount = omega (arith, ints, parted.amount, sum_more amount others.all, sum_more amount others.passed);
}
with_one count number row (Rejected reason) amount others parted = record {
  all = omega (arith, parted.all);
  rows = omega (arith, parted.rows);
  without = omega (arith, parted.without, none_more amount others.all, none_more amount (reject_amounts others.rejects));
  amount = omega (arith, ints, parted.amount, sum_more amount others.all, sum_more amount (reject_amounts others.rejects));
}
with_one count number row (Line line) amount others parted = record {
  all = omega (arith, parted.all);
  rows = omega (arith, parted.rows);
  without = omega (arith, parted.without, none_more (Some line.amount) others.all, none_more (Some line.amount) (line_amounts others.lines));
  amount = omega (arith, ints, parted.amount, sum_more (Some line.amount) others.all, sum_more (Some line.amount) (line_amounts others.lines));
}

parted_all : (settings : Settings) (number : ℕ) (rows : List (List (List ℕ))) (made : Made) → AreMade settings number rows made → IsParted (length rows) made
parted_all settings number [] made none =
    subst (IsParted 0) (sym none) (record { all = refl; rows = refl; without = refl; amount = refl })
parted_all settings number (row ∷ rows) made (own, others, (outcome, amount, is, counted, same), are, all) =
    let rest = parted_all settings (number + 1) rows others are in
    let count : length rows + 1 ≡ length (row ∷ rows) = omega arith in
    let first : IsParted (length rows + 1) (both own others) =
    subst (λ (it : Made). IsParted (length rows + 1) (both it others)) (sym same) (with_one (length rows) number row outcome amount others rest) in
    subst (IsParted (length (row ∷ rows))) (sym all) (subst (λ (n : ℕ). IsParted n (both own others)) count first)

-- ---- the reasons

by_reasons : List Reject → ℕ
by_reasons rejects = sum_by (λ reason. length (rejected_for reason rejects)) all_reasons

one_more : (reason : Reason) (number : ℕ) (row : List (List ℕ)) (amount : Option ℤ) (rejects : List Reject)
    → by_reasons (record { number = number; reason = reason; row = row; amount = amount } ∷ rejects) ≡ by_reasons rejects + 1
unfolding by_reasons
one_more Broken number row amount rejects = omega arith
one_more Fields number row amount rejects = omega arith
one_more Usage number row amount rejects = omega arith
one_more (Unknown Works) number row amount rejects = omega arith
one_more (Unknown Territories) number row amount rejects = omega arith
one_more (Unknown Rights) number row amount rejects = omega arith
one_more (Unfit Works) number row amount rejects = omega arith
one_more (Unfit Territories) number row amount rejects = omega arith
one_more (Unfit Rights) number row amount rejects = omega arith
one_more (Amount Long) number row amount rejects = omega arith
one_more (Amount Form) number row amount rejects = omega arith
one_more (Amount Fine) number row amount rejects = omega arith
one_more (Amount Large) number row amount rejects = omega arith

all_by_reasons : (rejects : List Reject) → by_reasons rejects ≡ length rejects
unfolding by_reasons
all_by_reasons [] = refl
all_by_reasons (reject ∷ rejects) =
    let more : by_reasons (reject ∷ rejects) ≡ by_reasons rejects + 1 = one_more reject.reason reject.number reject.row reject.amount rejects in
    let rest = all_by_reasons rejects in
    more ∙ omega (arith, rest)

sums_same : (f g : Reason → ℕ) → ((reason : Reason) → f reason ≡ g reason) → (start : ℕ) (reasons : List Reason)
    → fold (λ (sum : ℕ) (reason : Reason). sum + f reason) start reasons ≡ fold (λ (sum : ℕ) (reason : Reason). sum + g reason) start reasons
sums_same f g same start [] = refl
sums_same f g same start (reason ∷ reasons) =
    ap (λ (n : ℕ). fold (λ (sum : ℕ) (r : Reason). sum + f r) (start + n) reasons) (same reason) ∙ sums_same f g same (start + g reason) reasons

reasons_told : (made : Made) (told : Summary) → AreCounted made told → sum_by (λ reason. (tally_for reason told).rows) all_reasons ≡ by_reasons made.rejects
unfolding by_reasons
reasons_told made told counted = sums_same (λ reason. (tally_for reason told).rows) (λ reason. length (rejected_for reason made.rejects))
    (λ reason.
    ap (λ (t : Tally). t.rows) (counted.reasons reason)
    ∙ length-map (rejected_for reason made.rejects) (λ (reject : Reject). reject.amount))
    0 all_reasons

pub adds_up : (settings : Settings) (number : ℕ) (rows : List (List (List ℕ))) (made : Made) (told : Summary) → AreMade settings number rows made
    → AreCounted made told → AddsUp (length rows) told
adds_up settings number rows made told are counted =
    let parted = parted_all settings number rows made are in
    rw (counted.all, counted.lines, counted.rejected, counted.passed)
    (record {
      all = parted.all;
      rows = parted.rows;
      without = parted.without;
      amount = parted.amount;
      reasons = reasons_told made told counted ∙ all_by_reasons made.rejects
          ∙ sym (length-map made.rejects (λ (reject : Reject). reject.amount));
    })
