-- What some of the portions come to, portion by portion.
use Rattle.std.proofs.Common.{◌≡◌, ◌∙◌, ◌+ℤ◌, ◌+◌, ◌<◌, ◌∷◌, [], ℕ, ℤ, Bool, true, false, List, ap, arith, cond, filter, get_or, length, pos, sym, take}
use Rattle.std.proofs.lemmas.Int.{ints}
use Rattle.std.proofs.lemmas.List.{map_more}
use Rattle.std.proofs.lemmas.List.Elements.{filter-append}
use Rattle.line_split.proofs.IntSums.{int_sum_by-append, plus_none}
use Rattle.line_split.specs.declared.usage.Right.TheVariants.{P}
use Rattle.payee_portions.specs.Portions as portions
use Rattle.payee_portions.specs.Shown.{portion_shown, portions_shown}
use Rattle.payee_portions.specs.Sums.{sum_of}
use Rattle.payee_portions.specs.declared.portion.Portion.{Portion}

-- the amount of a portion, if it is one of those
abbrev amount_if : (portions.Portion → Bool) → portions.Portion → ℤ
amount_if p portion = cond (p portion) portion.amount (pos 0)

alone : (p : portions.Portion → Bool) (portion : portions.Portion) → sum_of (filter p (portion ∷ [])) ≡ amount_if p portion
alone p portion = by (p portion)
  where
    by : (b : Bool) → sum_of (cond b (portion ∷ []) []) ≡ cond b portion.amount (pos 0)
    by true = omega (arith, ints)
    by false = omega (arith, ints)

sum_more : (p : portions.Portion → Bool) (list : List Portion) (place : ℕ) (d : Portion) → place < length list
    → sum_of (filter p (portions_shown (take (place + 1) list))) ≡ sum_of (filter p (portions_shown (take place list))) +ℤ amount_if p (portion_shown (get_or list place d))
sum_more p list place d within =
    let before = portions_shown (take place list) in
    let portion = portion_shown (get_or list place d) in
    ap (λ (l : List portions.Portion). sum_of (filter p l)) (map_more portion_shown list place d within)
    ∙ (ap (λ (l : List portions.Portion). sum_of l) (filter-append p before (portion ∷ []))
    ∙ (int_sum_by-append (λ (q : portions.Portion). q.amount) (filter p before) (filter p (portion ∷ [])) ∙ ap (λ (s : ℤ). sum_of (filter p before) +ℤ s) (alone p portion)))

-- what the code reads past the end of a list
abbrev pub no_portion : Portion
no_portion = record {
  title = record { ref_ptr = (0, 0); now = [] };
  line = record { usage = record { ref_ptr = (0, 0); now = [] }; work = record { ref_ptr = (0, 0); now = [] }; territory = 0; right = P; amount = pos 0 };
  row = 0;
  share = 0;
  base = 0;
  amount = pos 0;
}

-- the next portion is one of those
pub sum_with : (p : portions.Portion → Bool) (list : List Portion) (place : ℕ) (d : Portion) (sum next : ℤ) → place < length list
    → sum ≡ sum_of (filter p (portions_shown (take place list)))
    → p (portion_shown (get_or list place d)) ≡ true → next ≡ sum +ℤ (get_or list place d).amount → next ≡ sum_of (filter p (portions_shown (take (place + 1) list)))
sum_with p list place d sum next within so_far is more =
    more ∙ ((λ i. so_far i +ℤ cond (sym is i) (get_or list place d).amount (pos 0)) ∙ sym (sum_more p list place d within))

-- the next portion is none of those
pub sum_without : (p : portions.Portion → Bool) (list : List Portion) (place : ℕ) (d : Portion) (sum next : ℤ) → place < length list
    → sum ≡ sum_of (filter p (portions_shown (take place list)))
    → p (portion_shown (get_or list place d)) ≡ false → next ≡ sum → next ≡ sum_of (filter p (portions_shown (take (place + 1) list)))
sum_without p list place d sum next within so_far isnt same =
    same ∙ (sym (plus_none sum) ∙ ((λ i. so_far i +ℤ cond (sym isnt i) (get_or list place d).amount (pos 0)) ∙ sym (sum_more p list place d within)))
