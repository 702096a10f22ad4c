-- The lists of the definitions, read place by place.
use Rattle.std.proofs.Common.{◌≡◌, ℕ, ◌+◌, ◌-◌, ◌<◌, ltb, List, length, map, get_or, sum_by, sym, ap, ◌∙◌}
use Rattle.std.specs.List.{enumerate_from}
use Rattle.std.proofs.lemmas.List.{get_or-map, length-map}
use Rattle.std.proofs.lemmas.List.FromFn.{length-enumerate_from}
use Rattle.line_split.specs.LargestRemainder.{quota_of, remainder_of, units_left, contenders_of, comes_before, rank_of, portion_of, portions_among}
use Rattle.line_split.specs.FairSplit.{value_at}
use Rattle.line_split.proofs.Enumerated.{enumerated}
use Rattle.line_split.proofs.SumBelow.{sum_below, bit, same_sums, sum_by-places}
use Rattle.line_split.proofs.Ranks.{comes_before_by, rank}
use Rattle.line_split.proofs.Quotas.{left, remainders, portion}

-- an entry's number, at a place of the list
pub number_at_is : (list : List (ℕ × ℕ)) (i : ℕ) (d : ℕ × ℕ) → i < length list → (get_or list i d).1 ≡ value_at list i
number_at_is list i d lt = sym (get_or-map (λ e. e.1) list i d 0 lt)

-- a sum over the numbers of the entries
pub sum_by_number : (f : ℕ → ℕ) (list : List (ℕ × ℕ)) → sum_by (λ e. f e.1) list ≡ sum_below (length list) (λ i. f (value_at list i))
sum_by_number f list = sum_by-places (λ e. f e.1) list (0, 0)
    ∙ same_sums (length list) (λ i. f (get_or list i (0, 0)).1) (λ i. f (value_at list i)) (λ i lt. ap f (number_at_is list i (0, 0) lt))

module _ (amount base : ℕ) (participants : List (ℕ × ℕ)) where
  pub units_left_is : units_left amount base participants ≡ left (length participants) amount base (value_at participants)
  units_left_is = ap (λ (x : ℕ). amount - x) (sum_by_number (quota_of amount base) participants)

  pub contender_at : (j : ℕ) (d : ℕ × ℕ) → j < length participants
      → get_or (contenders_of amount base participants) j d ≡ (j, remainders amount base (value_at participants) j)
  contender_at j d lt =
      let inner : get_or (map (λ p. remainder_of amount base p.1) participants) j d.1 ≡ remainders amount base (value_at participants) j =
      get_or-map (λ p. remainder_of amount base p.1) participants j (0, 0) d.1 lt
      ∙ ap (remainder_of amount base) (number_at_is participants j (0, 0) lt) in
      enumerated (map (λ p. remainder_of amount base p.1) participants) j d
      (rw (length-map participants (λ p. remainder_of amount base p.1)) lt)
      ∙ ap (λ (r : ℕ). (j, r)) inner

  pub rank_is : (i : ℕ) → rank_of (contenders_of amount base participants) (i, remainders amount base (value_at participants) i)
      ≡ rank (length participants) (remainders amount base (value_at participants)) i
  rank_is i =
      sum_by-places (λ other. bit (comes_before other (i, remainders amount base (value_at participants) i))) (contenders_of amount base participants) (0, 0)
      ∙ (ap (λ (n : ℕ). sum_below n (λ j. bit (comes_before (get_or (contenders_of amount base participants) j (0, 0)) (i, remainders amount base (value_at participants) i))))
      (length-enumerate_from 0 (map (λ p. remainder_of amount base p.1) participants) ∙ length-map participants (λ p. remainder_of amount base p.1))
      ∙ same_sums (length participants) (λ j. bit (comes_before (get_or (contenders_of amount base participants) j (0, 0)) (i, remainders amount base (value_at participants) i)))
      (λ j. bit (comes_before_by (remainders amount base (value_at participants)) j i))
      (λ j lt. ap (λ (contender : ℕ × ℕ). bit (comes_before contender (i, remainders amount base (value_at participants) i))) (contender_at j (0, 0) lt)))

  pub portion_is : (i : ℕ) → portion_of amount base participants i (value_at participants i) ≡ portion (length participants) amount base (value_at participants) i
  portion_is i = ap (λ (k : ℕ). quota_of amount base (value_at participants i) + bit (ltb k (units_left amount base participants))) (rank_is i)
      ∙ ap (λ (l : ℕ). quota_of amount base (value_at participants i) + bit (ltb (rank (length participants) (remainders amount base (value_at participants)) i) l)) units_left_is

  pub length-portions : length (portions_among amount base participants) ≡ length participants
  length-portions =
      length-map (enumerate_from 0 participants) (λ e. (e.1.0, portion_of amount base participants e.0 e.1.1))
      ∙ length-enumerate_from 0 participants

  -- the entry at a place: the participant's account and its portion
  pub portion_at : (i : ℕ) (d : ℕ × ℕ) → i < length participants
      → get_or (portions_among amount base participants) i d
      ≡ ((get_or participants i (0, 0)).0, portion (length participants) amount base (value_at participants) i)
  portion_at i d lt =
      get_or-map (λ e. (e.1.0, portion_of amount base participants e.0 e.1.1)) (enumerate_from 0 participants) i (0, (0, 0)) d
      (rw (length-enumerate_from 0 participants) lt)
      ∙ (ap (λ (e : ℕ × (ℕ × ℕ)). (e.1.0, portion_of amount base participants e.0 e.1.1)) (enumerated participants i (0, (0, 0)) lt)
      ∙ ap (λ (p : ℕ). ((get_or participants i (0, 0)).0, p))
      (ap (portion_of amount base participants i) (number_at_is participants i (0, 0) lt) ∙ portion_is i))
