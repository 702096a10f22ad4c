use Rattle.std.proofs.Common.{◌≡◌, ◌+◌, ◌<◌, ◌≤◌, ◌+ℤ◌, ℕ, ℤ, pos, Bool, inl, inr, w64, to_z, of_z, unsigned_abs, List, count_by, eqb, length, ltb, map, rules, get_or, take, sym, ap, ◌∙◌, arith}
use Rattle.std.specs.List.Sorted.{IsPermutation, IsSortedBy}
use Rattle.std.proofs.lemmas.Bool.{cases_eq, eq-eqb, ne_eqb}
use Rattle.std.proofs.lemmas.Grind.{get_or-set_at}
use Rattle.std.proofs.lemmas.Int.{ints, to_z-of_z}
use Rattle.std.proofs.lemmas.List.Sorted.{length_permutation}
use Rattle.std.proofs.lemmas.List.{get_or-map, get_or-set_other, get_or_default, length-take-le, take_all}
use Rattle.std.proofs.lemmas.List.Sums.{count_by-le-length, sum_by_more}
use Rattle.line_split.specs.declared.TheConstants.{MOST_AMOUNT}
use Rattle.line_split.specs.declared.contender.Contender.{Contender}
use Rattle.line_split.specs.LargestRemainder.{rank_of}
use Rattle.line_split.specs.Contenders.{place_and_remainder, place_of}
use Rattle.line_split.specs.Signs.{with_sign_of}
use Rattle.line_split.proofs.SumBelow.{bit}
use Rattle.line_split.proofs.Signs.{kept_sum, sign_adds, size_of_signed}
use Rattle.line_split.proofs.Division.{contender_lt, served_once, served_place}
use Rattle.line_split.proofs.portions.give_in_order.Goals as goal

-- any contender, for the reads past a list's end
abbrev none : Contender
none = record { precedence = record { 0 = 0 } }

-- each contender stands at its own place
own_places : (contenders : List Contender) → ((k : ℕ) (d : ℕ × ℕ) → k < length contenders → (get_or (map place_and_remainder contenders) k d).0 ≡ k)
    → (k : ℕ) → k < length contenders → place_of (get_or contenders k none) ≡ k
own_places contenders places k lt = ap (λ (p : ℕ × ℕ). p.0) (sym (get_or-map place_and_remainder contenders k none (0, 0) lt)) ∙ places k (0, 0) lt

-- each contender that is served has a place of the list
served_in_list : (contenders sorted : List Contender) (portions : List (ℕ × ℤ)) (left i : ℕ) → IsPermutation contenders sorted → IsSortedBy contender_lt sorted
    → ((k : ℕ) (d : ℕ × ℕ) → k < length contenders → (get_or (map place_and_remainder contenders) k d).0 ≡ k) → left ≤ length contenders
    → length portions ≡ length contenders → i < length (take left sorted) → place_of (get_or (take left sorted) i none) < length portions
served_in_list contenders sorted portions left i moved up places few each lt =
    let place = served_place contenders sorted none moved up (own_places contenders places) left i (omega (arith, few, length_permutation contenders sorted moved)) lt in
    omega (arith, place, each)

-- the place of the contender that is served is one of the list
place_in_list : (c : goal.After-place) → c.place.result < length c.loop-contender.list
place_in_list c =
    let place = served_in_list c.args.contenders.now c.sort_unstable.new.self c.loop-contender.list c.args.left c.loop-contender.contender-index c.sort_unstable.ensures.permutation
    c.sort_unstable.ensures.sorted c.requires.places c.requires.few (omega (arith, c.requires.each, c.loop-contender.auto.list)) c.loop-contender-test.true in
    omega (arith, place, c.place.ensures)

pub offset_bounds-list-place : goal.offset_bounds-list-place
offset_bounds-list-place c =
    let place = place_in_list c in
    search rules

pub bounds-list-place : goal.bounds-list-place
bounds-list-place c = place_in_list c

pub bounds-list-place-in-loop-contender : goal.bounds-list-place-in-loop-contender
bounds-list-place-in-loop-contender c =
    let place = served_in_list c.args.contenders.now c.sort_unstable.new.self c.loop-contender.list c.args.left c.loop-contender.contender-index c.sort_unstable.ensures.permutation
    c.sort_unstable.ensures.sorted c.requires.places c.requires.few (omega (arith, c.requires.each, c.loop-contender.auto.list)) c.loop-contender-test.true in
    omega (arith, place, c.place.ensures)

-- a portion with some units and one more
unit_more : (amount z : ℤ) (n : ℕ) (u : ℤ) → u ≡ with_sign_of amount 1 → z +ℤ with_sign_of amount n +ℤ u ≡ z +ℤ with_sign_of amount (n + 1)
unit_more amount z n u is =
    ap (λ (v : ℤ). z +ℤ with_sign_of amount n +ℤ v) is
    ∙ (omega (arith, ints)
    ∙ ap (λ (v : ℤ). z +ℤ v) (sign_adds amount n 1))

-- it is kept as it is
unit_kept : (amount z : ℤ) (n left : ℕ) (u y : ℤ) → y ≡ z +ℤ with_sign_of amount n → u ≡ with_sign_of amount 1 → unsigned_abs z + left ≤ MOST_AMOUNT → n < left
    → to_z w64 (of_z w64 (to_z w64 (of_z w64 y) +ℤ to_z w64 (of_z w64 u))) ≡ z +ℤ with_sign_of amount (n + 1)
unit_kept amount z n left u y y_is u_is small few =
    let sum : unsigned_abs (z +ℤ with_sign_of amount n) ≤ unsigned_abs z + unsigned_abs (with_sign_of amount n) = omega (arith, ints) in
    kept_sum y u (omega (arith, sum, ap unsigned_abs y_is, size_of_signed amount n, ap unsigned_abs u_is, size_of_signed amount 1, small, few))
    ∙ (ap (λ (v : ℤ). v +ℤ u) y_is ∙ unit_more amount z n u u_is)

pub loop-contender-preserved : goal.loop-contender-preserved
loop-contender-preserved c k e lt = elim (cases_eq k c.place.result) [
  | inl is ↦
      let old : get_or c.loop-contender.list c.place.result (0, pos 0) ≡ ((get_or c.args.list.now k e).0, (get_or c.args.list.now k e).1 +ℤ with_sign_of a (so_far k)) =
      ap (λ (n : ℕ). get_or c.loop-contender.list n (0, pos 0)) (sym is)
      ∙ (get_or_default c.loop-contender.list k (0, pos 0) e (omega (arith, lt, c.loop-contender.auto.list)) ∙ c.loop-contender.invariant k e lt) in
      get_or-set_at c.loop-contender.list c.place.result k _ e is (omega (arith, lt, is, c.loop-contender.auto.list))
      ∙ ((λ i. (
        (old i).0,
        unit_kept a (get_or c.args.list.now k e).1 (so_far k) c.args.left c.signed-unit.result (get_or c.loop-contender.list c.place.result (0, pos 0)).1
            (ap (λ (p : ℕ × ℤ). p.1) old) c.signed-unit.ensures (c.requires.small k e lt) (omega (arith, few k, c.loop-contender-test.true, length-take-le c.args.left c.sort_unstable.new.self)) i,
      ))
      ∙ ap (λ (n : ℕ). ((get_or c.args.list.now k e).0, (get_or c.args.list.now k e).1 +ℤ with_sign_of a n)) (sym (more k ∙ ap (λ (b : Bool). so_far k + bit b) (eq-eqb (place_of this) k (sym (is ∙ c.place.ensures))))))
  | inr other ↦
      let none_more : so_far k ≡ count_by (λ (t : Contender). eqb (place_of t) k) (take (c.loop-contender.contender-index + 1) served) = omega (arith, more k, ap bit (ne_eqb (place_of this) k (λ same. other (sym (c.place.ensures ∙ same))))) in
      get_or-set_other c.loop-contender.list c.place.result k _ e other
      ∙ (c.loop-contender.invariant k e lt
      ∙ ap (λ (n : ℕ). ((get_or c.args.list.now k e).0, (get_or c.args.list.now k e).1 +ℤ with_sign_of a n)) none_more)
]
  where
    a : ℤ
    a = to_z w64 (of_z w64 c.args.amount)

    served : List Contender
    served = take c.args.left c.sort_unstable.new.self

    this : Contender
    this = get_or served c.loop-contender.contender-index none

    so_far : ℕ → ℕ
    so_far k = count_by (λ (t : Contender). eqb (place_of t) k) (take c.loop-contender.contender-index served)

    more : (k : ℕ) → count_by (λ (t : Contender). eqb (place_of t) k) (take (c.loop-contender.contender-index + 1) served) ≡ so_far k + bit (eqb (place_of this) k)
    more k = sum_by_more (λ (t : Contender). bit (eqb (place_of t) k)) served c.loop-contender.contender-index none c.loop-contender-test.true

    few : (k : ℕ) → so_far k ≤ c.loop-contender.contender-index
    few k = omega (arith, count_by-le-length (λ (t : Contender). eqb (place_of t) k) (take c.loop-contender.contender-index served), length-take-le c.loop-contender.contender-index served (omega (arith, c.loop-contender-test.true)))

pub returns-clause-given : goal.returns-clause-given
returns-clause-given c k d e lt =
    c.loop-contender.invariant k e lt
    ∙ ap (λ (z : ℤ). ((get_or c.args.list.now k e).0, (get_or c.args.list.now k e).1 +ℤ z))
    ((λ i. with_sign_of (to_z-of_z w64 c.args.amount c.ranges.amount i) (count_by (λ (t : Contender). eqb (place_of t) k) (take_all c.loop-contender.contender-index (take c.args.left c.sort_unstable.new.self) c.loop-contender-test.false i)))
    ∙ (ap (with_sign_of c.args.amount) (served_once c.args.contenders.now c.sort_unstable.new.self none c.sort_unstable.ensures.permutation c.sort_unstable.ensures.sorted
    (own_places c.args.contenders.now c.requires.places) c.args.left k (omega (arith, c.requires.few, c.sort_unstable.ensures.len)) (omega (arith, lt, c.requires.each)))
    ∙ ap (λ (t : ℕ × ℕ). with_sign_of c.args.amount (bit (ltb (rank_of (map place_and_remainder c.args.contenders.now) t) c.args.left)))
    (sym (get_or-map place_and_remainder c.args.contenders.now k none d (omega (arith, lt, c.requires.each))))))
