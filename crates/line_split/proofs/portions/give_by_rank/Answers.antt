use Rattle.std.proofs.Common.{◌≡◌, ◌+◌, ◌<◌, ◌≤◌, ◌+ℤ◌, ℕ, ℤ, pos, inl, inr, unsigned_abs, w64, to_z, of_z, length, ltb, map, get_or, set, sym, ap, ◌∙◌, arith}
use Rattle.std.proofs.lemmas.Bool.{cases_lt}
use Rattle.std.proofs.lemmas.Bool.Decides.{nat_tests}
use Rattle.std.proofs.lemmas.Grind.{get_or-set_at}
use Rattle.std.proofs.lemmas.Int.{to_z-of_z}
use Rattle.std.proofs.lemmas.List.{get_or_default, get_or-map, get_or-set_other}
use Rattle.line_split.specs.LargestRemainder.{rank_of}
use Rattle.line_split.specs.Contenders.{place_and_remainder, with_unit}
use Rattle.line_split.specs.Signs.{with_sign_of}
use Rattle.line_split.proofs.SumBelow.{bit, from_bool-bit}
use Rattle.line_split.proofs.Signs.{kept_sum, size_of_signed}
use Rattle.line_split.proofs.portions.give_by_rank.Goals as goal

-- a contender that has a unit is one of the first
bit_few : (rank left : ℕ) → bit (ltb rank left) ≤ left
bit_few rank left = grind (arith, nat_tests)

pub loop-place-preserved : goal.loop-place-preserved
loop-place-preserved c = record { given = given; rest = λ k e past. get_or-set_other c.loop-place.list c.loop-place.place k _ e (λ is. omega (arith, is, past)) ∙ c.loop-place.invariant.rest k e (omega arith) }
  where
    lt : c.loop-place.place < length c.args.list.now
    lt = omega (arith, c.loop-place-test.true, c.requires.each)

    here : get_or c.loop-place.list c.loop-place.place (0, pos 0) ≡ get_or c.args.list.now c.loop-place.place (0, pos 0)
    here = c.loop-place.invariant.rest c.loop-place.place (0, pos 0) (omega arith)

    unit : c.from.result ≡ bit (ltb c.rank.result c.args.left)
    unit = c.from.ensures ∙ from_bool-bit (ltb c.rank.result c.args.left)

    kept : to_z w64 (of_z w64 (to_z w64 (of_z w64 (get_or c.loop-place.list c.loop-place.place (0, pos 0)).1) +ℤ to_z w64 (of_z w64 c.signed.result))) ≡ (get_or c.loop-place.list c.loop-place.place (0, pos 0)).1 +ℤ c.signed.result
    kept =
        let small = c.requires.small c.loop-place.place (0, pos 0) lt in
        let size : unsigned_abs c.signed.result ≡ c.from.result = ap unsigned_abs c.signed.ensures ∙ size_of_signed (to_z w64 (of_z w64 c.args.amount)) c.from.result in
        kept_sum (get_or c.loop-place.list c.loop-place.place (0, pos 0)).1 c.signed.result
        (omega (arith, small, ap (λ (p : ℕ × ℤ). unsigned_abs p.1) here, size, unit, bit_few c.rank.result c.args.left))

    rank_here : (k : ℕ) (d : ℕ × ℕ) → k ≡ c.loop-place.place → c.rank.result ≡ rank_of (map place_and_remainder c.args.contenders.now) (get_or (map place_and_remainder c.args.contenders.now) k d)
    rank_here k d is =
        c.rank.ensures
        ∙ (ap (rank_of (map place_and_remainder c.args.contenders.now)) (sym (get_or-map place_and_remainder c.args.contenders.now c.loop-place.place _ d c.loop-place-test.true))
        ∙ ap (λ (n : ℕ). rank_of (map place_and_remainder c.args.contenders.now) (get_or (map place_and_remainder c.args.contenders.now) n d)) (sym is))

    given : (k : ℕ) (d : ℕ × ℕ) (e : ℕ × ℤ) → k < c.loop-place.place + 1
        → get_or (set c.loop-place.list c.loop-place.place ((get_or c.loop-place.list c.loop-place.place (0, pos 0)).0, to_z w64 (of_z w64 (to_z w64 (of_z w64 (get_or c.loop-place.list c.loop-place.place (0, pos 0)).1) +ℤ to_z w64 (of_z w64 c.signed.result))))) k e
        ≡ with_unit (to_z w64 (of_z w64 c.args.amount)) (ltb (rank_of (map place_and_remainder c.args.contenders.now) (get_or (map place_and_remainder c.args.contenders.now) k d)) c.args.left) (get_or c.args.list.now k e)
    given k d e below = elim (cases_lt k c.loop-place.place) [
      | inl less ↦ get_or-set_other c.loop-place.list c.loop-place.place k _ e (λ is. omega (arith, is, less)) ∙ c.loop-place.invariant.given k d e less
      | inr past ↦
          let is : k ≡ c.loop-place.place = omega (arith, below, past) in
          let now : get_or c.loop-place.list c.loop-place.place (0, pos 0) ≡ get_or c.args.list.now k e =
          here ∙ (get_or_default c.args.list.now c.loop-place.place (0, pos 0) e lt ∙ ap (λ (n : ℕ). get_or c.args.list.now n e) (sym is)) in
          get_or-set_at c.loop-place.list c.loop-place.place k _ e is (omega (arith, lt, c.loop-place.auto.list))
          ∙ (ap (λ (z : ℤ). ((get_or c.loop-place.list c.loop-place.place (0, pos 0)).0, z)) kept
          ∙ (ap (λ (p : ℕ × ℤ). (p.0, p.1 +ℤ c.signed.result)) now
          ∙ ap (λ (u : ℤ). ((get_or c.args.list.now k e).0, (get_or c.args.list.now k e).1 +ℤ u))
          (c.signed.ensures
          ∙ ap (with_sign_of (to_z w64 (of_z w64 c.args.amount))) (unit ∙ ap (λ (r : ℕ). bit (ltb r c.args.left)) (rank_here k d is)))))
    ]

pub returns-clause-given : goal.returns-clause-given
returns-clause-given c k d e lt =
    c.loop-place.invariant.given k d e (omega (arith, lt, c.requires.each, c.loop-place-test.false))
    ∙ ap (λ (z : ℤ). with_unit z (ltb (rank_of (map place_and_remainder c.args.contenders.now) (get_or (map place_and_remainder c.args.contenders.now) k d)) c.args.left) (get_or c.args.list.now k e))
    (to_z-of_z w64 c.args.amount c.ranges.amount)
