use Rattle.std.proofs.Common.{◌≡◌, ◌==◌, ◌<◌, ◌≤◌, ◌++◌, ◌∷◌, [], ℕ, zero, suc, false, arith, eqb-true, length, map, pos, refl, sym, take, unsigned_abs}
use Rattle.std.proofs.lemmas.Bool.{false≢true}
use Rattle.line_split.specs.declared.TheConstants.{MOST_AMOUNT}
use Rattle.usage_totals.specs.SoFar.{AreCounted, amount_at}
use Rattle.usage_totals.proofs.ByKeyLemmas.{nothing, total_with}
use Rattle.usage_totals.proofs.CountedLemmas.{cases_of, counted_first, counted_next, first_is, greatest_all, greatest_none, last_is}
use Rattle.usage_totals.proofs.TotalLemmas.{amount_kept, within_more, within_none}
use Rattle.usage_totals.proofs.by_key.greatest_of.Goals as goal

pub returns-then-is_empty : goal.returns-then-is_empty
returns-then-is_empty g c =
    greatest_none g.K.PartialEq.eq g.met.K.Eq.laws g.K.Ord.cmp c.args.most (amount_at g.K.Key.key c.args.usage.now) c.args.places.now _
    (eqb-true (length c.args.places.now) 0 (sym c.if-is_empty.ensures)) c.new.ensures.items refl

some_of : (n : ℕ) → false ≡ (n == 0) → 0 < n
some_of zero told = absurd (false≢true told)
some_of (suc n) told = omega arith

pub loop-next-init : goal.loop-next-init
loop-next-init g c =
    let of = amount_at g.K.Key.key c.args.usage.now in
    let amount = c.amount_of-key.result in
    let some : 0 < length c.args.places.now = some_of (length c.args.places.now) c.if-is_empty.ensures in
    let small : unsigned_abs amount.1 ≤ MOST_AMOUNT = rw c.amount_of-key.ensures (c.requires.small 0 (record { hash = 0; place = 0; amount = pos 0 }) some) in
    let total : c.with.result ≡ total_with nothing amount.1 = rw (c.none.ensures, amount_kept amount.1 small) at c.with.ensures in
    record {
      counted = counted_first g.K.PartialEq.eq g.met.K.Eq.laws g.K.Ord.cmp c.args.most of c.args.places.now _ amount c.with.result _ some c.amount_of-key.ensures total c.new.ensures.items refl;
      last = first_is g.K.PartialEq.eq g.met.K.Eq.laws g.K.Ord.cmp c.args.most of c.args.places.now _ amount some c.amount_of-key.ensures;
      within = rw total (within_more 0 nothing amount.1 within_none small);
      few = omega arith;
    }

pub loop-next-preserved : goal.loop-next-preserved
loop-next-preserved g c =
    let next = c.loop-next.next in
    let of = amount_at g.K.Key.key c.args.usage.now in
    let places = c.args.places.now in
    let amount = c.amount_of-amount.result in
    let some : 0 < next = omega (arith, c.loop-next.auto.next) in
    let below : next < length places = omega (arith, c.loop-next-test.true, c.loop-next.auto.next-end) in
    let is = c.amount_of-amount.ensures in
    let cases = cases_of g.K.PartialEq.eq g.met.K.Eq.laws g.K.Ord.cmp c.args.most of places next _ amount some below is c.loop-next.at_hand.0 c.loop-next.invariant.last c.requires.together in
    let counted : AreCounted g.K.PartialEq.eq g.K.Ord.cmp c.args.most (map of (take next places) ++ amount ∷ []) c.count.new.at_hand c.count.new.ranked =
    c.in_ok-count.ensures.counted (map of (take next places)) c.loop-next.invariant.counted cases in
    record {
      counted = counted_next g.K.PartialEq.eq g.met.K.Eq.laws g.K.Ord.cmp c.args.most of places next _ amount some below is c.count.new.at_hand c.count.new.ranked counted;
      last = last_is g.K.PartialEq.eq g.met.K.Eq.laws g.K.Ord.cmp c.args.most of places next _ amount some below is c.count.new.at_hand.0 c.in_ok-count.ensures.key;
      within = c.in_ok-count.ensures.within next c.loop-next.invariant.within;
      few = omega (arith, c.in_ok-count.ensures.few, c.loop-next.invariant.few);
    }

pub returns : goal.returns
returns g c =
    greatest_all g.K.PartialEq.eq g.met.K.Eq.laws g.K.Ord.cmp c.args.most (amount_at g.K.Key.key c.args.usage.now) c.args.places.now c.loop-next.next
    c.loop-next.at_hand c.loop-next.ranked c.put.new.ranked (omega (arith, c.loop-next-test.false, c.loop-next.auto.next-end)) c.loop-next.invariant.counted
    (record { first = c.in_ok-put.ensures.first; count = c.put.ensures.count })
