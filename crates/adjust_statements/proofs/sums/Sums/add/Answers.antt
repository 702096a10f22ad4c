use Rattle.std.proofs.Common.{◌≡◌, ◌∙◌, ◌≤◌, ◌^◌, ◌+ℤ◌, ap, arith, sym, unsigned_abs}
use Rattle.std.specs.BTreeMap.{insert_entry}
use Rattle.merge_statements.specs.SoFar.{order}
use Rattle.adjust_statements.proofs.EntryLemmas.{fits_128, inserted, items_of, portions_in_map, rising_uses, sum_128, value_small}
use Rattle.adjust_statements.specs.SoFar.{value_at, with_sum}
use Rattle.adjust_statements.proofs.sums.Sums.add.Goals as goal

pub overflow_add-sum : goal.overflow_add-sum
overflow_add-sum c =
    let small = value_small c.args.usage.now c.args.self.now (10 ^ 36) c.requires.sums in
    fits_128 c.sum_at.result c.args.amount (omega (arith, small, ap unsigned_abs c.sum_at.ensures)) (omega (arith, c.requires.small))

pub returns : goal.returns
returns c =
    let old = c.self.inside.sums.entries in
    let name = c.extend_from_slice.new.self in
    let small = value_small c.args.usage.now c.args.self.now (10 ^ 36) c.requires.sums in
    let within : unsigned_abs c.sum_at.result ≤ 10 ^ 36 = omega (arith, small, ap unsigned_abs c.sum_at.ensures) in
    let is : items_of name ≡ c.args.usage.now = cc (c.in_ok-extend_from_slice.ensures.items, c.in_ok-name.ensures.items) in
    let kept = sum_128 c.sum_at.result c.args.amount within (omega (arith, c.requires.small))
    ∙ (λ i. (c.sum_at.ensures ∙ (λ j. value_at (sym is j) (sym c.self.view_is j))) i +ℤ c.args.amount) in
    let all = inserted items_of name c.args.amount old (rising_uses items_of old c.in_ok-insert.ensures.was_ordered) in
    ap (portions_in_map items_of) (c.in_ok-insert.ensures.entries ∙ (λ i. insert_entry (λ one other. order (items_of one) (items_of other)) old name (kept i)))
    ∙ all
    ∙ (λ i. with_sum (is i) c.args.amount (c.self.view_is i))
