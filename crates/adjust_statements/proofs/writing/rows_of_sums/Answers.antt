use mir.Syntax.{w128}
use Rattle.std.proofs.Common.{to_z, of_z, ◌≡◌, ◌∙◌, ◌+ℤ◌, ◌++◌, List, ap, arith, length, subst, sym}
use Rattle.line_split.proofs.IntSums.{plus_none}
use Rattle.merge_statements.specs.SoFar.{total_of_portions}
use Rattle.merge_statements.specs.Statements.{Portion}
use Rattle.adjust_statements.specs.Differences.{rows_of}
use Rattle.adjust_statements.proofs.DifferenceLemmas.{all_rows_total}
use Rattle.adjust_statements.proofs.EntryLemmas.{fits_more, same_in_128, sum_more}
use Rattle.adjust_statements.proofs.SumLemmas.{the_sum}
use Rattle.csv_table.specs.Written.{Page}
use Rattle.adjust_statements.proofs.WritingLemmas.{TakenSoFar, all_taken, first_small, none_left, text_for, total_small, use_taken}
use Rattle.adjust_statements.proofs.writing.rows_of_sums.Goals as goal
use Rattle.adjust_statements.proofs.writing.rows_of_sums.Goals.{in-Some+in_ok-count, in_default}

pub overflow_add-total : goal.overflow_add-total
overflow_add-total c =
    let l = c.loop-use in
    let first = first_small c.args.kind.now c.args.name.now c.args.sums l.rows.text l.count (to_z w128 l.total-bits) l.sums l._use
    (record { usage = c.in-Some.usage.items; amount = c.in-Some.sum }) c.take_first.new.self l.invariant c.in-Some.ensures.some c.requires in
    fits_more (to_z w128 l.total-bits) c.in-Some.sum
    (total_small c.args.kind.now c.args.name.now c.args.sums l.rows.text l.count (to_z w128 l.total-bits) l.sums l._use l.invariant c.requires) (omega (arith, first))

pub loop-use-preserved : goal.loop-use-preserved
loop-use-preserved c =
    let kind = c.args.kind.now in
    let name = c.args.name.now in
    let l = c.loop-use in
    let total = to_z w128 l.total-bits in
    let rest = c.take_first.new.self in
    elim c.match-take_first.branch [
      | in-Some+in_ok-count w ↦
          let first = the_sum w.in-Some.usage.items w.in-Some.sum in
          let was = subst (λ (sums : List Portion). TakenSoFar kind name c.args.sums l.rows.text l.count total sums l._use) w.in-Some.ensures.some l.invariant in
          let small = first_small kind name c.args.sums l.rows.text l.count total l.sums l._use first rest l.invariant w.in-Some.ensures.some c.requires in
          let within = total_small kind name c.args.sums l.rows.text l.count total l.sums l._use l.invariant c.requires in
          let is : the_sum w.as_slice.result.now (to_z w128 (of_z w128 w.in-Some.sum)) ≡ first = (λ i. the_sum (w.as_slice.ensures.value i) (same_in_128 w.in-Some.sum (omega (arith, small)) i)) in
          use_taken kind name c.args.sums l.rows.text c.match-take_first.rows.text l.count w.in_ok-count.field-0 c.match-take_first.count total (to_z w128 c.match-take_first.total-bits) first rest l._use was
          (ap (λ (rows : Page). rows.text) w.rows-is ∙ w.in_ok-count.ensures.rows ∙ ap (λ (d : Portion). l.rows.text ++ text_for kind name (rows_of d)) is)
          (w.in_ok-count.ensures.count ∙ ap (λ (d : Portion). length (rows_of d)) is)
          w.count-is
          (w.total-is ∙ sum_more total w.in-Some.sum within (omega (arith, small)))
      | in_default w ↦
          absurd (none_left kind name c.args.sums l.rows.text l.count total l.sums l._use l.invariant (w.in_default.ensures.none) (omega (arith, c.loop-use-test.true, c.len-use-end.ensures)))
    ]

pub returns-clause-total : goal.returns-clause-total
returns-clause-total c =
    let l = c.loop-use in
    let total = to_z w128 l.total-bits in
    let none = all_taken c.args.kind.now c.args.name.now c.args.sums l.rows.text l.count total l.sums l._use l.invariant (omega (arith, c.loop-use-test.false, c.len-use-end.ensures)) in
    sym (plus_none total) ∙ ap (λ (sums : List Portion). total +ℤ total_of_portions sums) (sym none) ∙ l.invariant.comes ∙ sym (all_rows_total c.args.sums)
