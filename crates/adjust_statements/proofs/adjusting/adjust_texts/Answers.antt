use mir.Syntax.{w128}
use Rattle.std.proofs.Common.{to_z, of_z, ◌≡◌, [], ℤ, arith, codes, subst}
use Rattle.std.specs.Io.KnownBytes.{Appends}
use Rattle.std.proofs.lemmas.Result.{IfOk-weaker, err_from_is_err_and}
use Rattle.csv_table.specs.Written.{text_of_row}
use Rattle.merge_statements.specs.SoFar.{output}
use Rattle.merge_statements.specs.Statements.{total_row}
use Rattle.adjust_statements.proofs.EndLemmas.{all_adjusted, can_end, rests_rows_are}
use Rattle.adjust_statements.proofs.EntryLemmas.{same_in_128}
use Rattle.adjust_statements.specs.SoFar.{AdjustsOpen}
use Rattle.adjust_statements.proofs.adjusting.adjust_texts.Goals as goal

pub end_texts-requires-clause-paid : goal.end_texts-requires-clause-paid
end_texts-requires-clause-paid g c =
    let was = c.in_ok-paid.ensures.adjusted c.requires.0 c.requires.1 c.requires.2 c.requires.3 in
    can_end c.requires.0 c.adjust_payees.new.texts.paid was.paid_done was.paid_passed c.in_ok-paid.ensures.none.0

pub end_texts-requires-clause-right : goal.end_texts-requires-clause-right
end_texts-requires-clause-right g c =
    let was = c.in_ok-paid.ensures.adjusted c.requires.0 c.requires.1 c.requires.2 c.requires.3 in
    can_end c.requires.1 c.adjust_payees.new.texts.right was.right_done was.right_passed c.in_ok-paid.ensures.none.1

pub returns-in_err-end_texts-clause-refused : goal.returns-in_err-end_texts-clause-refused
returns-in_err-end_texts-clause-refused g c =
    let p = err_from_is_err_and c.from_residual-in_err-end_texts.result c.from_residual-in_err-end_texts.ensures.1 in
    rw (p.1, p.2) (λ paid_start right_start paid_open right_open.
    let was = c.in_ok-paid.ensures.adjusted paid_start right_start paid_open right_open in
    c.in_err-end_texts.ensures.refused paid_start right_start was.paid_passed.read was.right_passed.read)

pub returns-clause-adjusted : goal.returns-clause-adjusted
returns-clause-adjusted g c =
    let contents = g.W.Write.contents in
    let middle = c.adjust_payees.new.texts in
    let last = c.end_texts.new.texts in
    let rows = c.end_texts.new.rows in
    let end = c.in_ok-end_texts.ensures.ended in
    let first = output contents c.args.out.now c.args.page.now in
    let one = output contents c.adjust_payees.new.out c.adjust_payees.new.page in
    let two = output contents c.adjust_rests.new.out c.adjust_rests.new.page in
    let three = output contents c.push_total.new.out c.push_total.new.page in
    let after = output contents c.push_total-2.new.out c.push_total-2.new.page in
    let paid = c.in_ok-paid.paid in
    let left = c.in-Ok.left in
    let amount = c.both.result.1 in
    let kept : to_z w128 (of_z w128 amount) ≡ amount = same_in_128 amount (omega (arith, c.both.ensures.size, c.in_ok-paid.ensures.small, c.in-Ok.ensures.small)) in
    let rests = c.in-Ok.ensures.adjusted end.paid.rests end.right.rests (rests_rows_are middle.paid middle.right last.paid last.right rows.paid.items rows.right.items end) in
    IfOk-weaker c.push_total-2.result _ (λ _. AdjustsOpen c.args.texts.now.paid c.args.texts.now.right first after)
    (λ _ run paid_start right_start paid_open right_open.
    all_adjusted paid_start right_start middle.paid middle.right last.paid last.right rows.paid.items rows.right.items first one two three after paid.0 left.0 paid.1 left.1 amount
    (c.in_ok-paid.ensures.adjusted paid_start right_start paid_open right_open) end rests c.in_ok-push_total.ensures.pushed c.both.ensures.sum
    (subst (λ (total : ℤ). Appends three after (text_of_row (total_row (codes "R") [] 0 total))) kept run))
    c.push_total-2.ensures.pushed
