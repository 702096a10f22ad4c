use mir.Syntax.{w128}
use Rattle.std.proofs.Common.{to_z, of_z, ◌≡◌, ◌∙◌, ℤ, arith, codes, subst}
use Rattle.std.specs.Io.KnownBytes.{Appends}
use Rattle.csv_table.specs.Written.{text_of_row}
use Rattle.merge_statements.specs.Statements.{total_row}
use Rattle.adjust_statements.proofs.EntryLemmas.{same_in_128}
use Rattle.adjust_statements.proofs.WroteLemmas.{HasWritten, differences_written, no_differences_written, payee_sums, payee_text, total_within}
use Rattle.adjust_statements.specs.Adjusted.{as_rests}
use Rattle.merge_statements.specs.SoFar.{output}
use Rattle.adjust_statements.proofs.payee.write_payee.Goals as goal

pub write_sums-requires : goal.write_sums-requires
write_sums-requires g c =
    let payee = c.args.payee.now in
    let paid = c.requires.0 in
    let right = c.requires.1 in
    let rows = c.requires.2 in
    let are = payee_sums payee paid right c.in_ok-sums.sums
    (c.in_ok-sums.ensures (codes "L") (as_rests payee paid) (as_rests payee right) (payee_text payee paid c.as_slice.result.now rows.name rows.paid_sound (c.as_slice.ensures.value ∙ rows.paid_is))
    (payee_text payee right c.as_slice-2.result.now rows.name rows.right_sound (c.as_slice-2.ensures.value ∙ rows.right_is))) in
    omega (arith, are.few, rows.few)

pub returns-in_ok-push_total-clause-written : goal.returns-in_ok-push_total-clause-written
returns-in_ok-push_total-clause-written g c = λ paid right rows.
    let payee = c.args.payee.now in
    let contents = g.W.Write.contents in
    let are = payee_sums payee paid right c.in_ok-sums.sums
    (c.in_ok-sums.ensures (codes "L") (as_rests payee paid) (as_rests payee right) (payee_text payee paid c.as_slice.result.now rows.name rows.paid_sound (c.as_slice.ensures.value ∙ rows.paid_is))
    (payee_text payee right c.as_slice-2.result.now rows.name rows.right_sound (c.as_slice-2.ensures.value ∙ rows.right_is))) in
    let was : HasWritten (codes "L") payee c.in_ok-sums.sums (output contents c.args.out.now c.args.page.now) (output contents c.write_sums.new.out c.write_sums.new.page) c.in_ok-sum.sum.0 c.in_ok-sum.sum.1 =
    record { counted = c.in_ok-sum.ensures.count; sum = c.in_ok-sum.ensures.total; written = c.in_ok-sum.ensures.written } in
    let small = total_within c.in_ok-sums.sums c.in_ok-sum.sum.1 c.in_ok-sum.ensures.total (omega (arith, are.few, rows.few)) in
    let kept : to_z w128 (of_z w128 c.in_ok-sum.sum.1) ≡ c.in_ok-sum.sum.1 = same_in_128 c.in_ok-sum.sum.1 (omega (arith, small)) in
    let pushed = subst (λ (total : ℤ). Appends (output contents c.write_sums.new.out c.write_sums.new.page) (output contents c.push_total.new.out c.push_total.new.self) (text_of_row (total_row (codes "S") payee c.in_ok-sum.sum.0 total)))
    kept c.in_ok-push_total.ensures.pushed in
    differences_written payee paid right c.in_ok-sums.sums (output contents c.args.out.now c.args.page.now) (output contents c.write_sums.new.out c.write_sums.new.page)
    (output contents c.push_total.new.out c.push_total.new.self) c.in_ok-sum.sum.0 c.in_ok-sum.sum.1 are was c.if-sum-gt0.true pushed

pub returns-else-sum-gt0-clause-written : goal.returns-else-sum-gt0-clause-written
returns-else-sum-gt0-clause-written g c = λ paid right rows.
    let payee = c.args.payee.now in
    let contents = g.W.Write.contents in
    let are = payee_sums payee paid right c.in_ok-sums.sums
    (c.in_ok-sums.ensures (codes "L") (as_rests payee paid) (as_rests payee right) (payee_text payee paid c.as_slice.result.now rows.name rows.paid_sound (c.as_slice.ensures.value ∙ rows.paid_is))
    (payee_text payee right c.as_slice-2.result.now rows.name rows.right_sound (c.as_slice-2.ensures.value ∙ rows.right_is))) in
    let was : HasWritten (codes "L") payee c.in_ok-sums.sums (output contents c.args.out.now c.args.page.now) (output contents c.write_sums.new.out c.write_sums.new.page) c.in_ok-sum.sum.0 c.in_ok-sum.sum.1 =
    record { counted = c.in_ok-sum.ensures.count; sum = c.in_ok-sum.ensures.total; written = c.in_ok-sum.ensures.written } in
    no_differences_written payee paid right c.in_ok-sums.sums (output contents c.args.out.now c.args.page.now) (output contents c.write_sums.new.out c.write_sums.new.page)
    c.in_ok-sum.sum.0 c.in_ok-sum.sum.1 are was c.if-sum-gt0.false

pub returns-in_ok-push_total-clause-few : goal.returns-in_ok-push_total-clause-few
returns-in_ok-push_total-clause-few g c =
    let payee = c.args.payee.now in
    let paid = c.requires.0 in
    let right = c.requires.1 in
    let rows = c.requires.2 in
    let are = payee_sums payee paid right c.in_ok-sums.sums
    (c.in_ok-sums.ensures (codes "L") (as_rests payee paid) (as_rests payee right) (payee_text payee paid c.as_slice.result.now rows.name rows.paid_sound (c.as_slice.ensures.value ∙ rows.paid_is))
    (payee_text payee right c.as_slice-2.result.now rows.name rows.right_sound (c.as_slice-2.ensures.value ∙ rows.right_is))) in
    omega (arith, are.few, rows.few, c.in_ok-sum.ensures.count)
