use Rattle.std.proofs.Common.{◌≡◌, ◌∙◌, ◌≤◌, ◌^◌, List, arith, codes, length, subst, ℕ}
use Rattle.std.proofs.lemmas.Result.{IfOk-weaker}
use Rattle.std.specs.Prelude.{flat_map}
use Rattle.merge_statements.specs.Statements.{Rest}
use Rattle.adjust_statements.specs.Differences.{rows_of}
use Rattle.line_split.specs.ReasonTexts.{reason_text}
use Rattle.merge_statements.specs.SoFar.{output}
use Rattle.adjust_statements.proofs.WroteLemmas.{HasWritten, ok_written, reason_few, reason_written, rests_text}
use Rattle.adjust_statements.specs.SoFar.{AdjustsReason, AreRestsRows}
use Rattle.adjust_statements.proofs.rests.adjust_reason.Goals as goal

pub write_sums-requires : goal.write_sums-requires
write_sums-requires g c =
    let paid = c.requires.0 in
    let right = c.requires.1 in
    let rows = c.requires.2 in
    let name = c.as_bytes-name.result.now in
    let are = c.in_ok-sums.ensures (codes "M") paid right (rests_text paid c.as_slice.result.now rows.paid_sound (c.as_slice.ensures.value ∙ rows.paid_is))
    (rests_text right c.as_slice-2.result.now rows.right_sound (c.as_slice-2.ensures.value ∙ rows.right_is)) in
    reason_few name paid right c.in_ok-sums.sums c.args.rows.now.paid.items c.args.rows.now.right.items rows are

pub returns-clause-adjusted : goal.returns-clause-adjusted
returns-clause-adjusted g c =
    let before = output g.W.Write.contents c.args.out.now c.args.page.now in
    let after = output g.W.Write.contents c.write_sums.new.out c.write_sums.new.page in
    let name = c.as_bytes-name.result.now in
    let sums = c.in_ok-sums.sums in
    IfOk-weaker c.write_sums.result (λ sum. HasWritten (codes "M") name sums before after sum.0 sum.1)
    (λ sum. (paid right : List Rest) → AreRestsRows paid right c.args.rows.now.paid.items c.args.rows.now.right.items → AdjustsReason (reason_text c.args.reason) paid right before after sum.0 sum.1)
    (λ sum was paid right rows.
    let are = c.in_ok-sums.ensures (codes "M") paid right (rests_text paid c.as_slice.result.now rows.paid_sound (c.as_slice.ensures.value ∙ rows.paid_is))
    (rests_text right c.as_slice-2.result.now rows.right_sound (c.as_slice-2.ensures.value ∙ rows.right_is)) in
    subst (λ (reason : List ℕ). AdjustsReason reason paid right before after sum.0 sum.1) (c.as_bytes-name.ensures.value ∙ c.word.ensures)
    (reason_written name paid right sums before after sum.0 sum.1 are was))
    (ok_written c.write_sums.result (codes "M") name sums before after c.write_sums.ensures.count c.write_sums.ensures.total c.write_sums.ensures.written)

pub returns-clause-few : goal.returns-clause-few
returns-clause-few g c =
    let paid = c.requires.0 in
    let right = c.requires.1 in
    let rows = c.requires.2 in
    let name = c.as_bytes-name.result.now in
    let are = c.in_ok-sums.ensures (codes "M") paid right (rests_text paid c.as_slice.result.now rows.paid_sound (c.as_slice.ensures.value ∙ rows.paid_is))
    (rests_text right c.as_slice-2.result.now rows.right_sound (c.as_slice-2.ensures.value ∙ rows.right_is)) in
    let few = reason_few name paid right c.in_ok-sums.sums c.args.rows.now.paid.items c.args.rows.now.right.items rows are in
    IfOk-weaker c.write_sums.result (λ sum. sum.0 ≡ length (flat_map rows_of c.in_ok-sums.sums)) (λ sum. sum.0 ≤ 10 ^ 18) (λ sum is. omega (arith, is, few)) c.write_sums.ensures.count
