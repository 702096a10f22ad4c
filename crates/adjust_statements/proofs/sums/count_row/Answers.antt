use mir.Syntax.{w128, w64}
use Rattle.std.proofs.Common.{to_z, of_z, ◌≡◌, ◌∙◌, ◌≤◌, ◌+◌, ℤ, ap, arith, refl, subst, sym, unsigned_abs}
use Rattle.std.proofs.lemmas.Result.{IfOk-weaker}
use Rattle.merge_statements.proofs.Refusing.{is_that}
use Rattle.adjust_statements.proofs.EntryLemmas.{same_in_128, same_in_64}
use Rattle.adjust_statements.proofs.RowLemmas.{row_counted, signed_size}
use Rattle.adjust_statements.proofs.SumLemmas.{with_sum_small}
use Rattle.adjust_statements.specs.SoFar.{AreSmall, signed_by, with_sum}
use Rattle.adjust_statements.proofs.sums.count_row.Goals as goal

pub returns-in-Some-clause-counted : goal.returns-in-Some-clause-counted
returns-in-Some-clause-counted c =
    let row = c.args.row.now in
    let amount = c.in-Some.amount in
    let of = c.in-Some.ensures.amount in
    let kept : to_z w64 (of_z w64 amount) ≡ amount = same_in_64 amount (omega (arith, of.0.1)) in
    let signed : c.signed.result ≡ signed_by c.args.is_paid amount = c.signed.ensures ∙ ap (signed_by c.args.is_paid) kept in
    let small : unsigned_abs c.signed.result ≤ 1000000000000 = omega (arith, ap unsigned_abs signed, signed_size c.args.is_paid amount, of.0.1) in
    let added : to_z w128 (of_z w128 c.signed.result) ≡ c.signed.result = same_in_128 c.signed.result (omega (arith, small)) in
    IfOk-weaker c.add.result _ _
    (λ _ is kind of_row named fields.
    row_counted c.args.is_paid c.args.name.now kind row.kind.now row.payee_or_reason.now row.usage_or_count.now row.amount_or_total.now of_row amount c.args.sums.now c.add.new.self
    fields named (is_that row.payee_or_reason.now c.args.name.now c.args.name.now c.ne.result c.ne.ensures refl c.if-ne.false) of.0 of.1
    (is ∙ ap (λ (z : ℤ). with_sum row.usage_or_count.now z c.args.sums.now) (added ∙ signed)))
    c.add.ensures

pub returns-in-Some-clause-small : goal.returns-in-Some-clause-small
returns-in-Some-clause-small c =
    let row = c.args.row.now in
    let amount = c.in-Some.amount in
    let of = c.in-Some.ensures.amount in
    let kept : to_z w64 (of_z w64 amount) ≡ amount = same_in_64 amount (omega (arith, of.0.1)) in
    let signed : c.signed.result ≡ signed_by c.args.is_paid amount = c.signed.ensures ∙ ap (signed_by c.args.is_paid) kept in
    let small : unsigned_abs c.signed.result ≤ 1000000000000 = omega (arith, ap unsigned_abs signed, signed_size c.args.is_paid amount, of.0.1) in
    let added : to_z w128 (of_z w128 c.signed.result) ≡ c.signed.result = same_in_128 c.signed.result (omega (arith, small)) in
    IfOk-weaker c.add.result _ _
    (λ _ is count were. subst (AreSmall (count + 1)) (sym (is ∙ ap (λ (z : ℤ). with_sum row.usage_or_count.now z c.args.sums.now) added)) (with_sum_small row.usage_or_count.now c.signed.result count c.args.sums.now small were))
    c.add.ensures
