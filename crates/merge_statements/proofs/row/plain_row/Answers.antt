use Rattle.std.proofs.Common.{[]}
use Rattle.merge_statements.proofs.FieldLemmas.{after_one, after_three, after_two, cut_field, if_none, no_row, none_behind, none_last, row_of, whole_field}
use Rattle.merge_statements.proofs.row.plain_row.Goals as goal

pub returns-in_err-kind-clause-none : goal.returns-in_err-kind-clause-none
returns-in_err-kind-clause-none c =
    let line = c.args.line.now in
    if_none c.from_residual.result (no_row line (none_behind 2 line line [] (whole_field line c.requires c.in_err-kind.ensures.none) (λ rest e. cc e)))

pub returns-in_err-payee_or_reason-clause-none : goal.returns-in_err-payee_or_reason-clause-none
returns-in_err-payee_or_reason-clause-none c =
    let line = c.args.line.now in
    let kind = c.in_ok-kind in
    let one = cut_field line kind.kind.now kind.rest.now c.requires kind.ensures.parts.0 kind.ensures.parts.1 in
    if_none c.from_residual-in_err-payee_or_reason.result (no_row line (after_one line kind.rest.now kind.kind.now one.0
    (none_behind 1 kind.rest.now kind.rest.now [] (whole_field kind.rest.now one.1 c.in_err-payee_or_reason.ensures.none) (λ rest e. cc e))))

pub returns-in_err-usage_or_count-clause-none : goal.returns-in_err-usage_or_count-clause-none
returns-in_err-usage_or_count-clause-none c =
    let line = c.args.line.now in
    let kind = c.in_ok-kind in
    let payee_or_reason = c.in_ok-payee_or_reason in
    let one = cut_field line kind.kind.now kind.rest.now c.requires kind.ensures.parts.0 kind.ensures.parts.1 in
    let two = cut_field kind.rest.now payee_or_reason.payee_or_reason.now payee_or_reason.rest.now one.1 payee_or_reason.ensures.parts.0 payee_or_reason.ensures.parts.1 in
    if_none c.from_residual-in_err-usage_or_count.result (no_row line (after_two line kind.rest.now payee_or_reason.rest.now kind.kind.now payee_or_reason.payee_or_reason.now one.0 two.0
    (none_behind 0 payee_or_reason.rest.now payee_or_reason.rest.now [] (whole_field payee_or_reason.rest.now two.1 c.in_err-usage_or_count.ensures.none) (λ rest e. cc e))))

pub returns-in-Some-clause-none : goal.returns-in-Some-clause-none
returns-in-Some-clause-none c =
    let line = c.args.line.now in
    let kind = c.in_ok-kind in
    let payee_or_reason = c.in_ok-payee_or_reason in
    let usage_or_count = c.in_ok-usage_or_count in
    let last = c.in-Some.ensures.parts in
    let one = cut_field line kind.kind.now kind.rest.now c.requires kind.ensures.parts.0 kind.ensures.parts.1 in
    let two = cut_field kind.rest.now payee_or_reason.payee_or_reason.now payee_or_reason.rest.now one.1 payee_or_reason.ensures.parts.0 payee_or_reason.ensures.parts.1 in
    let three = cut_field payee_or_reason.rest.now usage_or_count.usage_or_count.now usage_or_count.amount_or_total.now two.1 usage_or_count.ensures.parts.0 usage_or_count.ensures.parts.1 in
    let four = cut_field usage_or_count.amount_or_total.now c.in-Some.field-0.0.now c.in-Some.field-0.1.now three.1 last.0 last.1 in
    no_row line (after_three line kind.rest.now payee_or_reason.rest.now usage_or_count.amount_or_total.now kind.kind.now payee_or_reason.payee_or_reason.now usage_or_count.usage_or_count.now one.0 two.0 three.0
    (none_last usage_or_count.amount_or_total.now _ _ four.0 (λ e. cc e)))

pub returns-clause-row : goal.returns-clause-row
returns-clause-row c =
    let line = c.args.line.now in
    let kind = c.in_ok-kind in
    let payee_or_reason = c.in_ok-payee_or_reason in
    let usage_or_count = c.in_ok-usage_or_count in
    let one = cut_field line kind.kind.now kind.rest.now c.requires kind.ensures.parts.0 kind.ensures.parts.1 in
    let two = cut_field kind.rest.now payee_or_reason.payee_or_reason.now payee_or_reason.rest.now one.1 payee_or_reason.ensures.parts.0 payee_or_reason.ensures.parts.1 in
    let three = cut_field payee_or_reason.rest.now usage_or_count.usage_or_count.now usage_or_count.amount_or_total.now two.1 usage_or_count.ensures.parts.0 usage_or_count.ensures.parts.1 in
    row_of line kind.rest.now payee_or_reason.rest.now usage_or_count.amount_or_total.now kind.kind.now payee_or_reason.payee_or_reason.now usage_or_count.usage_or_count.now usage_or_count.amount_or_total.now one.0 two.0 three.0
    (whole_field usage_or_count.amount_or_total.now three.1 c.in_default.ensures.none)
