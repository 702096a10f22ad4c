use Rattle.std.proofs.Common.{◌∙◌, subst, sym}
use Rattle.merge_statements.specs.Fields.{IsFieldAt}
use Rattle.merge_statements.proofs.FieldLemmas.{if_none, is_nothing, is_something, no_row, none_behind, none_here, none_last, none_on, row_of}
use Rattle.merge_statements.proofs.row.quoted_row.Goals as goal

pub returns-in_err-kind-clause-none : goal.returns-in_err-kind-clause-none
returns-in_err-kind-clause-none c = if_none c.from_residual.result (no_row c.args.line.now (none_here 3 c.args.line.now c.in_err-kind.ensures.none))

pub returns-in_err-strip_comma-clause-none : goal.returns-in_err-strip_comma-clause-none
returns-in_err-strip_comma-clause-none c =
    let line = c.args.line.now in
    let kind = c.in_ok-kind.kind in
    if_none c.from_residual-in_err-strip_comma.result (no_row line
    (none_behind 2 line kind.bytes.now kind.rest.now c.in_ok-kind.ensures.field c.in_err-strip_comma.ensures.none))

pub returns-in_err-payee_or_reason-clause-none : goal.returns-in_err-payee_or_reason-clause-none
returns-in_err-payee_or_reason-clause-none c =
    let line = c.args.line.now in
    let kind = c.in_ok-kind.kind in
    let more = c.in_ok-strip_comma.field-0.now in
    if_none c.from_residual-in_err-payee_or_reason.result (no_row line
    (none_on 2 line kind.bytes.now kind.rest.now more c.in_ok-kind.ensures.field c.in_ok-strip_comma.ensures.rest
    (none_here 2 more c.in_err-payee_or_reason.ensures.none)))

pub returns-in_err-strip_comma-2-clause-none : goal.returns-in_err-strip_comma-2-clause-none
returns-in_err-strip_comma-2-clause-none c =
    let line = c.args.line.now in
    let kind = c.in_ok-kind.kind in
    let more = c.in_ok-strip_comma.field-0.now in
    let payee_or_reason = c.in_ok-payee_or_reason.payee_or_reason in
    if_none c.from_residual-in_err-strip_comma-2.result (no_row line
    (none_on 2 line kind.bytes.now kind.rest.now more c.in_ok-kind.ensures.field c.in_ok-strip_comma.ensures.rest
    (none_behind 1 more payee_or_reason.bytes.now payee_or_reason.rest.now c.in_ok-payee_or_reason.ensures.field c.in_err-strip_comma-2.ensures.none)))

pub returns-in_err-usage_or_count-clause-none : goal.returns-in_err-usage_or_count-clause-none
returns-in_err-usage_or_count-clause-none c =
    let line = c.args.line.now in
    let kind = c.in_ok-kind.kind in
    let more = c.in_ok-strip_comma.field-0.now in
    let payee_or_reason = c.in_ok-payee_or_reason.payee_or_reason in
    let more' = c.in_ok-strip_comma-2.field-0.now in
    if_none c.from_residual-in_err-usage_or_count.result (no_row line
    (none_on 2 line kind.bytes.now kind.rest.now more c.in_ok-kind.ensures.field c.in_ok-strip_comma.ensures.rest
    (none_on 1 more payee_or_reason.bytes.now payee_or_reason.rest.now more' c.in_ok-payee_or_reason.ensures.field c.in_ok-strip_comma-2.ensures.rest
    (none_here 1 more' c.in_err-usage_or_count.ensures.none))))

pub returns-in_err-strip_comma-3-clause-none : goal.returns-in_err-strip_comma-3-clause-none
returns-in_err-strip_comma-3-clause-none c =
    let line = c.args.line.now in
    let kind = c.in_ok-kind.kind in
    let more = c.in_ok-strip_comma.field-0.now in
    let payee_or_reason = c.in_ok-payee_or_reason.payee_or_reason in
    let more' = c.in_ok-strip_comma-2.field-0.now in
    let usage_or_count = c.in_ok-usage_or_count.usage_or_count in
    if_none c.from_residual-in_err-strip_comma-3.result (no_row line
    (none_on 2 line kind.bytes.now kind.rest.now more c.in_ok-kind.ensures.field c.in_ok-strip_comma.ensures.rest
    (none_on 1 more payee_or_reason.bytes.now payee_or_reason.rest.now more' c.in_ok-payee_or_reason.ensures.field c.in_ok-strip_comma-2.ensures.rest
    (none_behind 0 more' usage_or_count.bytes.now usage_or_count.rest.now c.in_ok-usage_or_count.ensures.field c.in_err-strip_comma-3.ensures.none))))

pub returns-in_err-amount_or_total-clause-none : goal.returns-in_err-amount_or_total-clause-none
returns-in_err-amount_or_total-clause-none c =
    let line = c.args.line.now in
    let kind = c.in_ok-kind.kind in
    let more = c.in_ok-strip_comma.field-0.now in
    let payee_or_reason = c.in_ok-payee_or_reason.payee_or_reason in
    let more' = c.in_ok-strip_comma-2.field-0.now in
    let usage_or_count = c.in_ok-usage_or_count.usage_or_count in
    let last = c.in_ok-strip_comma-3.field-0.now in
    if_none c.from_residual-in_err-amount_or_total.result (no_row line
    (none_on 2 line kind.bytes.now kind.rest.now more c.in_ok-kind.ensures.field c.in_ok-strip_comma.ensures.rest
    (none_on 1 more payee_or_reason.bytes.now payee_or_reason.rest.now more' c.in_ok-payee_or_reason.ensures.field c.in_ok-strip_comma-2.ensures.rest
    (none_on 0 more' usage_or_count.bytes.now usage_or_count.rest.now last c.in_ok-usage_or_count.ensures.field c.in_ok-strip_comma-3.ensures.rest
    (none_here 0 last c.in_err-amount_or_total.ensures.none)))))

pub returns-then-not-is_empty-clause-none : goal.returns-then-not-is_empty-clause-none
returns-then-not-is_empty-clause-none c =
    let line = c.args.line.now in
    let kind = c.in_ok-kind.kind in
    let more = c.in_ok-strip_comma.field-0.now in
    let payee_or_reason = c.in_ok-payee_or_reason.payee_or_reason in
    let more' = c.in_ok-strip_comma-2.field-0.now in
    let usage_or_count = c.in_ok-usage_or_count.usage_or_count in
    let last = c.in_ok-strip_comma-3.field-0.now in
    let amount_or_total = c.in_ok-amount_or_total.amount_or_total in
    no_row line
    (none_on 2 line kind.bytes.now kind.rest.now more c.in_ok-kind.ensures.field c.in_ok-strip_comma.ensures.rest
    (none_on 1 more payee_or_reason.bytes.now payee_or_reason.rest.now more' c.in_ok-payee_or_reason.ensures.field c.in_ok-strip_comma-2.ensures.rest
    (none_on 0 more' usage_or_count.bytes.now usage_or_count.rest.now last c.in_ok-usage_or_count.ensures.field c.in_ok-strip_comma-3.ensures.rest
    (none_last last amount_or_total.bytes.now amount_or_total.rest.now c.in_ok-amount_or_total.ensures.field (is_something amount_or_total.rest.now (sym c.is_empty.ensures ∙ c.if-not-is_empty.true))))))

pub returns-clause-row : goal.returns-clause-row
returns-clause-row c =
    let line = c.args.line.now in
    let kind = c.in_ok-kind.kind in
    let more = c.in_ok-strip_comma.field-0.now in
    let payee_or_reason = c.in_ok-payee_or_reason.payee_or_reason in
    let more' = c.in_ok-strip_comma-2.field-0.now in
    let usage_or_count = c.in_ok-usage_or_count.usage_or_count in
    let last = c.in_ok-strip_comma-3.field-0.now in
    let amount_or_total = c.in_ok-amount_or_total.amount_or_total in
    row_of line more more' last kind.bytes.now payee_or_reason.bytes.now usage_or_count.bytes.now amount_or_total.bytes.now
    (subst (IsFieldAt line kind.bytes.now) c.in_ok-strip_comma.ensures.rest c.in_ok-kind.ensures.field)
    (subst (IsFieldAt more payee_or_reason.bytes.now) c.in_ok-strip_comma-2.ensures.rest c.in_ok-payee_or_reason.ensures.field)
    (subst (IsFieldAt more' usage_or_count.bytes.now) c.in_ok-strip_comma-3.ensures.rest c.in_ok-usage_or_count.ensures.field)
    (subst (IsFieldAt last amount_or_total.bytes.now) (is_nothing amount_or_total.rest.now (sym c.is_empty.ensures ∙ c.if-not-is_empty.false)) c.in_ok-amount_or_total.ensures.field)
