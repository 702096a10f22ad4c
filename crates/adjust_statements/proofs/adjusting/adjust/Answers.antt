use Rattle.std.proofs.Common.{◌∷◌, [], arith, subst, sym}
use Rattle.std.proofs.lemmas.Result.{err_from_is_err_and}
use Rattle.merge_statements.specs.SoFar.{output}
use Rattle.adjust_statements.proofs.EndLemmas.{adjust_passed, text_refused}
use Rattle.adjust_statements.specs.Refused.{IsRefusalFor}
use Rattle.adjust_statements.proofs.adjusting.adjust.Goals as goal

pub returns-in-Err-clause-refused : goal.returns-in-Err-clause-refused
returns-in-Err-clause-refused g c =
    let paid = g.R.Read.remaining c.args.paid in
    let right = g.R.Read.remaining c.args.right in
    subst (IsRefusalFor paid right) (sym c.refused.ensures) (text_refused (paid ∷ right ∷ []) 0 c.in-Err.refusal (omega arith) c.in-Err.ensures.refused)

pub returns-in-Err-open-clause-refused : goal.returns-in-Err-open-clause-refused
returns-in-Err-open-clause-refused g c =
    let paid = g.R.Read.remaining c.args.paid in
    let right = g.R.Read.remaining c.args.right in
    subst (IsRefusalFor paid right) (sym c.refused-in-Err-open.ensures) (text_refused (paid ∷ right ∷ []) 1 c.in-Err-open.refusal (omega arith) c.in-Err-open.ensures.refused)

pub returns-in_err-adjust_texts-clause-refused : goal.returns-in_err-adjust_texts-clause-refused
returns-in_err-adjust_texts-clause-refused g c =
    let p = err_from_is_err_and c.from_residual.result c.from_residual.ensures.1 in
    let paid = c.in-Ok.ensures in
    let right = c.in-Ok-open.ensures in
    rw (p.1, p.2) (c.in_err-adjust_texts.ensures.refused (g.R.Read.remaining c.args.paid) (g.R.Read.remaining c.args.right)
    record { at = paid.at; left = paid.left; read = paid.read; looked = paid.looked } record { at = right.at; left = right.left; read = right.read; looked = right.looked })

pub returns-in-Ok-pass_on-clause-adjusted : goal.returns-in-Ok-pass_on-clause-adjusted
returns-in-Ok-pass_on-clause-adjusted g c =
    let contents = g.W.Write.contents in
    let paid = c.in-Ok.ensures in
    let right = c.in-Ok-open.ensures in
    let before = g.R.Read.remaining c.args.paid in
    let after = g.R.Read.remaining c.args.right in
    adjust_passed before after (contents c.args.out.now) (output contents c.adjust_texts.new.out c.adjust_texts.new.page) (contents c.pass_on.new.out) c.new-page.result c.new-page.ensures
    (c.in_ok-adjust_texts.ensures.adjusted before after
    record { at = paid.at; left = paid.left; read = paid.read; looked = paid.looked } record { at = right.at; left = right.left; read = right.read; looked = right.looked })
    c.in-Ok-pass_on.ensures.passed
