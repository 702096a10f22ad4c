use Rattle.std.proofs.Common.{◌∙◌, ap, subst, sym, take, drop}
use Rattle.csv.specs.Writing.{default_writer, needs_quotes}
use Rattle.merge_statements.specs.Fields.{IsBehindField}
use Rattle.merge_statements.proofs.FieldLemmas.{behind_quote, if_none, quoted_at, rest_from, same_quoted}
use Rattle.merge_statements.proofs.row.quoted_field.Goals as goal
use Rattle.merge_statements.proofs.row.quoted_field.Goals.{then-not-needs_quotes-via-then-not-needs_quotes, then-not-needs_quotes-via-else-not-needs_quotes+then-not-is_behind_field}

pub returns-in_err-size-clause-none : goal.returns-in_err-size-clause-none
returns-in_err-size-clause-none c =
    if_none c.from_residual.result (λ field rest at. c.in_err-size.ensures.none field rest (behind_quote rest at.ends) (quoted_at c.args.text.now field rest at).1)

pub returns-then-not-needs_quotes-clause-none : goal.returns-then-not-needs_quotes-clause-none
returns-then-not-needs_quotes-clause-none c = λ field rest at.
    let some = c.in_ok-size.ensures.some in
    let quoted = quoted_at c.args.text.now field rest at in
    let same = same_quoted (take c.in_ok-size.size c.unquote.new.room) field (drop c.in_ok-size.end c.args.text.now) rest some.1 (behind_quote rest at.ends) (sym some.0 ∙ quoted.1) in
    elim c.then-not-needs_quotes.branch [
      | then-not-needs_quotes-via-then-not-needs_quotes w ↦
          cc (sym quoted.0 ∙ (ap (needs_quotes default_writer) (sym same.0 ∙ sym c.split_at_mut-bytes.ensures.front) ∙ (sym c.needs_quotes.ensures ∙ w.if-not-needs_quotes.true)))
      | then-not-needs_quotes-via-else-not-needs_quotes+then-not-is_behind_field w ↦
          cc (sym (w.is_behind_field.ensures.1 (subst IsBehindField (sym same.1 ∙ sym (rest_from c.in_ok-size.end c.args.text.now)) at.ends)) ∙ w.if-not-is_behind_field.true)
    ]
