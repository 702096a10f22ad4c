use Rattle.std.proofs.Common.{◌∙◌, ap, subst, sym}
use Rattle.merge_statements.specs.declared.walk.Place.TheVariants.{Ended}
use Rattle.adjust_statements.specs.Refused.{IsRefusalFor}
use Rattle.adjust_statements.proofs.EndLemmas.{lines_refused, many_refused, paid_refused, right_refused}
use Rattle.adjust_statements.specs.SoFar.{RefusesRead}
use Rattle.adjust_statements.proofs.adjusting.end_texts.Goals as goal

pub returns-in-Err-clause-refused : goal.returns-in-Err-clause-refused
returns-in-Err-clause-refused g c =
    subst (RefusesRead c.args.texts.now.paid c.args.texts.now.right) (sym c.refused.ensures) (paid_refused c.args.texts.now.paid c.args.texts.now.right c.in-Err.refusal c.in-Err.ensures.refused)

pub returns-in-Err-take_rests-clause-refused : goal.returns-in-Err-take_rests-clause-refused
returns-in-Err-take_rests-clause-refused g c =
    subst (RefusesRead c.args.texts.now.paid c.args.texts.now.right) (sym c.refused-in-Err-take_rests.ensures) (right_refused c.args.texts.now.paid c.args.texts.now.right c.in-Err-take_rests.refusal c.in-Err-take_rests.ensures.refused)

pub returns-then-has_too_many-clause-refused : goal.returns-then-has_too_many-clause-refused
returns-then-has_too_many-clause-refused g c = λ paid_start right_start paid_read right_read.
    subst (IsRefusalFor paid_start right_start) (sym c.refused-then-has_too_many.ensures)
    (many_refused paid_start right_start c.take_rests.new.part c.take_rests-2.new.part
    (c.in-Ok.ensures.taken.ends.reads paid_start paid_read) (c.in-Ok-take_rests.ensures.taken.ends.reads right_start right_read) (c.has_too_many.ensures.many c.if-has_too_many.true))

pub returns-then-before-after-clause-refused : goal.returns-then-before-after-clause-refused
returns-then-before-after-clause-refused g c = λ paid_start right_start paid_read right_read.
    let paid = c.in-Ok.ensures.taken in
    let right = c.in-Ok-take_rests.ensures.taken in
    lines_refused paid_start right_start c.take_rests.new.part c.take_rests-2.new.part c.in-Ok.lines c.in-Ok-take_rests.lines c.rows_read.result
    (paid.ends.reads paid_start paid_read) (right.ends.reads right_start right_read) paid.ends.ended right.ends.ended
    (paid.ends.place ∙ ap Ended (sym paid.all_lines)) (right.ends.place ∙ ap Ended (sym right.all_lines)) c.rows_read.ensures c.if-before-after.true
