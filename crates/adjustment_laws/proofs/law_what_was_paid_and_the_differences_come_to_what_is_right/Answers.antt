use Rattle.line_split.specs.ReasonTexts.{reason_text}
use Rattle.merge_statements.specs.Merged.{portions_of}
use Rattle.adjust_statements.specs.Adjusted.{rests_for}
use Rattle.adjustment_laws.proofs.Rests.{rests_come_to}
use Rattle.adjustment_laws.proofs.Rows.{rows_come_to, rows_sum}
use Rattle.adjustment_laws.proofs.law_what_was_paid_and_the_differences_come_to_what_is_right.Goals as goal

pub returns-clause-uses : goal.returns-clause-uses
returns-clause-uses c = λ paid right answer payee usage are.
    rows_sum (portions_of payee paid) (portions_of payee right) (portions_of payee answer) usage (are.payees payee)

pub returns-clause-reasons : goal.returns-clause-reasons
returns-clause-reasons c = λ paid right answer reason usage are.
    rows_sum (rests_for (reason_text reason) paid.rests) (rests_for (reason_text reason) right.rests) (rests_for (reason_text reason) answer.rests) usage (are.rests reason)

pub returns-clause-payees : goal.returns-clause-payees
returns-clause-payees c = λ paid right answer payee are.
    rows_come_to (portions_of payee paid) (portions_of payee right) (portions_of payee answer) (are.payees payee)

pub returns-clause-rest : goal.returns-clause-rest
returns-clause-rest c = λ paid right answer paid_sound right_sound are. rests_come_to paid right answer paid_sound.rests right_sound.rests are
