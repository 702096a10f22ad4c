use Rattle.std.proofs.Common.{subst, sym}
use Rattle.std.specs.Prelude.{List, ℕ}
use Rattle.merge_statements.specs.Refused.{IsStatementText}
use Rattle.merge_statements.specs.Statements.{text_of_statements}
use Rattle.merge_statements.proofs.FromStatements.{from_statements}
use Rattle.adjustment_laws.proofs.law_the_differences_can_be_merged.Goals as goal

pub returns : goal.returns
returns c = λ paid right text is.
    subst (λ (t : List ℕ). IsStatementText t 0) (sym is.says)
    (subst (IsStatementText (text_of_statements is.answer)) is.adjusted.lines (from_statements is.answer is.adjusted.sound is.few))
