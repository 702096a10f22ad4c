use Rattle.std.proofs.Common.{subst, sym}
use Rattle.std.specs.Prelude.{List, ℕ}
use Rattle.merge_statements.specs.Refused.{IsStatementText}
use Rattle.merge_statements.specs.Statements.{text_of_statements}
use Rattle.merge_statements.proofs.FromStatements.{from_statements}
use Rattle.merge_statements.proofs.ToStatements.{to_statements}
use Rattle.merge_statements.proofs.laws.law_a_statement_text_is_that_of_statements.Goals as goal

pub returns : goal.returns
returns c = λ text lines. (
  λ is. let of = to_statements text lines is in (of.all, of.are, of.counted, of.lines_are, of.text_is),
  λ of.
      subst (λ (t : List ℕ). IsStatementText t lines) (sym of.4)
      (subst (λ (n : ℕ). IsStatementText (text_of_statements of.0) n) of.3 (from_statements of.0 of.1 of.2)),
)
