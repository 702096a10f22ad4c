use Rattle.std.proofs.Common.{subst, sym}
use Rattle.std.specs.Prelude.{IfSome, List, Option, ℕ}
use Rattle.merge_statements.specs.Refused.{IsFaultIn, IsStatementText}
use Rattle.merge_statements.proofs.FirstFault.{no_fault}
use Rattle.merge_statements.proofs.FromStatements.{from_statements}
use Rattle.merge_statements.proofs.laws.law_a_text_with_a_fault_is_no_statement_text.Goals as goal

pub returns-clause-found : goal.returns-clause-found
returns-clause-found c = no_fault

pub returns-clause-refused : goal.returns-clause-refused
returns-clause-refused c = λ text fault all is are few same.
    no_fault text fault all.lines is (subst (λ (t : List ℕ). IsStatementText t all.lines) (sym same) (from_statements all are few))

pub returns-clause-merged : goal.returns-clause-merged
returns-clause-merged c = λ texts place fault text lines refused known sound.
    no_fault text fault lines (subst (λ (o : Option (List ℕ)). IfSome o (λ t. IsFaultIn t fault)) known refused.1) sound
