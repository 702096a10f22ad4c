use Rattle.merge_statements.specs.SoFar.{output}
use Rattle.merge_statements.proofs.Taking.{none_written, one_written}
use Rattle.merge_statements.proofs.merging.pass_if_next.Goals as goal

pub returns-then-not-is_next-clause-written : goal.returns-then-not-is_next-clause-written
returns-then-not-is_next-clause-written g c = none_written c.args.payee.now c.args.part.now (output g.W.Write.contents c.args.out.now c.args.page.now) (c.is_next.ensures.is_not c.if-not-is_next.true)

pub returns-clause-written : goal.returns-clause-written
returns-clause-written g c =
    one_written c.args.payee.now c.args.part.now c.pass_statement.new.self (output g.W.Write.contents c.args.out.now c.args.page.now) (output g.W.Write.contents c.pass_statement.new.out c.pass_statement.new.page) _ _ (c.is_next.ensures.is c.if-not-is_next.false) c.in_ok-sum.ensures.written
