use Rattle.std.proofs.Common.{ap, arith, length}
use Rattle.merge_statements.specs.SoFar.{output, total_of_portions}
use Rattle.merge_statements.specs.Places.{At}
use Rattle.merge_statements.proofs.Passing.{first_within, more_within, next_begins, portion_counted, statement_written}
use Rattle.merge_statements.proofs.Refusing.{letter_needs}
use Rattle.merge_statements.proofs.part.Part.pass_statement.Goals as goal

pub pass_row-requires : goal.pass_row-requires
pass_row-requires g c = letter_needs c.args.self.now 76 (next_begins c.args.self.now.at c.args.self.now.line c.requires.payee c.requires.next) (omega arith)

pub pass_row-requires-in-loop-passed : goal.pass_row-requires-in-loop-passed
pass_row-requires-in-loop-passed g c = letter_needs c.loop-passed.self 76 (c.begins_with.ensures.is c.if-not-begins_with.false) (omega arith)

pub loop-passed-init : goal.loop-passed-init
loop-passed-init g c =
    let done = c.in_ok-pass_row.ensures in
    let first = next_begins c.args.self.now.at c.args.self.now.line c.requires.payee c.requires.next in
    let counted = portion_counted c.args.self.now c.pass_row.new.self first done.steps in (
      first_within c.args.self.now c.pass_row.new.self (output g.W.Write.contents c.args.out.now c.args.page.now) (output g.W.Write.contents c.pass_row.new.out c.pass_row.new.page) c.requires
          done.steps done.reads done.passed,
      omega (arith, counted.0),
      omega arith,
    )

pub end_statement-requires-clause-within : goal.end_statement-requires-clause-within
end_statement-requires-clause-within g c =
    let was = c.loop-passed.invariant.0 in
    (length was.portions, total_of_portions was.portions, ap (λ (at : At). at.place) was.at)

pub loop-passed-preserved : goal.loop-passed-preserved
loop-passed-preserved g c =
    let done = c.in_ok-pass_row-2.ensures in
    let first = c.begins_with.ensures.is c.if-not-begins_with.false in
    let counted = portion_counted c.loop-passed.self c.pass_row-in-loop-passed.new.self first done.steps in (
      more_within c.args.self.now c.loop-passed.self c.pass_row-in-loop-passed.new.self (output g.W.Write.contents c.args.out.now c.args.page.now)
          (output g.W.Write.contents c.loop-passed.out c.loop-passed.page) (output g.W.Write.contents c.pass_row-in-loop-passed.new.out c.pass_row-in-loop-passed.new.page) c.loop-passed.invariant.0
          first done.steps done.reads done.passed,
      omega (arith, counted.0, c.loop-passed.invariant.1),
      omega (arith, counted.1, c.loop-passed.invariant.1),
    )

pub returns-then-not-begins_with-clause-written : goal.returns-then-not-begins_with-clause-written
returns-then-not-begins_with-clause-written g c =
    statement_written c.args.self.now c.loop-passed.self c.end_statement.new.self (output g.W.Write.contents c.args.out.now c.args.page.now)
    (output g.W.Write.contents c.loop-passed.out c.loop-passed.page) _ _ c.loop-passed.invariant.0 c.in_ok-sum.ensures.sum c.in_ok-sum.ensures.reads c.in_ok-sum.ensures.looked

pub unreachable-requires : goal.unreachable-requires
unreachable-requires g c = omega (arith, c.loop-passed.invariant.2, c.loop-passed-test.false)
