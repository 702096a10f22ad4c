use Rattle.std.proofs.Common.{arith}
use Rattle.merge_statements.specs.SoFar.{output}
use Rattle.merge_statements.proofs.Passing.{more_rests, no_rests, rest_counted, rests_written}
use Rattle.merge_statements.proofs.Refusing.{letter_needs}
use Rattle.merge_statements.proofs.part.Part.pass_rests.Goals as goal

pub loop-passed-init : goal.loop-passed-init
loop-passed-init g c = (no_rests c.args.self.now (output g.W.Write.contents c.args.out.now c.args.page.now) c.requires, omega arith, omega arith)

pub pass_row-requires : goal.pass_row-requires
pass_row-requires g c = letter_needs c.loop-passed.self 77 (c.begins_with.ensures.is c.if-not-begins_with.false) (omega arith)

pub loop-passed-preserved : goal.loop-passed-preserved
loop-passed-preserved g c =
    let done = c.in_ok-pass_row.ensures in
    let first = c.begins_with.ensures.is c.if-not-begins_with.false in
    let counted = rest_counted c.loop-passed.self c.pass_row.new.self first done.steps in (
      more_rests c.args.self.now c.loop-passed.self c.pass_row.new.self (output g.W.Write.contents c.args.out.now c.args.page.now) (output g.W.Write.contents c.loop-passed.out c.loop-passed.page)
          (output g.W.Write.contents c.pass_row.new.out c.pass_row.new.page) c.loop-passed.invariant.0 first done.steps done.reads done.passed,
      omega (arith, counted.0, c.loop-passed.invariant.1),
      omega (arith, counted.1, c.loop-passed.invariant.1),
    )

pub returns-then-not-begins_with-clause-written : goal.returns-then-not-begins_with-clause-written
returns-then-not-begins_with-clause-written g c =
    rests_written c.args.self.now c.loop-passed.self c.end_rests.new.self (output g.W.Write.contents c.args.out.now c.args.page.now)
    (output g.W.Write.contents c.loop-passed.out c.loop-passed.page) _ _ c.loop-passed.invariant.0 c.in_ok-sum.ensures.sum

pub unreachable-requires : goal.unreachable-requires
unreachable-requires g c = omega (arith, c.loop-passed.invariant.2, c.loop-passed-test.false)
