use Rattle.std.proofs.Common.{ap, arith, length}
use Rattle.payee_portions.proofs.SectionsLeft.{next_section, none_left}
use Rattle.payee_portions.proofs.sections.count_of_sections.Goals as goal

pub loop-from-preserved : goal.loop-from-preserved
loop-from-preserved c = record {
  left =
      omega (
        arith,
        c.loop-from.invariant.left,
        ap length (next_section c.args.list.now c.loop-from.from c.end_of_section-from.result c.loop-from-test.true c.end_of_section-from.ensures.end),
      );
  few = omega (arith, c.loop-from.invariant.few, c.end_of_section-from.ensures.some);
  within = c.end_of_section-from.ensures.within;
}

pub returns : goal.returns
returns c = omega (arith, c.loop-from.invariant.left, ap length (none_left c.args.list.now c.loop-from.from c.loop-from-test.false))
