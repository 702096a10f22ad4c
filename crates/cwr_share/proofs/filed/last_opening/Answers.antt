use Rattle.std.proofs.Common.{◌∙◌, length, sym, arith}
use Rattle.cwr_share.specs.Lines.{lines_of}
use Rattle.cwr_share.proofs.FiledLemmas.{found_few, next_line, sought_no, sought_yes}
use Rattle.cwr_share.proofs.LineLemmas.{lines_count}
use Rattle.cwr_share.proofs.filed.last_opening.Goals as goal

pub overflow_add-number : goal.overflow_add-number
overflow_add-number c =
    let before = c.loop-line.invariant in
    let more = rw c.in-Some.ensures.some at before.count in
    omega (arith, more, lines_count c.args.bytes.now, c.well_formed)

pub loop-line-preserved-then-is_opening_of : goal.loop-line-preserved-then-is_opening_of
loop-line-preserved-then-is_opening_of c =
    let all = lines_of c.args.bytes.now in
    let before = c.loop-line.invariant in
    let next = next_line all c.loop-line.number c.in-Some.line.now c.next.new.self (sym c.in-Some.ensures.some ∙ before.rest) (rw c.in-Some.ensures.some at before.count) in record {
      rest = next.left;
      count = omega (arith, rw c.in-Some.ensures.some at before.count);
      sofar = sought_yes all c.args.work.now c.loop-line.number c.in-Some.line.now c.next.new.self c.rest.result next (sym c.is_opening_of.ensures ∙ c.if-is_opening_of.true) c.rest.ensures;
    }

pub loop-line-preserved : goal.loop-line-preserved
loop-line-preserved c =
    let all = lines_of c.args.bytes.now in
    let before = c.loop-line.invariant in
    let next = next_line all c.loop-line.number c.in-Some.line.now c.next.new.self (sym c.in-Some.ensures.some ∙ before.rest) (rw c.in-Some.ensures.some at before.count) in record {
      rest = next.left;
      count = omega (arith, rw c.in-Some.ensures.some at before.count);
      sofar = sought_no all c.args.work.now c.loop-line.number c.in-Some.line.now c.next.new.self c.loop-line.found next (sym c.is_opening_of.ensures ∙ c.if-is_opening_of.false) before.sofar;
    }

pub returns-clause-few : goal.returns-clause-few
returns-clause-few c =
    let before = c.loop-line.invariant in
    found_few (lines_of c.args.bytes.now) c.args.work.now c.loop-line.number c.loop-line.found (length c.args.bytes.now) before.sofar (omega (arith, before.count)) (lines_count c.args.bytes.now)
