use Rattle.std.proofs.Common.{arith, codes, decimal, refl}
use Rattle.check_inputs.proofs.Telling.{told_in_parts, told_over}
use Rattle.check_inputs.specs.Messages.{place_text, cwr_message}
use Rattle.check_inputs.specs.Report.{cwr_line}
use Rattle.check_inputs.proofs.told.Told.cwr.Goals as goal

pub returns-then-self-ge-MOST_FAULTS-clause-told : goal.returns-then-self-ge-MOST_FAULTS-clause-told
returns-then-self-ge-MOST_FAULTS-clause-told c = λ faults told.
    told_over (cwr_line c.args.self.now.path.now) (c.args.line.now, c.args.fault) c.args.self.now.text.items c.args.self.now.count faults told c.if-self-ge-MOST_FAULTS.true

pub returns-clause-told : goal.returns-clause-told
returns-clause-told c = λ faults told.
    let was = c.args.self.now in
    let row = c.args.line.now in
    let fault = c.args.fault in
    told_in_parts (cwr_line was.path.now) (row, fault) was.text.items c.begin.new.self.text.items c.add_cwr.new.text.items c.end.new.self.text.items was.path.now (codes ": ")
    (place_text (codes "line ") c.place.result)
    (cwr_message row fault) (codes " (fault ") (decimal c.number.result)
    (codes ")\n") was.count c.end.new.self.count faults told c.if-self-ge-MOST_FAULTS.false c.in_ok-begin.ensures.text c.in_ok-add_cwr.ensures
    c.in_ok-end.ensures.text (omega (arith, c.end.ensures.count, c.begin.ensures.same.0)) (rw (c.place.ensures, c.number.ensures) refl)
