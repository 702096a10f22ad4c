use Rattle.std.proofs.Common.{arith, codes, decimal, refl}
use Rattle.check_inputs.proofs.Telling.{told_in_parts, told_over}
use Rattle.check_inputs.specs.Messages.{place_text}
use Rattle.check_inputs.specs.Report.{row_line}
use Rattle.check_inputs.proofs.told.Told.row.Goals as goal

pub returns-then-self-ge-MOST_FAULTS-clause-told : goal.returns-then-self-ge-MOST_FAULTS-clause-told
returns-then-self-ge-MOST_FAULTS-clause-told g c = λ faults told.
    let line = row_line g.T.Worded.message g.T.Fault.FileFault.place_in g.T.Fault.FileFault.number_in c.args.self.now.path.now in
    told_over line (c.args.row.now.row, c.args.fault.now) c.args.self.now.text.items c.args.self.now.count faults told c.if-self-ge-MOST_FAULTS.true

pub returns-clause-told : goal.returns-clause-told
returns-clause-told g c = λ faults told.
    let was = c.args.self.now in
    let row = c.args.row.now.row in
    let fault = c.args.fault.now in
    let line = row_line g.T.Worded.message g.T.Fault.FileFault.place_in g.T.Fault.FileFault.number_in was.path.now in
    told_in_parts line (row, fault) was.text.items c.begin.new.self.text.items c.add_message.new.text.items c.end.new.self.text.items was.path.now (codes ": ")
    (place_text (codes "row ") c.place.result)
    (g.T.Worded.message row fault) (codes " (fault ") (decimal c.number.result) (codes ")\n") was.count c.end.new.self.count faults told c.if-self-ge-MOST_FAULTS.false c.in_ok-begin.ensures.text
    c.in_ok-add_message.ensures c.in_ok-end.ensures.text (omega (arith, c.end.ensures.count, c.begin.ensures.same.0)) (rw (c.place.ensures, c.number.ensures) refl)
