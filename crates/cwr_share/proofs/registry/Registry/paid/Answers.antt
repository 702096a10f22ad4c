use Rattle.std.proofs.Common.{[], sym}
use Rattle.std.proofs.lemmas.Result.{IfErr-weaker, IfOk-weaker}
use Rattle.csv_table.proofs.InTurn.{sound_none}
use Rattle.cwr_share.specs.CwrFile.{IsFaultOf, IsFileOf, IsSound}
use Rattle.cwr_share.specs.Lines.{lines_of}
use Rattle.cwr_share.proofs.CwrReadings.{fault_of_first, first_left_out, whole_read}
use Rattle.cwr_share.proofs.FileLemmas.{payees_fault}
use Rattle.cwr_share.proofs.registry.Registry.paid.Goals as goal

pub returns-in-Some-clause-fault : goal.returns-in-Some-clause-fault
returns-in-Some-clause-fault c =
    let from = c.of-reader.result in
    let to = c.next_fault.new.self in
    let begun = c.of-reader.ensures.begun in
    let on = rw c.in-Some.is at c.in_ok-fault.ensures.fault in
    let (lines, read, way) = on [] c.of-reader.ensures.none_read in
    let (first, placed) = first_left_out (lines_of c.args.bytes.now) [] from.lines to.lines to.line.now c.in-Some.fault [] from.number to.number lines (sym begun.1) (sound_none IsSound) (sym begun.0) way in
    fault_of_first c.args.payees.now (lines_of c.args.bytes.now) c.in-Some.fault first placed

pub returns-in-None-clause-registrations : goal.returns-in-None-clause-registrations
returns-in-None-clause-registrations c =
    let read = whole_read (lines_of c.args.bytes.now) c.of-reader.result c.next_fault.new.self c.of-reader.ensures.none_read c.of-reader.ensures.begun (rw c.in-None.is at c.in_ok-fault.ensures.none) in
    IfOk-weaker c.finish.result _ (IsFileOf c.args.payees.now (lines_of c.args.bytes.now)) (λ registry file. file (lines_of c.args.bytes.now) read) c.finish.ensures.registrations

pub returns-in-None-clause-fault : goal.returns-in-None-clause-fault
returns-in-None-clause-fault c =
    let read = whole_read (lines_of c.args.bytes.now) c.of-reader.result c.next_fault.new.self c.of-reader.ensures.none_read c.of-reader.ensures.begun (rw c.in-None.is at c.in_ok-fault.ensures.none) in
    IfErr-weaker c.finish.result _ (IsFaultOf c.args.payees.now (lines_of c.args.bytes.now))
    (λ fault why. payees_fault c.args.payees.now (lines_of c.args.bytes.now) c.next_fault.new.self.reading fault read why) c.finish.ensures.fault
