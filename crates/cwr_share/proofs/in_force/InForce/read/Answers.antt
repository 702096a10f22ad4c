use Rattle.std.proofs.Common.{[], inr, sym}
use Rattle.csv_table.proofs.InTurn.{sound_none}
use Rattle.cwr_share.specs.CwrFile.{IsSound}
use Rattle.cwr_share.specs.Lines.{lines_of}
use Rattle.cwr_share.proofs.CwrReadings.{first_left_out, whole_read}
use Rattle.cwr_share.proofs.in_force.InForce.read.Goals as goal

pub returns-in-Some-clause-fault : goal.returns-in-Some-clause-fault
returns-in-Some-clause-fault c =
    let from = c.of-reader.result in
    let to = c.next_fault.new.self in
    let begun = c.of-reader.ensures.begun in
    let on = rw c.in-Some.is at c.in_ok-fault.ensures.fault in
    let (lines, read, way) = on [] c.of-reader.ensures.none_read in
    inr (first_left_out (lines_of c.args.bytes.now) [] from.lines to.lines to.line.now c.in-Some.fault [] from.number to.number lines (sym begun.1) (sound_none IsSound) (sym begun.0) way).0

pub returns-in_ok-in_force-in-None-clause-sound : goal.returns-in_ok-in_force-in-None-clause-sound
returns-in_ok-in_force-in-None-clause-sound c =
    (whole_read (lines_of c.args.bytes.now) c.of-reader.result c.next_fault.new.self c.of-reader.ensures.none_read c.of-reader.ensures.begun (rw c.in-None.is at c.in_ok-fault.ensures.none)).0

pub returns-in_ok-in_force-in-None-clause-registrations : goal.returns-in_ok-in_force-in-None-clause-registrations
returns-in_ok-in_force-in-None-clause-registrations c =
    c.in_ok-in_force-in-None.ensures (lines_of c.args.bytes.now)
    (whole_read (lines_of c.args.bytes.now) c.of-reader.result c.next_fault.new.self c.of-reader.ensures.none_read c.of-reader.ensures.begun (rw c.in-None.is at c.in_ok-fault.ensures.none))
