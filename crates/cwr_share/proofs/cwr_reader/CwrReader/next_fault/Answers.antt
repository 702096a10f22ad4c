use Rattle.std.proofs.Common.{◌∷◌, ◌++◌, [], ap, arith, length, refl, subst, sym}
use Rattle.std.proofs.lemmas.List.{length_push}
use Rattle.csv_table.specs.ReadOn.ReadsOn.{here}
use Rattle.csv_table.proofs.ReadingOn.{and_left_out, and_read}
use Rattle.cwr_share.specs.CwrReading.{Reads, Refuses, Stops}
use Rattle.cwr_share.specs.Reading.{IsReadTo}
use Rattle.cwr_share.proofs.CwrReadings.{left_out_line, sound_last}
use Rattle.cwr_share.proofs.cwr_reader.CwrReader.next_fault.Goals as goal

pub loop-line-init : goal.loop-line-init
loop-line-init c = (c.requires, λ lines read. (lines, read, here lines c.args.self.now.number c.args.self.now.lines))

pub loop-line-preserved : goal.loop-line-preserved
loop-line-preserved c =
    let at = c.loop-line.self in
    let stood = c.loop-line.invariant.0 in
    let line = c.in-Some.line.now in
    let found = c.in-Some.ensures.some in (
      record {
        countable = omega (arith, stood.countable, ap length found);
        lines = stood.lines ++ line ∷ [];
        read = c.in_default-add.ensures.read stood.lines stood.read;
        fewer = omega (arith, stood.fewer, length_push stood.lines line);
      },
      λ lines read.
          let (more, was, on) = c.loop-line.invariant.1 lines read in
          let now = c.in_default-add.ensures.read more was in (
            more ++ line ∷ [],
            now,
            and_read Reads Refuses Stops lines more (more ++ line ∷ []) c.args.self.now.number at.number c.args.self.now.lines at.lines c.next.new.self line on found (sound_last more line now.0, refl),
          ),
    )

pub returns-in-Err-clause-fault : goal.returns-in-Err-clause-fault
returns-in-Err-clause-fault c = λ lines read.
    let at = c.loop-line.self in
    let line = c.in-Some.line.now in
    let (more, was, on) = c.loop-line.invariant.1 lines read in
    let (refused, same) = left_out_line more at.reading c.add.new.self line at.number c.in-Err.fault was c.in-Err.ensures.fault c.in-Err.ensures.same (rw c.place.ensures at c.if-is_none.ensures) in (
      more,
      subst (IsReadTo more) (sym same) was,
      and_left_out Reads Refuses Stops lines more c.args.self.now.number at.number c.args.self.now.lines at.lines c.next.new.self line c.in-Err.fault on c.in-Some.ensures.some refused,
    )

pub returns-in-Err-clause-stands : goal.returns-in-Err-clause-stands
returns-in-Err-clause-stands c =
    let at = c.loop-line.self in
    let stood = c.loop-line.invariant.0 in
    let line = c.in-Some.line.now in
    let (refused, same) = left_out_line stood.lines at.reading c.add.new.self line at.number c.in-Err.fault stood.read c.in-Err.ensures.fault c.in-Err.ensures.same (rw c.place.ensures at c.if-is_none.ensures) in
    record {
      countable = omega (arith, stood.countable, ap length c.in-Some.ensures.some);
      lines = stood.lines;
      read = subst (IsReadTo stood.lines) (sym same) stood.read;
      fewer = omega (arith, stood.fewer);
    }

pub returns-clause-none : goal.returns-clause-none
returns-clause-none c =
    let (none, left) = c.in_default.ensures.none in (
      λ lines read.
          let (more, was, on) = c.loop-line.invariant.1 lines read in
          (more, was, rw left (rw none at on)),
      left,
    )
