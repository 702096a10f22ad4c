use Rattle.std.proofs.Common.{ℕ, List, ap, arith, length, subst}
use Rattle.std.proofs.lemmas.List.{length-append}
use Rattle.cwr_share.specs.Lines.{lines_of}
use Rattle.cwr_share.proofs.LineLemmas.{lines_count}
use Rattle.file_form.proofs.ControlLemmas.{IsScanTo, scan_next, scan_room}
use Rattle.file_form.proofs.controls.control_counts.Goals as goal

pub add-requires-clause-few : goal.add-requires-clause-few
add-requires-clause-few c =
    let sofar = c.loop-line.invariant in
    omega (arith, sofar.scan_of.number, length-append sofar.before c.loop-line.lines, ap length sofar.split, lines_count c.args.bytes.now, c.well_formed)

pub add-requires-clause-room : goal.add-requires-clause-room
add-requires-clause-room c = omega (arith, scan_room c.args.bytes.now c.loop-line.lines c.loop-line.scan c.loop-line.invariant, c.well_formed)

pub loop-line-preserved : goal.loop-line-preserved
loop-line-preserved c =
    let sofar = subst (λ (l : List (List ℕ)). IsScanTo (lines_of c.args.bytes.now) l c.loop-line.scan) c.in-Some.ensures.some c.loop-line.invariant in
    scan_next (lines_of c.args.bytes.now) c.next.new.self c.in-Some.line.now c.loop-line.scan c.add.new.self c.in_ok-add.ensures sofar
