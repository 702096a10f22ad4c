use Rattle.std.proofs.Common.{◌∙◌, [], arith, refl}
use Rattle.cwr_share.proofs.LineLemmas.{lines_count}
use Rattle.check_inputs.specs.Report.{cwr_line}
use Rattle.check_inputs.proofs.GoingOn.{goes_few, goes_on, goes_start, goes_whole, none_told, out_few}
use Rattle.check_inputs.proofs.reading.read_lines.Goals as goal

pub loop-reader-init : goal.loop-reader-init
loop-reader-init c =
    let begun = c.of-reader.ensures.begun in (
      c.of-reader.ensures.stands,
      ([], c.of-reader.ensures.none_read, goes_start (none_told (cwr_line c.args.path.now) c.none-told.ensures.none) (refl, begun.0, begun.1)),
      c.none-told.ensures.path,
    )

pub loop-reader-smaller : goal.loop-reader-smaller
loop-reader-smaller c =
    let (kept, read, goes) = c.loop-reader.invariant.1 in
    let on = rw c.in-Some.is at c.in_ok-fault.ensures.fault in
    let (more, done, way) = on kept read in
    omega (arith, out_few way)

pub loop-reader-preserved : goal.loop-reader-preserved
loop-reader-preserved c =
    let (kept, read, goes) = c.loop-reader.invariant.1 in
    let on = rw c.in-Some.is at c.in_ok-fault.ensures.fault in
    let (more, done, way) = on kept read in
    let tells = rw (c.loop-reader.invariant.2, c.line.ensures) at c.in_ok-cwr.ensures.told in (
      c.in_ok-fault.ensures.stands,
      (
        more,
        done,
        goes_on goes way tells,
      ),
      c.cwr.ensures.path ∙ c.loop-reader.invariant.2,
    )

pub cwr-requires : goal.cwr-requires
cwr-requires c =
    let (kept, read, goes) = c.loop-reader.invariant.1 in
    omega (arith, lines_count c.args.bytes.now, goes_few goes)

pub returns-clause-read : goal.returns-clause-read
returns-clause-read c =
    let to = c.next_fault.new.self in
    let (kept, read, goes) = c.loop-reader.invariant.1 in
    let (on, none) = rw c.in_default.is at c.in_ok-fault.ensures.none in
    let (last, done, way) = on kept read in
    let all = goes_whole goes way none in
    record {
      stands = c.in_ok-fault.ensures.stands;
      out = all.below;
      kept = last;
      end = to.number;
      is_read = done;
      way = all.way;
      told = all.told;
    }

pub returns-clause-path : goal.returns-clause-path
returns-clause-path c = c.loop-reader.invariant.2

pub returns-clause-few : goal.returns-clause-few
returns-clause-few c =
    let (kept, read, goes) = c.loop-reader.invariant.1 in
    omega (arith, lines_count c.args.bytes.now, goes_few goes)
