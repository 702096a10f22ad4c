use Rattle.std.proofs.Common.{◌∙◌, [], ap, arith, refl, sym}
use Rattle.check_inputs.specs.Report.{row_line}
use Rattle.check_inputs.proofs.GoingOn.{goes_on, goes_start, headed_told, headless_told, none_told, out_few, table_few, table_told}
use Rattle.check_inputs.proofs.reading.read_past_faults.Goals as goal
use Rattle.check_inputs.proofs.reading.read_past_faults.Goals.{then-not-is_headed+in_ok-row, else-not-is_headed}

pub loop-reader-init : goal.loop-reader-init
loop-reader-init g c =
    let table = g.T.RowTable in
    let line = row_line g.T.Worded.message g.T.Fault.FileFault.place_in g.T.Fault.FileFault.number_in in
    let none = none_told (line c.none-told.result.path.now) c.none-told.ensures.none in
    let (empty, first, all) = c.in_ok-reader.ensures.begun in
    let kept = ap table.known empty in
    elim c.if-not-is_headed.branch [
      | then-not-is_headed+in_ok-row w ↦
          let told = rw c.none-told.ensures.path at (w.in_ok-row.ensures.told [] none) in
          let headless = headless_told (sym w.if-not-is_headed.ensures) told (rw (w.of-then-not-is_headed.ensures.row, w.headless.ensures, kept) refl) in
          rw w.told-is (goes_start headless (ap table.items empty ∙ c.requires, first, all), w.row-then-not-is_headed.ensures.path ∙ c.none-told.ensures.path, kept)
      | else-not-is_headed w ↦
          let headed = headed_told _ (sym w.if-not-is_headed.ensures) (rw c.none-told.ensures.path at none) in
          rw w.told-is (goes_start headed (ap table.items empty ∙ c.requires, first, all), c.none-told.ensures.path, kept)
    ]

pub row-requires-in-Some-2 : goal.row-requires-in-Some-2
row-requires-in-Some-2 g c = omega (arith, table_few c.args.bytes.now c.in_ok-reader.reader.is_headed _ c.loop-reader.invariant.0)

pub loop-reader-smaller : goal.loop-reader-smaller
loop-reader-smaller g c = omega (arith, out_few (rw c.in-Some.is at c.in_ok-fault.ensures.fault))

pub loop-reader-preserved : goal.loop-reader-preserved
loop-reader-preserved g c =
    let (goes, path, kept) = c.loop-reader.invariant in
    let on = rw kept at (rw c.in-Some.is at c.in_ok-fault.ensures.fault) in (
      goes_on goes on (rw (path, c.row-in-Some.ensures) at c.in_ok-row-2.ensures.told),
      c.row-in-Some-2.ensures.path ∙ path,
      c.in_ok-fault.ensures.known ∙ kept,
    )

pub returns-clause-read : goal.returns-clause-read
returns-clause-read g c =
    let (goes, path, kept) = c.loop-reader.invariant in
    let on = rw kept at (rw c.in_default.is at c.in_ok-fault.ensures.none) in
    rw c.finish.ensures
    (table_told c.args.path.now goes on c.in_ok-reader.ensures.headed c.in_ok-reader.ensures.headless (rw path at c.in_ok-close.ensures.text) c.close.ensures.count)

pub returns-clause-known : goal.returns-clause-known
returns-clause-known g c =
    let (goes, path, kept) = c.loop-reader.invariant in
    rw c.finish.ensures (c.in_ok-fault.ensures.known ∙ kept)
