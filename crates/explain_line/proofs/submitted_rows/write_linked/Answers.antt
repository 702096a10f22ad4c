use Rattle.std.proofs.Common.{get_or}
use Rattle.std.proofs.lemmas.Option.{slice_get-get_or}
use Rattle.linked_works.specs.Rows.{link_shown}
use Rattle.explain_line.specs.Submitted.{link_rows}
use Rattle.explain_line.proofs.LookedLemmas.{none_row}
use Rattle.explain_line.proofs.RowLemmas.{groups_more}
use Rattle.explain_line.proofs.submitted_rows.write_linked.Goals as goal

pub loop-place-preserved : goal.loop-place-preserved
loop-place-preserved c = λ files are.
    let linked = c.args.linked.now in
    let place = c.loop-place.place in
    let within = c.loop-place-test.true in
    let its = are place (get_or linked place none_row) c.index-filed-place.result (slice_get-get_or linked place none_row within) in
    groups_more (link_rows c.args.tis.now c.args.registry.now c.args.land c.args.right files) link_shown linked place none_row
    c.args.rows.now.text c.loop-place.rows.text c.write_link.new.rows.text within (c.loop-place.invariant files are)
    (c.in_ok-write_link.ensures files (rw c.index-filed-place.is its))
