use Rattle.explain_line.specs.Explanation.{share_row}
use Rattle.cwr_share.proofs.ClaimLemmas.{no_line}
use Rattle.explain_line.proofs.RowLemmas.{rows_more}
use Rattle.explain_line.proofs.rows.write_shares.Goals as goal

pub loop-place-preserved : goal.loop-place-preserved
loop-place-preserved c =
    rows_more (share_row c.args.tis.now c.args.registry.now c.args.land c.args.right c.args.numbers.now c.args.shares.now) c.args.shares.now c.loop-place.place no_line
    c.args.rows.now.text c.loop-place.rows.text c.write_share.new.rows.text c.loop-place-test.true c.loop-place.invariant (c.in_ok-write_share.ensures no_line)
