use Rattle.std.proofs.Common.{take, zip}
use Rattle.cwr_share.specs.PassedOver.{IsTallyOf}
use Rattle.linked_works.specs.Linked.{finds_among}
use Rattle.linked_works.specs.PassedOver.{rows_not_in_force}
use Rattle.linked_works.specs.Rows.{links_by, names_by}
use Rattle.linked_works.proofs.passed_over.not_in_force.Given as goal

abbrev pub invariant-loop-place : goal.invariant-loop-place
invariant-loop-place l = IsTallyOf (rows_not_in_force (finds_among (zip (names_by l.names) l.files)) (links_by (names_by l.names) (take l.place l.links))) l.tally
