use Rattle.std.proofs.Common.{subst, zip}
use Rattle.cwr_share.specs.PassedOver.{IsTallyOf}
use Rattle.linked_works.specs.Linked.{finds_among}
use Rattle.linked_works.specs.PassedOver.{rows_not_in_force}
use Rattle.linked_works.specs.Rows.{Table}
use Rattle.linked_works.proofs.works.Works.not_in_force.Goals as goal

pub returns : goal.returns
returns c =
    subst (λ (table : Table). IsTallyOf (rows_not_in_force (finds_among (zip table.names c.args.files.now)) table.links) c.not_in_force.result) c.self.view_is
    (rw c.as_slice.ensures.value at c.not_in_force.ensures)
