use Rattle.std.proofs.Common.{ap}
use Rattle.cwr_share.proofs.PayeeLemmas.{has_row_told}
use Rattle.value_maps.proofs.value_map.ValueMap.has_row.Goals as goal

pub returns : goal.returns
returns c =
    has_row_told c.self.inside.rows.entries c.args.self.now.rows c.args.from.now c.contains_key.result (ap (λ values. values.rows) c.self.view_is) c.contains_key.ensures
