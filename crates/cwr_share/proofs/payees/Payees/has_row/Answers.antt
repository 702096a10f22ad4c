use Rattle.cwr_share.proofs.PayeeLemmas.{has_row_told}
use Rattle.cwr_share.proofs.payees.Payees.has_row.Goals as goal

pub returns : goal.returns
returns c = has_row_told c.self.inside.rows.entries c.args.self.now c.args.party.now c.contains_key.result c.self.view_is c.contains_key.ensures
