use Rattle.document_names.proofs.CodeLemmas.{has_row_told}
use Rattle.document_names.proofs.territories.TerritoryNames.has_row.Goals as goal

pub returns : goal.returns
returns c = has_row_told c.self.inside.names.entries c.args.self.now c.args.code c.contains_key.result c.self.view_is c.contains_key.ensures
