use Rattle.std.proofs.Common.{sym}
use Rattle.tis_tree.proofs.Compiling.{known_if_found}
use Rattle.tis_tree.proofs.tis_table.TisTable.known.Goals as goal

pub returns : goal.returns
returns c =
    let told = known_if_found c.args.self.now c.number.result c.place.result c.place.ensures.some c.place.ensures.none in
    rw (c.is_some.ensures, sym c.number.ensures.number) told
