use Rattle.std.proofs.Common.{◌≡◌, ◌<◌, ◌-◌, ℕ, List, length, arith, subst}
use Rattle.std.proofs.lemmas.List.{get_or_read}
use Rattle.tis_tree.specs.Territories.{row_at}
use Rattle.tis_tree.proofs.tis_table.TisTable.place.Goals as goal

pub returns-in_default-clause-some : goal.returns-in_default-clause-some
returns-in_default-clause-some c =
    let place = c.index.result.now - 1 in
    let read = get_or_read c.self.inside.places.items c.args.code c.index.result.now (omega (arith, c.self.invariant.by_code)) c.index.ensures 0 in
    let found = c.self.invariant.known c.args.code place c.requires (omega (arith, read)) in
    subst (λ (table : List (ℕ × List ℕ)). (place < length table) × ((row_at table place).0 ≡ c.args.code)) c.self.view_is found
