use Rattle.std.proofs.Common.{◌≡◌, ◌∙◌, [], Contains, ap, arith, get_or, length}
use Rattle.std.proofs.lemmas.List.{get_or_default}
use Rattle.linked_works.specs.PassedOver.{is_linked}
use Rattle.linked_works.specs.Rows.{Table, names_by}
use Rattle.linked_works.proofs.PassingOver.{key_is_linked}
use Rattle.linked_works.proofs.works.Works.is_linked.Goals as goal

pub returns : goal.returns
returns c =
    let names = names_by c.self.inside.names.now in
    let links = c.self.inside.links.items in
    let place = c.args.submitter in
    let name = get_or names place [] in
    let count : length names ≡ length c.args.self.now.names = ap (λ (table : Table). length table.names) c.self.view_is in
    let named : Contains names name = (place, omega (arith, c.requires.known, count), get_or_default names place name [] (omega (arith, c.requires.known, count))) in
    c.is_linked.ensures ∙ (key_is_linked names links c.self.inside.seen.keys c.self.invariant name named c.args.number.now
    ∙ ap (λ (table : Table). is_linked table.links (get_or table.names place []) c.args.number.now) c.self.view_is)
