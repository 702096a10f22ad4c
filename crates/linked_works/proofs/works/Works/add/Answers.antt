use Rattle.std.proofs.Common.{arith, length, ◌<◌, ◌≡◌, ◌∙◌, ◌∷◌, ◌++◌, [], ℕ, List, Contains, ap, map, subst, sym}
use Rattle.std.proofs.lemmas.List.{length-map}
use Rattle.linked_works.specs.Rows.{Table, key_of, link_by, links_by, names_by}
use Rattle.linked_works.specs.declared.TheConstants.{MOST_LINKS}
use Rattle.linked_works.proofs.LinkRows.{fresh_key, links_added}
use Rattle.linked_works.proofs.works.Works.add.Goals as goal

pub invariant_of-self-in-Ok : goal.invariant_of-self-in-Ok
invariant_of-self-in-Ok c =
    let names = names_by c.self.inside.names.now in
    let links = c.self.inside.links.items in
    let kept = c.self.invariant in
    let new : ¬ Contains c.self.inside.seen.keys c.args.key =
    subst (λ (keys : List (List ℕ)). ¬ Contains keys c.args.key) (ap (λ table. map key_of table.links) (sym c.self.view_is) ∙ sym kept.keys_of) c.requires.new in
    let keys : c.insert.new.self.keys ≡ c.self.inside.seen.keys ++ c.args.key ∷ [] = rw (fresh_key c.self.inside.seen.keys c.args.key new) at c.in-Ok.ensures.keys in
    let its : length (links_by names links) ≡ length links =
    length-map links (link_by names) in
    let room : length links < MOST_LINKS =
    omega (arith, its, ap (λ (table : Table). length table.links) c.self.view_is, c.requires.room) in
    rw (keys, c.in_ok-push.ensures.items)
    (links_added names links c.self.inside.seen.keys c.args.link c.args.key kept room (rw (sym c.self.view_is) at c.requires.known) c.requires.work (rw (sym c.self.view_is) at c.requires.key))
