use Rattle.std.proofs.Common.{◌≡◌, ◌∷◌, ◌++◌, ℕ, List, [], length, map, arith, ap, refl, subst}
use Rattle.std.proofs.lemmas.List.{length-map, map-append}
use Rattle.tis_tree.specs.Compiled.{IsCompiled}
use Rattle.tis_tree.specs.declared.places.Places.{Places}
use Rattle.tis_tree.specs.declared.tis_table.Territory.{Territory}
use Rattle.tis_tree.proofs.Compiling.{compiled_push, set_of_new}
use Rattle.tis_tree.proofs.tis_table.TisTable.push.Goals as goal

pub invariant_of-self-2 : goal.invariant_of-self-2
invariant_of-self-2 c =
    let table = c.args.self.now in
    let code = c.args.code in
    let groups = c.args.groups.items in
    let inside = c.self.inside in
    let sets = map (λ (set : Places). set.words) inside.enclosing.items in
    let long : c.len-place.result ≡ length table = omega (arith, simp length-map at (ap length c.self.view_is)) in
    let kept = subst (λ (table : List (ℕ × List ℕ)). IsCompiled table inside.places.items sets) c.self.view_is c.self.invariant in
    let set = set_of_new table groups c.args.set.words c.add.new.self.words c.requires.set (rw long at c.add.ensures) in
    let rows : map (λ (row : Territory). (row.code, row.groups.items)) c.push_reserved.new.self.items ≡ table ++ (code, groups) ∷ [] = rw (c.push_reserved.ensures.items, c.reserve.ensures.items, map-append, c.self.view_is) refl in
    let more : map (λ (set : Places). set.words) c.push_reserved-2.new.self.items ≡ sets ++ c.add.new.self.words ∷ [] = rw (c.push_reserved-2.ensures.items, c.reserve-2.ensures.items, map-append) refl in
    rw (rows, more, long) (compiled_push table inside.places.items sets code groups c.add.new.self.words kept c.requires.few c.requires.code c.requires.groups set)
