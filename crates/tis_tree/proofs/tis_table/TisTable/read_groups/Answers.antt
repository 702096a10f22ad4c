use Rattle.std.proofs.Common.{◌≡◌, ◌<◌, ℕ, List, [], length, map, arith, ap, rules, subst, sym, true, ◌∙◌}
use Rattle.std.proofs.lemmas.List.{length-map}
use Rattle.std.specs.Result.{is_ok}
use Rattle.tis_tree.specs.Compiled.{IsCompiled}
use Rattle.tis_tree.specs.Territories.{IsKnown}
use Rattle.tis_tree.specs.declared.places.Places.{Places}
use Rattle.tis_tree.specs.declared.tis_table.Territory.{Territory}
use Rattle.tis_tree.proofs.Enclosing.{code_known}
use Rattle.tis_tree.proofs.GroupWords.{empty_if, map_read, named_all, named_fault, named_more, no_words, some_if}
use Rattle.tis_tree.proofs.tis_table.TisTable.read_groups.Goals as goal

pub returns-then-is_empty-clause-known : goal.returns-then-is_empty-clause-known
returns-then-is_empty-clause-known c =
    let none = c.first_word.ensures.none (empty_if c.first_word.result.0.now (sym c.if-is_empty.ensures)) in
    (named_all c.args.self.now c.args.text.now c.loop.rest.now c.args.set.now.words c.loop.set.words c.loop.groups.items c.loop.counter c.loop.invariant none).0

pub returns-then-is_empty-clause-groups : goal.returns-then-is_empty-clause-groups
returns-then-is_empty-clause-groups c =
    let none = c.first_word.ensures.none (empty_if c.first_word.result.0.now (sym c.if-is_empty.ensures)) in
    (named_all c.args.self.now c.args.text.now c.loop.rest.now c.args.set.now.words c.loop.set.words c.loop.groups.items c.loop.counter c.loop.invariant none).1

pub returns-in_default-clause-none : goal.returns-in_default-clause-none
returns-in_default-clause-none c =
    let some = c.first_word.ensures.some (some_if c.first_word.result.0.now (sym c.if-is_empty.ensures)) in
    named_fault c.args.self.now c.args.text.now c.loop.rest.now c.args.set.now.words c.loop.set.words c.loop.groups.items c.loop.counter
    c.first_word.result.0.now c.first_word.result.1.now c.loop.invariant some c.in_default.ensures.none

pub loop-preserved : goal.loop-preserved
loop-preserved c =
    let table = c.args.self.now in
    let word = c.first_word.result.0.now in
    let place = c.in-Some.place in
    let inside = c.self.inside in
    let sets = map (λ (set : Places). set.words) inside.enclosing.items in
    let there = some_if word (sym c.if-is_empty.ensures) in
    let (code, within, row) = c.in-Some.ensures.some in
    let kept = subst (λ (table : List (ℕ × List ℕ)). IsCompiled table inside.places.items sets) c.self.view_is c.self.invariant in
    let in_sets : place < length inside.enclosing.items = omega (arith, within, simp length-map at kept.by_row) in
    let read = map_read (λ (set : Places). set.words) inside.enclosing.items place c.index.result.now [] in_sets c.index.ensures in
    let in_rows : place < length inside.rows.items = omega (arith, within, simp length-map at (ap length c.self.view_is)) in
    let item = map_read {Y = ℕ × List ℕ} (λ (row : Territory). (row.code, row.groups.items)) inside.rows.items place c.index-in-loop.result.now (0, []) in_rows c.index-in-loop.ensures in
    let same = sym (ap (λ (row : ℕ × List ℕ). row.0) (rw c.self.view_is at item)) ∙ row in
    let good : is_ok c.push.result ≡ true = search rules in
    let items = rw (good, same) at c.push.ensures.items in
    named_more table c.args.text.now c.loop.rest.now c.args.set.now.words c.loop.set.words c.loop.groups.items c.loop.counter word c.first_word.result.1.now
    c.index.result.now.words c.add_all.new.self.words c.push.new.self.items place
    c.loop.invariant (c.first_word.ensures.some there) (c.first_word.ensures.shorter there) (code, within, row)
    (subst (λ (code : ℕ). IsKnown table code) row (code_known table place (0, []) within))
    (λ other few. rw read at (kept.exact place other within few)) c.add_all.ensures items

pub returns-clause-known : goal.returns-clause-known
returns-clause-known c =
    let none = no_words c.loop.rest.now (omega (arith, c.loop.invariant.count, c.loop-test.false)) in
    (named_all c.args.self.now c.args.text.now c.loop.rest.now c.args.set.now.words c.loop.set.words c.loop.groups.items c.loop.counter c.loop.invariant none).0

pub returns-clause-groups : goal.returns-clause-groups
returns-clause-groups c =
    let none = no_words c.loop.rest.now (omega (arith, c.loop.invariant.count, c.loop-test.false)) in
    (named_all c.args.self.now c.args.text.now c.loop.rest.now c.args.set.now.words c.loop.set.words c.loop.groups.items c.loop.counter c.loop.invariant none).1
