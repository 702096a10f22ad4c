use Rattle.std.proofs.Common.{◌≡◌, arith, refl}
use Rattle.std.proofs.lemmas.List.{length_push}
use Rattle.std.proofs.lemmas.List.Elements.{All-nil, All-push}
use Rattle.tis_tree.proofs.Compiling.{compiled_none}
use Rattle.tis_tree.proofs.tis_table.TisTable.new.Goals as goal

pub loop-init : goal.loop-init
loop-init c = rw c.new-places.ensures.items (refl, All-nil (λ place. place ≡ 0))

pub loop-preserved : goal.loop-preserved
loop-preserved c =
    let (long, none) = c.loop.invariant in
    rw c.in_ok-push.ensures.items (rw (length_push c.loop.places.items 0, long) refl, All-push (λ place. place ≡ 0) c.loop.places.items 0 none refl)

pub invariant_of-result : goal.invariant_of-result
invariant_of-result c =
    let (long, none) = c.loop.invariant in
    rw (c.new.ensures.items, c.new-2.ensures.items) (compiled_none c.loop.places.items (omega (arith, long, c.loop-test.false)) none)
