use Rattle.block_draw.specs.declared.draw.Drawer.{Drawer}
use Rattle.std.proofs.Common.{List, ◌∷◌, append_assoc, sym, arith, rules, [], ℕ, ap, below_more, get_or, map, vec_items, vec_len, ◌+◌, ◌++◌, ◌≡◌, ◌∙◌, subst}
use Rattle.std.specs.Prelude.{All}
use Rattle.std.specs.Vec.Iter.{into_iter_items}
use Rattle.std.proofs.lemmas.List.{map_push}
use Rattle.std.proofs.lemmas.List.Elements.{All-push}
use Rattle.split_run.specs.Opening.{HasRoom}
use Rattle.split_run.proofs.OpeningLemmas.{at_next}
use Rattle.split_run.proofs.running.opening.workers_of.Goals as goal

pub loop-senders-preserved : goal.loop-senders-preserved
loop-senders-preserved g c =
    let was = c.loop-senders.invariant in
    let done = vec_len c.loop-senders.workers in
    let before = vec_items c.loop-senders.workers in
    let all = vec_items c.push.new.self in
    let first = into_iter_items c.into_iter-drawers.result in
    let left = into_iter_items c.next-in-loop-senders.new.self in
    let rest = into_iter_items c.next.new.self in
    let f : _ = λ worker. g.B.Mailboxes.senders worker.senders.items in
    let own : _ = λ own. g.B.Mailboxes.senders own.items in
    let next = c.in-Some-next.ensures.cases in
    let steps = c.in-Some.ensures.steps in
    let count : done + 1 ≡ vec_len c.push.new.self = grind (arith, rules) in (
      omega (arith, was.0, next.1, count),
      omega (arith, was.1, next.1, steps.1),
      (λ k d below.
          let place : done + (k + 1) ≡ vec_len c.push.new.self + k = omega (arith, count) in
          sym (ap (λ (l : List Drawer). get_or l (k + 1) d) next.0 ∙ at_next c.in-Some-next.drawer left k d) ∙ was.2 (k + 1) d (omega (arith, below, next.1)) ∙ ap (λ (n : ℕ). get_or first n d) place),
      (λ k d e below.
          below_more (λ i. (d : _) (e : _) → (get_or all i d).drawer ≡ get_or first i e) done
          (λ i low d e. let h = was.3 i d e low in grind rules)
          (λ d e. let h = was.2 0 e in let drawn = next.0 in grind rules)
          k (grind (arith, rules)) d e),
      ap (λ l. map f l ++ map own rest) c.in_ok-push.ensures.items
          ∙ (ap (λ l. l ++ map own rest) (map_push f before _) ∙ (append_assoc (map f before) (own c.in-Some.senders ∷ []) (map own rest) ∙ (ap (λ l. map f before ++ map own l) (sym steps.0) ∙ was.4))),
      subst (All HasRoom) (sym c.in_ok-push.ensures.items)
          (All-push HasRoom before _ was.5 (omega (arith, ap (λ v. v.room) c.in_ok-scratch.ensures), omega (arith, ap (λ v. v.room) c.in_ok-room.ensures))),
    )
