use Rattle.std.specs.Prelude.{ℕ, ◌+◌, ◌≡◌, length}
use Rattle.std.specs.Vec.Iter.{into_iter_items, into_iter_len}
use Rattle.block_draw.specs.Drawn.{AreDrawnOnce}
use Rattle.block_draw.specs.Views.{draw_of}
use Rattle.split_run.specs.Blocks.{blocks_of}
use Rattle.split_run.specs.Divisions.{division_by}
use Rattle.split_run.specs.Running.{AreTakenIn, EachGiven, IsWorkBy}
use Rattle.split_run.proofs.running.take_in_all.Given as goal

-- the senders and the drawers of the workers so far are taken in, and the others gave back theirs
abbrev pub invariant-loop-worker : goal.invariant-loop-worker
invariant-loop-worker g l =
    let division = division_by l.inputs.tis.now l.inputs.registry.now in
    let usage = l.inputs.usage.now in
    let rest = l.worker-iterator in
    let workers = length (into_iter_items l.initial.worker-iterator) in
    let before = g.B.Mailboxes.gathered l.initial.inboxes in
    let draw = draw_of l.draw in
    (done : ℕ)
    × (done + into_iter_len rest ≡ workers)
    × EachGiven (into_iter_len rest) (λ k. IsWorkBy g.B.Mailboxes.senders division usage (draw_of l.initial.draw) before (done + k)) (into_iter_items rest)
    × AreTakenIn division usage draw.drawn done before (g.B.Mailboxes.gathered l.inboxes)
    × (draw.draw ≡ (draw_of l.initial.draw).draw)
    × (draw.gathered ≡ done)
    × (draw.drawers ≡ workers)
    × (draw.blocks ≡ blocks_of (length usage))
    × (draw.gathered ≡ draw.drawers → AreDrawnOnce draw.drawers draw.drawn draw.blocks)
