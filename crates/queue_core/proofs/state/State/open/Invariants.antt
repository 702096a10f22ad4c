-- The heads and the readers so far are those of the first mailboxes.
use Rattle.std.proofs.Common.{◌≡◌, ◌+◌, ◌*◌, map}
use Rattle.std.specs.List.{range_with_len}
use Rattle.queue_core.specs.StoredWords.{link_to}
use Rattle.queue_core.specs.Pooled.{new_reader}
use Rattle.queue_core.proofs.state.State.open.Given as goal

abbrev pub invariant-loop-mailbox : goal.invariant-loop-mailbox
invariant-loop-mailbox l =
    (l.heads.items ≡ map (λ b. link_to (l.fn.senders * (l.fn.nodes + l.fn.mailboxes) + b)) (range_with_len 0 l.mailbox))
    × (l.readers.items ≡ map (λ b. new_reader (l.fn.senders * (l.fn.nodes + l.fn.mailboxes) + b)) (range_with_len 0 l.mailbox))
