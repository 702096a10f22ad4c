use Rattle.std.proofs.Common.{◌≡◌, ◌<◌, ◌+◌, ℕ, [], HoldsAt, vec_items, vec_len}
use Rattle.std.specs.Arc.{arc_value}
use Rattle.node_table.specs.declared.seats.Known.TheVariants.{Tallies}
use Rattle.node_table.specs.Rule.{opened_tally}
use Rattle.node_table.specs.Tells.{new_receiver}
use Rattle.node_table.specs.Views.{receiver_of}
use Rattle.node_table.proofs.nodes.NodeReceiver.deal_all.Given as goal

abbrev pub invariant-loop-mailbox : goal.invariant-loop-mailbox
invariant-loop-mailbox l =
    record {
      me : l.tally.me ≡ (Tallies (opened_tally (arc_value l.nodes).shape ((arc_value l.nodes).shape.senders + l.mailbox)), []);
      same : l.tally.table_id ≡ l.initial.tally.table_id;
      count : vec_len l.receivers ≡ l.mailbox;
      opened : (k : ℕ) → k < l.mailbox → HoldsAt (λ r. (r.seat.table_id ≡ l.initial.tally.table_id) × (receiver_of r ≡ new_receiver (arc_value l.nodes).shape k)) (vec_items l.receivers) k;
    }
