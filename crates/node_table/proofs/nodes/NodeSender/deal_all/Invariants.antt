use Rattle.std.proofs.Common.{◌≡◌, ◌<◌, ℕ, [], HoldsAt, vec_items, vec_len}
use Rattle.std.specs.Arc.{arc_value}
use Rattle.node_table.specs.declared.seats.Known.TheVariants.{Tallies}
use Rattle.node_table.specs.Rule.{opened_tally}
use Rattle.node_table.specs.Tells.{new_sender}
use Rattle.node_table.specs.Views.{sender_of}
use Rattle.node_table.proofs.nodes.NodeSender.deal_all.Given as goal

abbrev pub invariant-loop-number : goal.invariant-loop-number
invariant-loop-number l =
    record {
      me : l.tally.me ≡ (Tallies (opened_tally (arc_value l.nodes).shape l.number), []);
      same : l.tally.table_id ≡ l.initial.tally.table_id;
      count : vec_len l.senders ≡ l.number;
      opened : (k : ℕ) → k < l.number → HoldsAt (λ s. (s.seat.table_id ≡ l.initial.tally.table_id) × (sender_of s ≡ new_sender (arc_value l.nodes).shape k)) (vec_items l.senders) k;
    }
