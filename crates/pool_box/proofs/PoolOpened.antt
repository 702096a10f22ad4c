-- A sender of a pool that was just opened.
use Rattle.std.proofs.Common.{◌≡◌, ◌∙◌, Bool, ℕ, ap, arith, false, get_or, inl, inr, replicate}
use Rattle.std.specs.Prelude.{slice_index_or}
use Rattle.std.proofs.lemmas.Bool.{cases_lt}
use Rattle.std.proofs.lemmas.List.{get_or-replicate, get_or_past, length-replicate}
use Rattle.node_table.specs.declared.nodes.NodeSender.{NodeSender}
use Rattle.node_table.specs.declared.seats.SenderSeat.{SenderSeat}
use Rattle.node_table.specs.declared.seats.Shape.{Shape}
use Rattle.node_table.specs.Seats.{items_in}
use Rattle.node_table.specs.Tells.{new_sender}
use Rattle.node_table.specs.Views.{Name, sender_of as sender_seat, table_of_sender}
use Rattle.pool_box.specs.Pools.{opened_sender}
use Rattle.pool_box.specs.PoolViews.{sender_with}

-- it has ended nowhere
none_ended : (n b : ℕ) → get_or (replicate n false) b false ≡ false
none_ended n b = elim (cases_lt b n) [
  | inl low ↦ get_or-replicate n b false false low
  | inr past ↦ get_or_past (replicate n false) b false (omega (arith, past, length-replicate {A = Bool} n false))
]

pub sender_opened : (s : NodeSender) (pool : Name) (shape : Shape) (number most : ℕ) → table_of_sender s ≡ pool → sender_seat s ≡ new_sender shape number → sender_with s most ≡ opened_sender pool shape.mailboxes number shape.ring most
sender_opened s pool shape number most table new = λ i. record {
  pool = table i;
  mailboxes = (new i).shape.mailboxes;
  number = (new i).number;
  nodes = (new i).shape.ring;
  left = most;
  posted = (new i).caller.count;
  is_ended = λ b. (ap (λ (v : SenderSeat). slice_index_or v.ended b false) new ∙ none_ended shape.mailboxes b) i;
  sent = λ b. items_in b (new i).filled;
}
