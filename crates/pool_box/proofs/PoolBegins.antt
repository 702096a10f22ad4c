-- What the tally of a pool knows fits together: a receiver that was gathered is one of those that it gathered, and so is a sender that was taken in.
use Rattle.std.proofs.Common.{◌≡◌, ◌∷◌, [], ℕ, All, List, Some, inl, inr, subst, sym}
use Rattle.std.specs.Prelude.{◌==◌}
use Rattle.std.proofs.lemmas.Bool.{cases_Bool, eqb-true}
use Rattle.std.proofs.lemmas.List.Elements.{All-head, All-tail}
use Rattle.queue_core.specs.declared.item.Item.{Item}
use Rattle.node_table.specs.declared.nodes.NodeTally.{NodeTally}
use Rattle.node_table.specs.declared.seats.ReceiverSeat.{ReceiverSeat}
use Rattle.node_table.specs.declared.seats.SenderSeat.{SenderSeat}
use Rattle.node_table.specs.Seats.{got_in, items_in}
use Rattle.queue_core.specs.Items.{IsFirstOf}
use Rattle.node_table.specs.Tells.{TallyBegins}
use Rattle.node_table.specs.Views.{tally_of as tally_seat}
use Rattle.pool_box.specs.Pools.{Begins}
use Rattle.pool_box.specs.PoolViews.{got_by, sent_by, tally_of}

known_receiver : (P : ReceiverSeat → Type 0) (rs : List ReceiverSeat) → All P rs → (b : ℕ) (got : ℕ → List Item) → got_by rs b ≡ Some got → (r : ReceiverSeat) × P r × (b ≡ r.mailbox) × (got_in r.got ≡ got)
known_receiver P [] all b got e = cc
known_receiver P (r ∷ rs) all b got e = elim (cases_Bool (b == r.mailbox)) [
  | inl its ↦
      let same : Some (got_in r.got) ≡ Some got = rw its at e in
      let is : got_in r.got ≡ got = cc in
      (r, All-head P r rs all, eqb-true b r.mailbox its, is)
  | inr other ↦ known_receiver P rs (All-tail P r rs all) b got (rw other at e)
]

known_sender : (P : SenderSeat → Type 0) (ss : List SenderSeat) → All P ss → (p : ℕ) (sent : ℕ → List Item) → sent_by ss p ≡ Some sent → (s : SenderSeat) × P s × (p ≡ s.number) × ((λ (b : ℕ). items_in b s.filled) ≡ sent)
known_sender P [] all p sent e = cc
known_sender P (s ∷ ss) all p sent e = elim (cases_Bool (p == s.number)) [
  | inl its ↦
      let same : Some (λ (b : ℕ). items_in b s.filled) ≡ Some sent = rw its at e in
      let is : (λ (b : ℕ). items_in b s.filled) ≡ sent = cc in
      (s, All-head P s ss all, eqb-true p s.number its, is)
  | inr other ↦ known_sender P ss (All-tail P s ss all) p sent (rw other at e)
]

pub begins : (t : NodeTally) → TallyBegins (tally_seat t) → Begins (tally_of t)
begins t told b p got sent gathered known =
    let v = tally_seat t in
    let begins_with : ReceiverSeat → SenderSeat → Type 0 = λ r s. IsFirstOf (got_in r.got s.number) (items_in r.mailbox s.filled) in
    let r = known_receiver (λ r. All (begins_with r) v.taken_in) v.gathered told b got gathered in
    let s = known_sender (begins_with r.0) v.taken_in r.1 p sent known in
    subst (λ (x : List Item × List Item). IsFirstOf x.0 x.1) (λ i. (r.3 i (sym s.2 i), s.3 i (sym r.2 i))) s.1
