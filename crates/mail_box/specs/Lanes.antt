-- The rule of a lane: what was sent is what was taken and then what the lane holds. One pass at most may send, and it has the list of what was sent. The same of takes.
use Rattle.std.specs.Prelude.{◌≡◌, ◌<◌, ◌++◌, ◌∷◌, ℕ, Bool, true, false, All, List, [], Option, length, slice_index_or}
use mathlib.Core.Option.{some}
use lib.ListN.{get_elem?}
use Rattle.queue_core.specs.declared.item.Item.{Item}
use Rattle.crossbeam_queue.specs.declared.array_queue.Doing.{Doing}
use Rattle.crossbeam_queue.specs.declared.array_queue.Slotted.{Slotted}
use Rattle.crossbeam_queue.specs.Passes.{IsPassOf, Pass, ruled_capacity, view}
use Rattle.mail_box.specs.declared.lane.Log.{Log}
use Rattle.queue_core.specs.Items.{IsFirstOf, IsInRange}

abbrev pub log : Bool → Bool → List Item → List Item → Log
log sends takes sent got = record { sends = sends; takes = takes; sent = sent; got = got }

-- what a pass with this number knows of a lane
abbrev pub Fits : ℕ → ℕ → List Item → List Item → ℕ → Log → Type 0
Fits sender taker sent got pass v = (v.sends ≡ true → (pass ≡ sender) × (v.sent ≡ sent)) × (v.takes ≡ true → (pass ≡ taker) × (v.got ≡ got))

abbrev pub Relays : List Item → List Log → Type 0
Relays items views = (sender : ℕ) × (taker : ℕ) × (sent : List Item) × (got : List Item) × (sent ≡ got ++ items) × All IsInRange items
    × ((pass : ℕ) (v : Log) → get_elem? views pass ≡ some v → Fits sender taker sent got pass v)

-- a pass may take
abbrev pub MayTake : Log → Type 0
MayTake v = v.takes ≡ true

-- the pass of a sender after this item, and that of a receiver
abbrev pub with_sent : Log → Item → Log
with_sent v x = log true v.takes (v.sent ++ x ∷ []) v.got

abbrev pub with_taken : Log → Item → Log
with_taken v x = log v.sends true v.sent (v.got ++ x ∷ [])

-- a pass that knows what was sent has taken all of it
abbrev pub IsWholeLane : Log → Type 0
IsWholeLane v = v.sends ≡ true → v.sent ≡ v.got

-- a pass that knows what was sent has taken the first of it
abbrev pub BeginsLane : Log → Type 0
BeginsLane v = v.sends ≡ true → IsFirstOf v.got v.sent

-- the second pass is the first after it has taken this item
abbrev pub HasPopped : Log → Log → Item → Type 0
HasPopped v w x = (w ≡ with_taken v x) × IsInRange x × BeginsLane w

module _ {Q A : Type 0} where
  -- each pass is of the lane with its number
  abbrev pub AreSeated : List (Slotted (Option Item) (Doing Item Log) Q A) → List (Pass Item Log) → Type 0
  AreSeated lanes passes = (k : ℕ) (lane : Slotted (Option Item) (Doing Item Log) Q A) (pass : Pass Item Log) → k < length lanes → IsPassOf (slice_index_or lanes k lane) (slice_index_or passes k pass)

  -- lanes with this room that were just opened, with the passes of their senders and of their receiver
  pub record AreOpened (lanes : List (Slotted (Option Item) (Doing Item Log) Q A)) (sending taking : List (Pass Item Log)) (senders nodes : ℕ) : Type 0 where
    pub count : (length lanes ≡ senders) × (length sending ≡ senders) × (length taking ≡ senders)
    pub room : All (λ lane. ruled_capacity lane ≡ nodes) lanes
    pub senders_own : AreSeated lanes sending
    pub receiver_own : AreSeated lanes taking
    pub senders_views : All (λ pass. view pass ≡ log true false [] []) sending
    pub receiver_views : All (λ pass. view pass ≡ log false true [] []) taking
