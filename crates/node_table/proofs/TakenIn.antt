-- Senders that were taken in: whether all were, and what is so of those that were.
use Rattle.std.proofs.Common.{◌≡◌, ◌∙◌, ◌≤◌, ◌<◌, ◌-◌, ◌∷◌, ◌⊎◌, [], ℕ, All, List, Option, None, Some, false, zero, suc, length, take, ap, sym, refl, subst, inl, inr, arith}
use Rattle.std.specs.Prelude.{◌==◌}
use Rattle.std.proofs.lemmas.Bool.{cases_Bool, cases_eq, cases_lt, eqb-true}
use Rattle.std.proofs.lemmas.List.{get_or_past, take_at}
use mathlib.Core.Option.{some}
use lib.ListN.{get_elem?}
use Rattle.atomic_table.specs.Table.{State}
use Rattle.queue_core.specs.declared.entry.Entry.{Entry}
use Rattle.queue_core.specs.declared.entry.Entry.TheVariants.{Of, Stub}
use Rattle.queue_core.specs.declared.item.Item.{Item}
use Rattle.queue_core.specs.declared.sender.Caller.{Caller}
use Rattle.queue_core.specs.declared.sender.SenderPoint.TheVariants as sends
use Rattle.queue_core.specs.Mailbox.{Mailbox, got_of, left_entries, sent}
use Rattle.queue_core.specs.Chain.{entry_at}
use Rattle.queue_core.specs.StoredWords.{link_to, null}
use Rattle.queue_core.specs.Links.{IsOwedBySender, Links, ShowLinks, is_in_flight}
use Rattle.queue_core.specs.Pool.{Pool}
use Rattle.queue_core.specs.Pooled.{Pooled, point_in, sender_at}
use Rattle.queue_core.specs.PoolShows.{links_in}
use Rattle.queue_core.proofs.PoolFree.{all_sent}
use Rattle.queue_core.proofs.PoolPosts.{posts_after}
use Rattle.queue_core.proofs.ReceivedLemmas.{got_prefix}
use Rattle.node_table.specs.declared.seats.Known.{Known}
use Rattle.node_table.specs.declared.seats.Known.TheVariants.{Receives}
use Rattle.node_table.specs.declared.seats.Posting.{Posting}
use Rattle.node_table.specs.declared.seats.ReceiverSeat.{ReceiverSeat}
use Rattle.node_table.specs.declared.seats.SenderSeat.{SenderSeat}
use Rattle.node_table.specs.declared.seats.Shape.{Shape}
use Rattle.queue_core.specs.Items.{IsFirstOf}
use Rattle.queue_core.proofs.MailboxHolds.{Holds}
use Rattle.queue_core.proofs.PoolKept.{holds_in}
use Rattle.node_table.specs.Rule.{KeepsNodes}
use Rattle.node_table.specs.Seats.{AreTakenIn, IsReceiverSeat, IsTakenIn, got_in, items_in, known_in}
use Rattle.node_table.specs.Tells.{BeginsAt, IsAwaitedAt}
use Rattle.node_table.proofs.ReceiverFrame.{holds, low, own}

-- ---- the list of them

option_cases : {A : Type 0} (o : Option A) → (o ≡ None) ⊎ ((a : A) × (o ≡ Some a))
option_cases None = inl refl
option_cases (Some a) = inr (a, refl)

-- all senders below a number were taken in, or one was not
find_unknown : (b : ℕ) (ws : List SenderSeat) (n : ℕ) → ((p : ℕ) → p < n → (items : List Item) × (known_in b ws p ≡ Some items)) ⊎ ((p : ℕ) × (p < n) × (known_in b ws p ≡ None))
find_unknown b ws zero = inl (λ p low. absurd (omega (arith, low)))
find_unknown b ws (suc n) = elim (find_unknown b ws n) [
  | inr found ↦ inr (found.0, omega (arith, found.1), found.2)
  | inl all ↦ elim (option_cases (known_in b ws n)) [
    | inl none ↦ inr (n, omega arith, none)
    | inr known ↦ inl (λ p low. elim (cases_eq p n) [
      | inl last ↦ (known.0, ap (known_in b ws) last ∙ known.1)
      | inr before ↦ all p (omega (arith, low, before))
    ])
  ]
]

-- every sender was taken in, or some is awaited
pub find_awaited : (v : ReceiverSeat) → AreTakenIn v ⊎ IsAwaitedAt v
find_awaited v = find_unknown v.mailbox v.taken_in v.shape.senders

-- what is known of a sender is what one that was taken in has
pub known_seat : (P : SenderSeat → Type 0) (b : ℕ) (ws : List SenderSeat) (p : ℕ) (items : List Item) → All P ws → known_in b ws p ≡ Some items → (a : SenderSeat) × P a × (a.number ≡ p) × (items_in b a.filled ≡ items)
known_seat P b [] p items all known = cc
known_seat P b (w ∷ ws) p items all known = elim (cases_Bool (p == w.number)) [
  | inl its ↦
      let same : Some (items_in b w.filled) ≡ Some items = rw its at known in
      let is : items_in b w.filled ≡ items = cc in
      (w, all 0 w (omega arith), sym (eqb-true p w.number its), is)
  | inr other ↦ known_seat P b ws p items (λ k d low. all (suc k) d (omega (arith, low))) (rw other at known)
]

-- ---- one mailbox

-- where there is one entry, it is the only one
pub one_entry : (xs : List Entry) → length xs ≡ 1 → (entry : Entry) × (xs ≡ entry ∷ [])
one_entry [] size = absurd (omega (arith, size))
one_entry (x ∷ []) size = (x, refl)
one_entry (x ∷ y ∷ xs) size = absurd (omega (arith, size))

module _ (m : Mailbox) (k : Links) (shows : ShowLinks k m) where
  -- where nothing is in flight and the tail has no next, the tail alone is left
  pub tail_alone : ((e : Entry) → is_in_flight m e ≡ false) → k.next k.tail ≡ null → length (left_entries m) ≡ 1
  tail_alone none end = elim (cases_lt 1 (length (left_entries m))) [
    | inl more ↦
        let second : Entry = entry_at (left_entries m) 1 in
        let linked : k.next (k.node (entry_at (left_entries m) 0)) ≡ link_to (k.node second) = rw (none second) at (shows.chain.links 0 more) in
        let at_tail : k.next k.tail ≡ link_to (k.node second) = ap k.next shows.chain.tail_is ∙ linked in
        absurd (omega (arith, at_tail, end))
    | inr one ↦ omega (arith, one, shows.chain.some)
  ]

  -- where one entry is left, the head is the tail
  pub head_alone : length (left_entries m) ≡ 1 → k.head ≡ link_to k.tail
  head_alone one =
      let first : length (left_entries m) - 1 ≡ 0 = omega (arith, one) in
      shows.chain.head_is ∙ (ap (λ (i : ℕ). link_to (k.node (entry_at (left_entries m) i))) first ∙ ap link_to (sym shows.chain.tail_is))

-- a sender in no call is at rest in every mailbox
rests_in : (c : Pooled) (d p : ℕ) → (sender_at c p).point ≡ sends.Rest → point_in c d p ≡ sends.Rest
rests_in c d p rest = elim (cases_Bool ((sender_at c p).mailbox == d)) [
  | inl here ↦ rw here rest
  | inr there ↦ rw there refl
]

-- a sender that is not there is at rest
absent_rests : (c : Pooled) (p : ℕ) → length c.senders ≤ p → (sender_at c p).point ≡ sends.Rest
absent_rests c p past = ap (λ (x : Caller). x.point) (get_or_past c.senders p _ past)

-- ---- what a receiver knows of senders that it took in

module _ (shape : Shape) (s : State Posting Known) (kept : KeepsNodes shape s) (id : ℕ) (v : ReceiverSeat) (seen : get_elem? s.views id ≡ some (Receives v)) where
  abbrev c : Pooled
  c = kept.core

  abbrev q : Pool
  q = kept.pool

  abbrev m : Mailbox
  m = q.boxes v.mailbox

  abbrev mine : IsReceiverSeat c q v
  mine = own shape s kept id v seen

  abbrev links : ShowLinks (links_in c q v.mailbox) m
  links = (kept.mail.shows.boxes v.mailbox (low shape s kept id v seen)).links

  -- it is at rest, and has sent what it is known to have sent
  module _ (p : ℕ) (items : List Item) (known : known_in v.mailbox v.taken_in p ≡ Some items) where
    abbrev found : (a : SenderSeat) × IsTakenIn c q a × (a.number ≡ p) × (items_in v.mailbox a.filled ≡ items)
    found = known_seat (IsTakenIn c q) v.mailbox v.taken_in p items mine.taken_in known

    known_rests : (sender_at c p).point ≡ sends.Rest
    known_rests = ap (λ (r : ℕ). (sender_at c r).point) (sym found.2) ∙ (ap (λ (x : Caller). x.point) found.1.seat.caller ∙ found.1.rest)

    pub known_sent : sent m p ≡ items
    known_sent =
        let there : p < length c.senders = omega (arith, found.1.seat.within, found.1.seat.shape.senders, found.2) in
        let pooled = kept.mail.pooled in
        all_sent c pooled q (posts_after c.ring pooled.some_nodes kept.events q kept.mail.leads) (holds shape s kept id v seen) kept.mail.shows p there known_rests v.mailbox
        ∙ (ap m.items (sym found.2) ∙ (found.1.seat.items v.mailbox ∙ found.3))

  -- where all were taken in, nothing is in flight
  pub nothing_flies : AreTakenIn v → is_in_flight m Stub ≡ false → (e : Entry) → is_in_flight m e ≡ false
  nothing_flies all stub Stub = stub
  nothing_flies all stub (Of p j) =
      let rest : (sender_at c p).point ≡ sends.Rest = elim (cases_lt p v.shape.senders) [
        | inl within ↦ let known = all p within in known_rests p known.0 known.1
        | inr past ↦ absent_rests c p (omega (arith, past, mine.its_mailbox.shape.senders))
      ] in
      subst (IsOwedBySender (links_in c q v.mailbox) m p) (rests_in c v.mailbox p rest) (links.senders p).in_flight j

-- ---- what was received of a sender that was taken in

module _ (shape : Shape) (s : State Posting Known) (kept : KeepsNodes shape s) where
  -- it has sent all that it filled, and what was received is the first part of that
  pub received_first : (b : ℕ) (a : SenderSeat) → IsTakenIn kept.core kept.pool a → IsFirstOf (got_of (kept.pool.boxes b) a.number) (items_in b a.filled)
  received_first b a is =
      let m : Mailbox = kept.pool.boxes b in
      let mail = kept.mail in
      let holds : (d : ℕ) → Holds kept.core.ring (kept.pool.boxes d) = holds_in kept.core mail.pooled kept.events kept.pool mail.leads mail.shows 0 mail.pooled.some_mailboxes in
      let whole : sent m a.number ≡ items_in b a.filled = all_sent kept.core mail.pooled kept.pool (posts_after kept.core.ring mail.pooled.some_nodes kept.events kept.pool mail.leads) holds mail.shows a.number (omega (arith, is.seat.within, is.seat.shape.senders)) (ap (λ (x : Caller). x.point) is.seat.caller ∙ is.rest) b ∙ is.seat.items b in
      let first = got_prefix kept.core.ring m (holds b) a.number in
      ap (take (length (got_of m a.number))) (sym whole ∙ first.1) ∙ take_at (got_of m a.number) first.0 (length (got_of m a.number)) refl

  pub begins_now : (id : ℕ) (v : ReceiverSeat) → get_elem? s.views id ≡ some (Receives v) → BeginsAt v
  begins_now id v seen p items known =
      let mine : IsReceiverSeat kept.core kept.pool v = kept.seats id (Receives v) seen in
      let found = known_seat (IsTakenIn kept.core kept.pool) v.mailbox v.taken_in p items mine.taken_in known in
      let first : IsFirstOf (got_in v.got found.0.number) (items_in v.mailbox found.0.filled) = subst (λ pairs. IsFirstOf (got_in pairs found.0.number) (items_in v.mailbox found.0.filled)) mine.its_mailbox.got (received_first v.mailbox found.0 found.1) in
      subst (λ (x : ℕ × List Item). IsFirstOf (got_in v.got x.0) x.1) (λ i. (found.2 i, found.3 i)) first
