-- What a receiver has at hand: its words are its item's, and when it is given back the rule of a table of nodes is kept.
use Rattle.std.proofs.Common.{◌≡◌, ◌∙◌, ◌<◌, ◌++◌, ◌∷◌, ◌⊎◌, ◌+◌, ◌%◌, ◌^◌, ℕ, [], List, None, Some, true, false, length, not, get_or, set, ap, sym, refl, subst, inl, inr, arith}
use Rattle.std.specs.Prelude.{if◌then◌else◌}
use Rattle.std.proofs.lemmas.Bool.{cases_eq, false≢true}
use Rattle.std.proofs.lemmas.Map.Views.{any-filter_same}
use mathlib.Core.Option.{some}
use lib.ListN.{get_elem?}
use Rattle.atomic_table.specs.Table.{State}
use Rattle.queue_core.specs.declared.entry.Entry.{Entry}
use Rattle.queue_core.specs.declared.entry.Entry.TheVariants.{Of, Stub}
use Rattle.queue_core.specs.declared.item.Item.{Item}
use Rattle.queue_core.specs.declared.words.Node.{Node as Word}
use Rattle.queue_core.specs.declared.reader.Reader.{Reader}
use Rattle.queue_core.specs.declared.reader.ReaderPoint.TheVariants as reads
use Rattle.queue_core.specs.declared.step.Step.{Step}
use Rattle.queue_core.specs.declared.step.Step.TheVariants as steps
use Rattle.queue_core.specs.Box.{HoldsItem, IsStanding}
use Rattle.queue_core.specs.Mailbox.{IsHeld, Mailbox, is_among, is_same, item_at, passed_entries}
use Rattle.queue_core.specs.Events.{Event, after}
use Rattle.queue_core.specs.Events.Event.{GiveBack}
use Rattle.queue_core.specs.StoredWords.{amount_word, line_word}
use Rattle.queue_core.specs.Pool.{Pool, after_in}
use Rattle.queue_core.specs.Pooled.{Pooled, node_at, reader_in, with_holder, with_node}
use Rattle.queue_core.specs.PoolShows.{box_in, node_in}
use Rattle.queue_core.specs.PoolLaws.{event_in, gives_back}
use Rattle.queue_core.specs.PoolSteps.{may_use, stepped_in}
use Rattle.queue_core.proofs.Entries.{among_first, among_other}
use Rattle.queue_core.proofs.MailboxHolds.{Holds, item_within}
use Rattle.queue_core.proofs.PoolGive.{is_given}
use Rattle.queue_core.proofs.PoolKept.{apart_here}
use Rattle.queue_core.proofs.PoolNodes.{before_stubs, no_others}
use Rattle.queue_core.proofs.PoolPosts.{posts_after}
use Rattle.queue_core.proofs.PoolTells.{held_tells}
use Rattle.node_table.specs.declared.seats.Holding.{Holding}
use Rattle.node_table.specs.declared.seats.Known.{Known}
use Rattle.node_table.specs.declared.seats.Known.TheVariants.{Receives}
use Rattle.node_table.specs.declared.seats.Posting.{Posting}
use Rattle.node_table.specs.declared.seats.ReceiverSeat.{ReceiverSeat}
use Rattle.node_table.specs.declared.seats.Shape.{Shape}
use Rattle.node_table.specs.Layout.{amount_word_of, line_word_of, turn_word}
use Rattle.node_table.specs.Rule.{KeepsNodes, KeepsOn}
use Rattle.node_table.specs.Seats.{Owned, Has, IsAlone, IsHolding, IsReceiverSeat, own_entries}
use Rattle.node_table.specs.Seats.Owned.{Node, Part}
use Rattle.node_table.specs.Tells.{IsHeldAt, after_give}
use Rattle.node_table.proofs.AfterEvent.{later_other, later_own}
use Rattle.node_table.proofs.ReceiverFrame.{ButReader, but_reader, gone_on, holds, low, moved, own, seat_after, still_holding}
use Rattle.node_table.proofs.Words.{look_words, turn_words}

-- ---- an entry of a sender, by what the receiver knows

-- it is among those of senders where it is among all
own_among : (p k : ℕ) (xs : List Entry) → is_among (Of p k) (own_entries xs) ≡ is_among (Of p k) xs
own_among p k xs = any-filter_same (is_same (Of p k)) (λ entry. not (is_same Stub entry)) true only xs
  where
    only : (e : Entry) → is_same (Of p k) e ≡ true → not (is_same Stub e) ≡ true
    only (Of q j) same = refl
    only Stub same = absurd (false≢true same)

module _ (m : Mailbox) (passed : List Entry) (passed_is : passed_entries m ≡ passed) (p k : ℕ) where
  -- it was not taken
  pub not_taken : is_among (Of p k) (passed_entries m) ≡ false → is_among (Of p k) (own_entries passed) ≡ false
  not_taken none = own_among p k passed ∙ (ap (is_among (Of p k)) (sym passed_is) ∙ none)

  -- it was taken, and not given back
  pub known_held : (given : List Entry) → m.given ≡ given → IsHeld m p k → (is_among (Of p k) (own_entries passed) ≡ true) × (is_among (Of p k) given ≡ false)
  known_held given given_is held = (
    own_among p k passed ∙ (ap (is_among (Of p k)) (sym passed_is) ∙ held.passed),
    ap (is_among (Of p k)) (sym given_is) ∙ held.kept,
  )

-- an entry that is held stands in its node
pub held_stands : (ring : ℕ) (m : Mailbox) → Holds ring m → (p k : ℕ) → IsHeld m p k → IsStanding m (Of p k)
held_stands ring m holds p k held = (item_within m p (holds.turns p) k (among_first (Of p k) m.passed m.order held.passed), held.kept)

-- ---- the receiver's seat

module _ (shape : Shape) (id : ℕ) (v : ReceiverSeat) (s : State Posting Known) (kept : KeepsNodes shape s) (seen : get_elem? s.views id ≡ some (Receives v)) where
  abbrev c : Pooled
  c = kept.core

  abbrev q : Pool
  q = kept.pool

  abbrev b : ℕ
  b = v.mailbox

  abbrev m : Mailbox
  m = q.boxes b

  abbrev mine : IsReceiverSeat c q v
  mine = own shape s kept id v seen

  -- its mailbox is there
  there : b < length c.heads
  there = low shape s kept id v seen

  module _ (h : Holding) (hand : v.at_hand ≡ Some h) where
    abbrev entry : Entry
    entry = Of h.sender h.place

    -- it is held in the receiver's mailbox
    held : IsHeld m h.sender h.place × (node_in c q b entry ≡ h.node) × (item_at m h.sender h.place ≡ h.item)
    held =
        let was = mine.at_hand h hand in
        subst (λ (d : ℕ). IsHeld (q.boxes d) h.sender h.place × (node_in c q d entry ≡ h.node) × (item_at (q.boxes d) h.sender h.place ≡ h.item)) was.1 (was.0.held, was.0.node, was.0.item)

    -- its node is in the table
    node_low : h.node < length c.nodes
    node_low =
        let ok = kept.mail.pooled in
        let its = holds shape s kept id v seen in
        let under = before_stubs c ok q (posts_after c.ring ok.some_nodes kept.events q kept.mail.leads) its (no_others c q kept.mail.shows) b h.sender h.place there (held_stands c.ring m (its b) h.sender h.place held.0) in
        omega (arith, under, held.1, ok.nodes)

    -- ---- LoadLine and LoadAmount

    -- the words of its node are those of its item
    words_are : HoldsItem (box_in c q b) h.node h.item
    words_are = subst (λ (x : ℕ × Item). HoldsItem (box_in c q b) x.0 x.1) (λ i. (held.1 i, held.2 i)) (held_tells kept.events q c b h.sender h.place kept.mail.pooled kept.mail.leads kept.mail.shows there held.0)

    -- nothing else is at hand
    hand_is : (g : Holding) → v.at_hand ≡ Some g → h ≡ g
    hand_is g too = let both : Some h ≡ Some g = sym hand ∙ too in cc

    -- so its line is found
    pub line_found : (g : Holding) → v.at_hand ≡ Some g → get_or s.words (line_word_of h.node) 0 ≡ line_word g.item
    line_found g too = kept.words.line h.node node_low ∙ (words_are.0 ∙ ap (λ (g : Holding). line_word g.item) (hand_is g too))

    -- and its amount
    pub amount_found : (g : Holding) → v.at_hand ≡ Some g → get_or s.words (amount_word_of h.node) 0 ≡ amount_word g.item
    amount_found g too = kept.words.amount h.node node_low ∙ (words_are.1 ∙ ap (λ (g : Holding). amount_word g.item) (hand_is g too))

    -- ---- GiveBack

    -- what is at hand is held, by what the receiver knows
    pub hand_held : (g : Holding) → v.at_hand ≡ Some g → IsHeldAt v g
    hand_held g too = subst (IsHeldAt v) (hand_is g too) (known_held m v.passed mine.its_mailbox.passed h.sender h.place v.given mine.its_mailbox.given held.0)

    module _ (at : v.reader.point ≡ reads.Rest) where
      -- one more turn of its node
      abbrev turned : Word
      turned = record (node_at c h.node) { turn = ((node_at c h.node).turn + 1) % 2 ^ 64 }

      abbrev n : Pooled
      n = with_holder h.node None (with_node h.node turned c)

      abbrev event : Event
      event = GiveBack h.sender h.place

      abbrev q' : Pool
      q' = after_in b event q

      abbrev word : ℕ
      word = (get_or s.words (turn_word h.node) 0 + 1) % 2 ^ 64

      -- the receiver holds the node
      used : may_use reads.Rest b h.node c ≡ true
      used = ((kept.mail.shows.boxes b there).held h.node).1 (h.sender, h.place, held.0, held.1)

      -- and may use it
      uses : may_use (reader_in c b).point b h.node c ≡ true
      uses = ap (λ point. may_use point b h.node c) (ap (λ (r : Reader). r.point) mine.its_mailbox.reader ∙ at) ∙ used

      -- A load changes neither a word nor what the receiver knows.
      loads : (x : Step) → stepped_in c b x ≡ Some c → event_in c q b x ≡ None → (i : ℕ) → KeepsOn shape s kept b x record { words = set s.words i (get_or s.words i 0); homes = s.homes; views = set s.views id (Receives v) }
      loads x due still i = gone_on shape s kept id v seen x None c _ v.reader v.passed record {
        due = due;
        event_is = still;
        same = but_reader shape s kept id v seen None c.heads c.nodes c.holders c.readers refl (λ d other. refl) refl refl;
        are_words = look_words shape c s.words kept.words c i refl refl;
        reader_is = mine.its_mailbox.reader;
        passed_is = mine.its_mailbox.passed;
        given_is = refl;
        got_is = refl;
        held = λ p k held. held;
        alone = mine.alone;
      }

      pub line_kept : KeepsOn shape s kept b (steps.LoadLine h.node) record { words = set s.words (line_word_of h.node) (get_or s.words (line_word_of h.node) 0); homes = s.homes; views = set s.views id (Receives v) }
      line_kept = loads (steps.LoadLine h.node) (ap (λ b. if b then Some c else None) uses) refl (line_word_of h.node)

      pub amount_kept : KeepsOn shape s kept b (steps.LoadAmount h.node) record { words = set s.words (amount_word_of h.node) (get_or s.words (amount_word_of h.node) 0); homes = s.homes; views = set s.views id (Receives v) }
      amount_kept = loads (steps.LoadAmount h.node) (ap (λ b. if b then Some c else None) uses) refl (amount_word_of h.node)

      -- and may give it back
      due : stepped_in c b (steps.GiveBack h.node) ≡ Some n
      due = ap (λ b. if b then Some n else None) uses

      -- what is given back is what the receiver has at hand
      event_is : event_in c q b (steps.GiveBack h.node) ≡ Some event
      event_is =
          let its = holds shape s kept id v seen b in
          let found = is_given c kept.mail.pooled kept.events q kept.mail.leads kept.mail.shows b there h.node used in
          let same : Of found.0 found.1 ≡ entry = apart_here c kept.mail.pooled kept.events q kept.mail.leads kept.mail.shows b there (Of found.0 found.1) entry
          (held_stands c.ring m its found.0 found.1 found.2) (held_stands c.ring m its h.sender h.place held.0) (found.3 ∙ sym held.1) in
          found.4 ∙ ap (λ e. gives_back (e ∷ [])) same

      -- all but the receiver is as it was
      same : ButReader c n q q' b
      same = but_reader shape s kept id v seen (Some event) n.heads n.nodes n.holders n.readers refl (λ d other. refl) refl refl

      -- an entry that stands in another node is held still
      held_else : (d : ℕ) → d ≡ b → (g : Holding) → IsHeld (q.boxes d) g.sender g.place → node_in c q d (Of g.sender g.place) ≡ g.node → ¬ (h.node ≡ g.node) → IsHeld (q'.boxes d) g.sender g.place
      held_else d here g was node other =
          let its : IsHeld m g.sender g.place = subst (λ (d : ℕ). IsHeld (q.boxes d) g.sender g.place) here was in
          let node_is : node_in c q b (Of g.sender g.place) ≡ g.node = subst (λ (d : ℕ). node_in c q d (Of g.sender g.place) ≡ g.node) here node in
          subst (λ (d : ℕ). IsHeld (q'.boxes d) g.sender g.place) (sym here)
          (subst (λ m. IsHeld m g.sender g.place) (sym (later_own q b (Some event))) record {
            passed = its.passed;
            kept = among_other (Of g.sender g.place) entry m.given (λ e. other (sym held.1 ∙ (ap (node_in c q b) (sym e) ∙ node_is))) ∙ its.kept;
          })

      -- so its holding is what it was
      held_still : (g : Holding) → ¬ (h.node ≡ g.node) → IsHolding c q g → IsHolding n q' g
      held_still g other was = still_holding c n q q' b same g was (elim (cases_eq g.mailbox b) [
        | inl here ↦ held_else g.mailbox here g was.held was.node other
        | inr apart ↦ subst (λ m. IsHeld m g.sender g.place) (sym (later_other q b (Some event) g.mailbox apart)) was.held
      ])

      -- it has what it had, but for what was at hand
      has_less : (thing : Owned) → Has (Receives (after_give (Some h) v)) thing → Has (Receives v) thing ⊎ ((a : ℕ) × (thing ≡ Node a) × ((g : Holding) → IsHolding c q g → ¬ (a ≡ g.node)))
      has_less (Part part) has = inl has
      has_less (Node node) has = let none = has.1 in cc

      -- So the rule is kept.
      pub give_kept : KeepsOn shape s kept b (steps.GiveBack h.node) record { words = set s.words (turn_word h.node) word; homes = s.homes; views = set s.views id (Receives (after_give (Some h) v)) }
      give_kept = moved shape s kept id v seen (steps.GiveBack h.node) (Some event) n _ (after_give (Some h) v) record {
        due = due;
        event_is = event_is;
        same = same;
        are_words = turn_words shape c s.words kept.words n h.node node_low turned refl refl word (ap (λ (k : ℕ). (k + 1) % 2 ^ 64) (kept.words.turn h.node node_low)) refl refl refl;
        seat = seat_after shape s kept id v seen (Some event) n same v.reader v.passed (v.given ++ entry ∷ []) v.got None record {
          reader_is = mine.its_mailbox.reader;
          passed_is = mine.its_mailbox.passed;
          given_is = ap (λ xs. xs ++ entry ∷ []) mine.its_mailbox.given;
          got_is = mine.its_mailbox.got;
          holding = λ g none. cc;
          alone = λ all. subst (IsAlone (after event m)) (sym at) tt;
        };
        others = λ g free. held_still g (λ e. free (h, hand, e));
        new = has_less;
      }
