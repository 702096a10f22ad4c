-- What looks at a word that nobody writes tell: what was received of a sender that was taken in is the first part of what that sent. And how a receiver that was dealt begins.
use Rattle.std.proofs.Common.{[], ap, arith, get_or, inl, inr, refl, set, subst, sym, true, ℕ, ◌*◌, ◌+◌, ◌-◌, ◌<◌, ◌∙◌, ◌≡◌, ◌≤◌}
use Rattle.std.specs.List.{filter_map}
use Rattle.std.proofs.lemmas.List.{set-get_or}
use Rattle.std.proofs.lemmas.List.Elements.{All-nil, All-weaker}
use Rattle.std.proofs.lemmas.Option.{none-some}
use mathlib.Core.Option.{none, some}
use lib.ListN.{get_elem?}
use Rattle.atomic_table.specs.Table.{Me, State, Allows, keeps, step}
use Rattle.atomic_table.proofs.Lists.{at_set, set_again}
use Rattle.queue_core.specs.Mailbox.{received_at}
use Rattle.queue_core.specs.Pool.{Pool}
use Rattle.queue_core.specs.Pooled.{Pooled, new_reader, stub_in}
use Rattle.node_table.specs.declared.seats.Known.{Known}
use Rattle.node_table.specs.declared.seats.Known.TheVariants.{Dealt, Receives, Tallies}
use Rattle.node_table.specs.declared.seats.Posting.{Posting}
use Rattle.node_table.specs.declared.seats.ReceiverSeat.{ReceiverSeat}
use Rattle.node_table.specs.declared.seats.SenderSeat.{SenderSeat}
use Rattle.node_table.specs.declared.seats.Shape.{Shape}
use Rattle.node_table.specs.declared.seats.TallySeat.{TallySeat}
use Rattle.node_table.specs.Layout.{stub_of}
use Rattle.node_table.specs.Seats.{got_in, Has, has_ended, HasShape, IsDealtSeat, KnowsMailbox, IsNewReceiver, IsReceiverSeat, IsSeat, IsTakenIn, IsTallySeat, items_in, Owned}
use Rattle.node_table.specs.Seats.Owned.{Part, Node}
use Rattle.node_table.specs.Rule.{KeepsAs, KeepsNodes}
use Rattle.queue_core.specs.Items.{IsFirstOf}
use Rattle.node_table.specs.Tells.{TallyBegins, new_receiver, tells_begin_receiving, tells_look, tells_tally}
use Rattle.node_table.specs.Asks.{IsTally, IsDealtReceiver, tally_in, receiver_in}
use Rattle.node_table.proofs.AfterEvent.{as_it_is}
use Rattle.node_table.proofs.Owned.{apart_still}
use Rattle.node_table.proofs.TakenIn.{begins_now, received_first}

-- ---- what the tally knows

module _ (shape : Shape) (s : State Posting Known) (kept : KeepsNodes shape s) (id : ℕ) where
  abbrev c : Pooled
  c = kept.core

  abbrev q : Pool
  q = kept.pool

  tally_begins : (v : TallySeat) → get_elem? s.views id ≡ some (Tallies v) → TallyBegins v
  tally_begins v seen =
      let mine : IsTallySeat c q s.homes v = kept.seats id (Tallies v) seen in
      All-weaker (KnowsMailbox c q) _ (λ r is. All-weaker (IsTakenIn c q) _ (λ a its. subst (λ pairs. IsFirstOf (got_in pairs a.number) (items_in r.mailbox a.filled)) is.got (received_first shape s kept r.mailbox a its)) v.taken_in mine.taken_in) v.gathered mine.gathered

-- ---- a receiver that was dealt

-- it has received nothing, and its tail is its stub
new_receives : (c : Pooled) (q : Pool) (shape : Shape) (b : ℕ) → HasShape shape c → b < shape.mailboxes → IsNewReceiver c q b → IsReceiverSeat c q (new_receiver shape b)
new_receives c q shape b fits low new =
    let stub : stub_in c b ≡ stub_of shape b = λ i. fits.senders i * (fits.ring i + fits.mailboxes i) + b in
    record {
      its_mailbox = record {
        shape = fits;
        within = low;
        reader = new.reader ∙ ap new_reader stub;
        passed = new.passed;
        given = new.given;
        got = ap (filter_map (received_at (q.boxes b))) new.passed;
      };
      at_hand = λ h none. absurd (none-some h none);
      taken_in = All-nil (IsTakenIn c q);
      ended = All-nil (λ (a : SenderSeat). has_ended a _ ≡ true);
      alone = λ all. tt;
    }

-- it has the part that was dealt
new_had : (shape : Shape) (turn : ℕ) → shape.senders ≤ turn → (thing : Owned) → Has (Receives (new_receiver shape (turn - shape.senders))) thing → Has (Dealt shape turn) thing
new_had shape turn past (Part part) has = elim has [
  | inl own ↦ omega (arith, own, past)
  | inr nobody ↦ absurd nobody
]
new_had shape turn past (Node n) has = absurd (none-some has.0 has.1)

-- ---- the steps

module _ (key : Shape) (id : ℕ) (s : State Posting Known) (kept : KeepsNodes key s) where
  -- a seat that looks knows what it knew
  pub looked : (known : Known) → get_elem? s.views id ≡ some known → KeepsAs key kept.events kept.pool kept.core record { words = set s.words 0 (get_or s.words 0 0); homes = s.homes; views = set s.views id known }
  looked known seen = rw (set-get_or s.words 0 0, set_again s.views id known seen) (as_it_is key s kept)

  -- a receiver that was dealt begins
  pub begun : (shape : Shape) (turn : ℕ) → shape.senders ≤ turn → get_elem? s.views id ≡ some (Dealt shape turn)
      → KeepsAs key kept.events kept.pool kept.core record { words = set s.words 0 (get_or s.words 0 0); homes = s.homes; views = set s.views id (Receives (new_receiver shape (turn - shape.senders))) }
  begun shape turn past seen =
      let c : Pooled = kept.core in
      let q : Pool = kept.pool in
      let b : ℕ = turn - shape.senders in
      let w : Known = Receives (new_receiver shape b) in
      let was : IsDealtSeat c q s.homes shape turn = kept.seats id (Dealt shape turn) seen in
      let low : b < shape.mailboxes = omega (arith, was.within, past) in
      let is : IsSeat c q s.homes w = new_receives c q shape b was.shape_is low (was.new.receiver b low (omega (arith, past))) in
      record {
        rule = record {
          events = kept.events;
          pool = q;
          core = c;
          mail = kept.mail;
          words = rw (set-get_or s.words 0 0) kept.words;
          seats = λ j d e. elim (at_set s.views id j w d e) [
            | inl mine ↦ subst (IsSeat c q s.homes) mine.1 is
            | inr old ↦ kept.seats j d old.1
          ];
          apart = apart_still s.views kept.apart id (Dealt shape turn) seen w (new_had shape turn past);
        };
        events_are = refl;
        pool_is = refl;
        core_is = refl;
      }

module _ (key : Shape) (slots id : ℕ) where
  looks : (v : ReceiverSeat) → Allows (KeepsNodes key) slots id (Receives v, []) 0 (λ n. n) (tells_look (step slots 0 0 0 none) (Receives v, []))
  looks v s kept deep seen small = (Receives v, keeps, tt, (looked key id s kept (Receives v) seen).rule, (v, refl, (refl, begins_now key s kept id v seen)))

  tally_looks : (v : TallySeat) → Allows (KeepsNodes key) slots id (Tallies v, []) 0 (λ n. n) (tells_tally (step slots 0 0 0 none) (Tallies v, []))
  tally_looks v s kept deep seen small = (Tallies v, keeps, tt, (looked key id s kept (Tallies v) seen).rule, (refl, tally_begins key s kept id v seen))

  begins : (shape : Shape) (turn : ℕ) → shape.senders ≤ turn → Allows (KeepsNodes key) slots id (Dealt shape turn, []) 0 (λ n. n) (tells_begin_receiving (step slots 0 0 0 none) (Dealt shape turn, []))
  begins shape turn past s kept deep seen small = (Receives (new_receiver shape (turn - shape.senders)), keeps, tt, (begun key id s kept shape turn past seen).rule, refl)

  -- ---- the same as the functions ask for it

  module _ (me : Me Posting Known) where
    pub looks_again : me ≡ (Receives (receiver_in me.0), []) → Allows (KeepsNodes key) slots id me 0 (λ n. n) (tells_look (step slots 0 0 0 none) me)
    looks_again is = subst (λ (x : Me Posting Known). Allows (KeepsNodes key) slots id x 0 (λ n. n) (tells_look (step slots 0 0 0 none) x)) (sym is) (looks (receiver_in me.0))

    pub tally_looks_again : IsTally me → Allows (KeepsNodes key) slots id me 0 (λ n. n) (tells_tally (step slots 0 0 0 none) me)
    tally_looks_again is = subst (λ (x : Me Posting Known). Allows (KeepsNodes key) slots id x 0 (λ n. n) (tells_tally (step slots 0 0 0 none) x)) (sym is) (tally_looks (tally_in me.0))

    pub begins_receiving : (shape : Shape) (b : ℕ) → IsDealtReceiver shape b me → Allows (KeepsNodes key) slots id me 0 (λ n. n) (tells_begin_receiving (step slots 0 0 0 none) me)
    begins_receiving shape b at =
        subst (λ (x : Me Posting Known). Allows (KeepsNodes key) slots id x 0 (λ n. n) (tells_begin_receiving (step slots 0 0 0 none) x)) (sym at.0)
        (begins shape (shape.senders + b) (omega arith))
