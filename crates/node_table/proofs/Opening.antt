-- The rule of a table of nodes holds when the table is made.
use Rattle.std.proofs.Common.{◌≡◌, ◌∙◌, ◌<◌, ◌+◌, ◌*◌, ◌∷◌, [], ℕ, List, false, zero, suc, get_or, length, map, ap, sym, refl, subst, arith}
use Rattle.std.proofs.lemmas.List.{get_or-replicate, length-replicate}
use Rattle.std.proofs.lemmas.List.Elements.{All-nil}
use Rattle.std.proofs.lemmas.List.FromFn.{get_or-map-range_with_len, length-map-range_with_len}
use Rattle.std.proofs.lemmas.Nat.{mul-add-lt}
use mathlib.Core.Option.{Option as Slot, some, some-injective, some-ne-none}
use lib.ListN.{get_elem?}
use Rattle.atomic_table.specs.Table.{opening}
use Rattle.atomic_table.proofs.Lists.{some_there}
use Rattle.queue_core.specs.declared.TheConstants.{MOST_POOL_POSTS}
use Rattle.queue_core.specs.declared.words.Node.{Node}
use Rattle.queue_core.specs.StoredWords.{empty_node, link_to}
use Rattle.queue_core.specs.Pool.{opening_pool}
use Rattle.queue_core.specs.Pool.PoolLeads.{none}
use Rattle.queue_core.specs.Pooled.{Pooled, end_place, new_caller, new_reader, node_at, opening_pooled, stub_in}
use Rattle.queue_core.proofs.PoolOpening.{opening_keeps}
use Rattle.queue_core.proofs.PoolRuns.{opening_shown}
use Rattle.node_table.specs.declared.seats.Known.{Known}
use Rattle.node_table.specs.declared.seats.Posting.{Posting}
use Rattle.node_table.specs.declared.seats.Shape.{Shape}
use Rattle.node_table.specs.Layout.{IsSmall, amount_word_of, head_word, line_word_of, next_word, nodes_in, slot_of, slots_in, stub_of, turn_word, words_in}
use Rattle.queue_core.specs.Items.{IsInRange}
use Rattle.node_table.specs.Seats.{HasEndedEverywhere, HasShape, KnowsMailbox, IsNewReceiver, IsNewSender, IsSeat, IsTakenIn}
use Rattle.node_table.specs.Rule.{AreApart, AreWords, IsNodeMail, KeepsNodes, nodes_opened}
use Rattle.node_table.proofs.Owned.{at_within}

module _ (shape : Shape) (small : IsSmall shape) (words : List ℕ) (wide : length words ≡ words_in shape) (heads : (b : ℕ) → b < shape.mailboxes → get_or words (head_word shape b) 0 ≡ stub_of shape b + 1)
    (zeros : (n k : ℕ) → k < 4 → get_or words (next_word n + k) 0 ≡ 0) (slots : List Posting) (many : length slots ≡ slots_in shape) where
  -- ---- the core

  abbrev core : Pooled
  core = opening_pooled shape.senders shape.mailboxes shape.ring MOST_POOL_POSTS

  fits : HasShape shape core
  fits = record {
    senders = length-replicate shape.senders new_caller;
    mailboxes = length-map-range_with_len (λ b. link_to (stub_of shape b)) 0 shape.mailboxes;
    ring = refl;
    most = refl;
  }

  mail : IsNodeMail shape [] opening_pool core
  mail = record {
    fits = fits;
    pooled = opening_keeps shape.senders shape.mailboxes shape.ring MOST_POOL_POSTS small.senders.0 small.senders.1 small.mailboxes.0 small.mailboxes.1 small.ring.0 small.ring.1 (omega arith);
    leads = none;
    shows = opening_shown shape.senders shape.mailboxes shape.ring MOST_POOL_POSTS small.senders.0 small.senders.1 small.mailboxes.0 small.mailboxes.1 small.ring.0 small.ring.1 (omega arith);
    ranged = λ b p. All-nil IsInRange;
  }

  -- ---- the words

  many_nodes : length core.nodes ≡ nodes_in shape
  many_nodes = length-replicate (nodes_in shape) empty_node

  -- each node is empty
  node : (n : ℕ) → n < length core.nodes → node_at core n ≡ empty_node
  node n low = get_or-replicate (nodes_in shape) n empty_node empty_node (omega (arith, low, many_nodes))

  -- so each of its words is 0
  word_is : (f : Node → ℕ) → f empty_node ≡ 0 → (place : ℕ → ℕ) (k : ℕ) → k < 4 → ((n : ℕ) → place n ≡ next_word n + k) → (n : ℕ) → n < length core.nodes → get_or words (place n) 0 ≡ f (node_at core n)
  word_is f null place k few is n low = ap (λ (i : ℕ). get_or words i 0) (is n) ∙ (zeros n k few ∙ sym (ap f (node n low) ∙ null))

  are_words : AreWords shape core words
  are_words = record {
    wide = wide ∙ ap next_word (sym many_nodes);
    head = λ b low.
        let there : b < shape.mailboxes = omega (arith, low, fits.mailboxes) in
        heads b there ∙ sym (get_or-map-range_with_len (λ b. link_to (stub_of shape b)) 0 shape.mailboxes b b 0 there (omega arith));
    next = word_is (λ z. z.next) refl next_word 0 (omega arith) (λ n. omega arith);
    turn = word_is (λ z. z.turn) refl turn_word 1 (omega arith) (λ n. omega arith);
    line = word_is (λ z. z.line) refl line_word_of 2 (omega arith) (λ n. omega arith);
    amount = word_is (λ z. z.amount) refl amount_word_of 3 (omega arith) (λ n. omega arith);
  }

  -- ---- what is dealt has done nothing

  abbrev homes : List (Slot Posting)
  homes = map some slots

  new_sender_is : (p : ℕ) → p < shape.senders → IsNewSender core opening_pool homes p
  new_sender_is p low = record {
    caller = get_or-replicate shape.senders p new_caller _ low;
    going = λ b there.
        let place : end_place core b p ≡ p * shape.mailboxes + b = λ i. p * fits.mailboxes i + b in
        get_or-replicate (shape.senders * shape.mailboxes) (end_place core b p) false _ (omega (arith, place, mul-add-lt p shape.mailboxes b shape.senders low (omega (arith, there, fits.mailboxes))));
    items = λ b. refl;
    slot = some_there slots (slot_of p) (omega (arith, low, many));
  }

  new_reader_is : (b : ℕ) → b < shape.mailboxes → IsNewReceiver core opening_pool b
  new_reader_is b low =
      let stub : stub_in core b ≡ stub_of shape b = λ i. fits.senders i * (shape.ring + fits.mailboxes i) + b in
      record {
        reader = get_or-map-range_with_len (λ b. new_reader (stub_of shape b)) 0 shape.mailboxes b b _ low (omega arith) ∙ ap new_reader (sym stub);
        passed = refl;
        given = refl;
      }

  -- ---- the tally's seat is the only one

  tally : IsSeat core opening_pool homes (nodes_opened shape)
  tally = record {
    shape = fits;
    waiting = λ turn late low. record { sender = new_sender_is turn; receiver = λ b there is. new_reader_is b there };
    gathered = All-nil (KnowsMailbox core opening_pool);
    taken_in = All-nil (IsTakenIn core opening_pool);
    ended = All-nil HasEndedEverywhere;
  }

  only : (seat : ℕ) (v : Known) → get_elem? (nodes_opened shape ∷ []) seat ≡ some v → IsSeat core opening_pool homes v
  only zero v e = subst (IsSeat core opening_pool homes) (some-injective (nodes_opened shape) v e) tally
  only (suc k) v e = absurd (some-ne-none v (sym e))

  alone : AreApart (nodes_opened shape ∷ [])
  alone i j v w thing here there differ has_v has_w = differ (omega (arith, at_within (nodes_opened shape ∷ []) i v here, at_within (nodes_opened shape ∷ []) j w there))

  pub table_opens : KeepsNodes shape (opening words slots (nodes_opened shape))
  table_opens = record { events = []; pool = opening_pool; core = core; mail = mail; words = are_words; seats = only; apart = alone }
