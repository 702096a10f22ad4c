-- What a step of a receiver at a table of nodes asks of its caller, from where the seat is.
use Rattle.std.proofs.Common.{◌≡◌, ◌∙◌, ◌+◌, ◌%◌, ◌^◌, ℕ, [], ap, refl, subst, sym}
use mathlib.Core.Option.{none}
use Rattle.atomic_table.specs.Table.{Me, Allows, step}
use Rattle.queue_core.specs.declared.reader.ReaderPoint.{ReaderPoint}
use Rattle.queue_core.specs.declared.reader.ReaderPoint.TheVariants as reads
use Rattle.queue_core.specs.StoredWords.{null}
use Rattle.node_table.specs.declared.seats.Known.{Known}
use Rattle.node_table.specs.declared.seats.Known.TheVariants.{Receives}
use Rattle.node_table.specs.declared.seats.Posting.{Posting}
use Rattle.node_table.specs.declared.seats.ReceiverSeat.{ReceiverSeat}
use Rattle.node_table.specs.declared.seats.Shape.{Shape}
use Rattle.node_table.specs.Layout.{IsTableOf, amount_word_of, head_word, line_word_of, next_word, stub_of, turn_word}
use Rattle.node_table.specs.Rule.{KeepsNodes}
use Rattle.node_table.specs.Asks.{HasAtHand, IsReading, receiver_in}
use Rattle.node_table.specs.Tells.{LoadsHead, LoadsNext, tells_give_back, tells_load_amount, tells_load_head, tells_load_line, tells_load_next, tells_stub_link, tells_stub_null, tells_stub_swap}
use Rattle.node_table.proofs.ReceiverSteps.{amount_loads, head_loads, line_loads, next_loads, stub_links, stub_nulls, stub_swaps, turn_adds}

module _ (shape key : Shape) (words : ℕ) (table : IsTableOf shape key words) (slots id : ℕ) (me : Me Posting Known) where
  abbrev v : ReceiverSeat
  v = receiver_in me.0

  -- what is so of a receiver at the table of a shape, and of two numbers that it knows, is so of the seat at the table of the key
  of_table : (P : Shape → Me Posting Known → ℕ → ℕ → Type 0) → me ≡ (Receives v, []) → (i j m n : ℕ) → i ≡ j → m ≡ n → P shape (Receives v, []) i m → P key me j n
  of_table P is i j m n first second p = subst (λ (x : Shape × Me Posting Known × ℕ × ℕ). P x.0 x.1 x.2 x.3) (λ t. (sym table.key_is t, sym is t, first t, second t)) p

  module _ (mailbox tail : ℕ) where
    -- the tail, as the caller knows it
    pub loads_next : IsReading LoadsNext shape mailbox tail me → Allows (KeepsNodes key) slots id me (next_word tail) (λ n. n) (tells_load_next (step slots (next_word tail) 0 0 none) me)
    loads_next at =
        of_table (λ k x t _. Allows (KeepsNodes k) slots id x (next_word t) (λ n. n) (tells_load_next (step slots (next_word t) 0 0 none) x)) at.is_receiver _ tail 0 0 at.tail_is refl
        (next_loads shape slots id v at.at)

    -- the head, in its word
    pub loads_head : (word : ℕ) → word ≡ head_word shape mailbox → IsReading LoadsHead shape mailbox tail me → Allows (KeepsNodes key) slots id me word (λ n. n) (tells_load_head (step slots word 0 0 none) me)
    loads_head word is at =
        of_table (λ k x w _. Allows (KeepsNodes k) slots id x w (λ n. n) (tells_load_head (step slots w 0 0 none) x)) at.is_receiver _ word 0 0 (ap (head_word shape) at.mailbox_is ∙ sym is) refl
        (head_loads shape slots id v at.at)

    module _ (stub : ℕ) (stub_is : stub ≡ stub_of shape mailbox) where
      -- the stub, by what the receiver knows
      known_stub : (At : ReaderPoint → Type 0) → IsReading At shape mailbox tail me → stub_of v.shape v.mailbox ≡ stub
      known_stub At at = (λ i. stub_of (at.shape_is i) (at.mailbox_is i)) ∙ sym stub_is

      -- the stub is emptied, exchanged in and linked
      pub nulls_stub : IsReading (λ point. point ≡ reads.Null) shape mailbox tail me
          → Allows (KeepsNodes key) slots id me (next_word stub) (λ _. null) (λ _. tells_stub_null (step slots (next_word stub) null 0 none) me null)
      nulls_stub at =
          of_table (λ k x n _. Allows (KeepsNodes k) slots id x (next_word n) (λ _. null) (λ _. tells_stub_null (step slots (next_word n) null 0 none) x null)) at.is_receiver _ stub 0 0 (known_stub _ at) refl
          (stub_nulls shape slots id v at.at)

      pub swaps_stub : (word : ℕ) → word ≡ head_word shape mailbox → IsReading (λ point. point ≡ reads.Swap) shape mailbox tail me
          → Allows (KeepsNodes key) slots id me word (λ _. stub + 1) (tells_stub_swap (step slots word (stub + 1) 0 none) me)
      swaps_stub word is at =
          of_table (λ k x w n. Allows (KeepsNodes k) slots id x w (λ _. n + 1) (tells_stub_swap (step slots w (n + 1) 0 none) x)) at.is_receiver _ word _ stub (ap (head_word shape) at.mailbox_is ∙ sym is) (known_stub _ at)
          (stub_swaps shape slots id v at.at)

      pub links_stub : (before : ℕ) → IsReading (λ point. point ≡ reads.Link before) shape mailbox tail me
          → Allows (KeepsNodes key) slots id me (next_word before) (λ _. stub + 1) (λ _. tells_stub_link (step slots (next_word before) (stub + 1) 0 none) me (stub + 1))
      links_stub before at =
          of_table (λ k x n _. Allows (KeepsNodes k) slots id x (next_word before) (λ _. n + 1) (λ _. tells_stub_link (step slots (next_word before) (n + 1) 0 none) x (n + 1))) at.is_receiver _ stub 0 0 (known_stub _ at) refl
          (stub_links shape slots id v before at.at)

  -- what is at hand
  module _ (node : ℕ) (at : HasAtHand shape node me) where
    pub loads_line : Allows (KeepsNodes key) slots id me (line_word_of node) (λ n. n) (tells_load_line (step slots (line_word_of node) 0 0 none) me)
    loads_line =
        of_table (λ k x n _. Allows (KeepsNodes k) slots id x (line_word_of n) (λ j. j) (tells_load_line (step slots (line_word_of n) 0 0 none) x)) at.is_receiver _ node 0 0 at.node_is refl
        (line_loads shape slots id v at.holding at.hand at.rest)

    pub loads_amount : Allows (KeepsNodes key) slots id me (amount_word_of node) (λ n. n) (tells_load_amount (step slots (amount_word_of node) 0 0 none) me)
    loads_amount =
        of_table (λ k x n _. Allows (KeepsNodes k) slots id x (amount_word_of n) (λ j. j) (tells_load_amount (step slots (amount_word_of n) 0 0 none) x)) at.is_receiver _ node 0 0 at.node_is refl
        (amount_loads shape slots id v at.holding at.hand at.rest)

    pub adds_turn : Allows (KeepsNodes key) slots id me (turn_word node) (λ n. (n + 1) % 2 ^ 64) (tells_give_back (step slots (turn_word node) 1 0 none) me)
    adds_turn =
        of_table (λ k x n _. Allows (KeepsNodes k) slots id x (turn_word n) (λ j. (j + 1) % 2 ^ 64) (tells_give_back (step slots (turn_word n) 1 0 none) x)) at.is_receiver _ node 0 0 at.node_is refl
        (turn_adds shape slots id v at.holding at.hand at.rest)
