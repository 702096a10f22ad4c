-- What a step of a sender asks of its caller, from where the seat is: that its word is one of the table, and what the table allows.
use Rattle.std.proofs.Common.{ℤ, ◌≡◌, ◌∙◌, ◌+◌, ◌*◌, ◌%◌, ◌<◌, ◌∷◌, ℕ, [], List, ap, refl, subst, sym, arith, mod-lt}
use Rattle.std.proofs.lemmas.Nat.{mul-add-lt}
use mathlib.Core.Option.{none}
use Rattle.atomic_table.specs.Table.{Me, Allows, Step, rest, step}
use Rattle.queue_core.specs.declared.TheConstants.{MOST_POOL_POSTS}
use Rattle.queue_core.specs.declared.item.Item.{Item}
use Rattle.queue_core.specs.declared.item.Item.TheVariants.{Post, End}
use Rattle.queue_core.specs.declared.sender.SenderPoint.TheVariants as sends
use Rattle.queue_core.specs.StoredWords.{amount_word, line_word, null}
use Rattle.node_table.specs.declared.seats.Known.{Known}
use Rattle.node_table.specs.declared.seats.Known.TheVariants.{Sends}
use Rattle.node_table.specs.declared.seats.Posting.{Posting}
use Rattle.node_table.specs.declared.seats.SenderSeat.{SenderSeat}
use Rattle.node_table.specs.declared.seats.Shape.{Shape}
use Rattle.node_table.specs.Layout.{IsTableOf, amount_word_of, first_of, head_word, line_word_of, next_word, nodes_in, slot_of, turn_word}
use Rattle.node_table.specs.Rule.{KeepsNodes}
use Rattle.node_table.specs.Asks.{IsEnding, IsPosting, IsResting, IsSending, IsDealtSender, sender_in}
use Rattle.node_table.specs.Tells.{in_slot, node_of, posting, tells_give_slot, tells_load_turn, tells_store_amount, tells_store_line, tells_store_link, tells_store_null, tells_swap_head, tells_take_slot}
use Rattle.node_table.proofs.SenderSteps.{amount_stores, end_stores, head_swaps, line_stores, link_stores, null_stores, slot_gives, slot_takes, turn_loads}

-- ---- a seat that has its slot

module _ (me : Me Posting Known) (number : ℕ) (is : me ≡ (Sends (sender_in me.0), (slot_of number, in_slot me.1) ∷ [])) where
  slot_is : me.1 ≡ (slot_of number, in_slot me.1) ∷ []
  slot_is = ap (λ (x : Me Posting Known). x.1) is

  -- the slot that it took last is its own
  pub slot_first : me.1 ≡ (slot_of number, in_slot me.1) ∷ rest me.1
  slot_first = slot_is ∙ ap (λ (xs : List (ℕ × Posting)). (slot_of number, in_slot me.1) ∷ xs) (sym (ap (λ (xs : List (ℕ × Posting)). rest xs) slot_is))

  -- and what it lays into it lies there
  laid_there : (laid : Posting) (x : Me Posting Known) → x ≡ (me.0, (slot_of number, laid) ∷ rest me.1) → x ≡ (Sends (sender_in me.0), (slot_of number, laid) ∷ [])
  laid_there laid x there =
      let known = ap (λ (y : Me Posting Known). y.0) is in
      let none_more = ap (λ (xs : List (ℕ × Posting)). rest xs) slot_is in
      there ∙ (λ i. (known i, (slot_of number, laid) ∷ none_more i))

module _ (shape key : Shape) (words : ℕ) (table : IsTableOf shape key words) (slots id : ℕ) where
  -- ---- a word is one of the table, and a load, a store or an exchange of it tells a seat something

  abbrev pub Loads : Me Posting Known → (word : ℕ) → (Step Posting → Me Posting Known → ℕ → Me Posting Known → Type 0) → Type 0
  Loads x word tells = (word < words) × Allows (KeepsNodes key) slots id x word (λ n. n) (tells (step slots word 0 0 none) x)

  abbrev pub Stores : Me Posting Known → (word new : ℕ) → (Step Posting → Me Posting Known → ℕ → Me Posting Known → Type 0) → Type 0
  Stores x word new tells = (word < words) × Allows (KeepsNodes key) slots id x word (λ _. new) (λ _. tells (step slots word new 0 none) x new)

  abbrev pub Swaps : Me Posting Known → (word new : ℕ) → (Step Posting → Me Posting Known → ℕ → Me Posting Known → Type 0) → Type 0
  Swaps x word new tells = (word < words) × Allows (KeepsNodes key) slots id x word (λ _. new) (tells (step slots word new 0 none) x)

  -- It does so of a seat, a node and a word as they are given.
  module _ (tells : Step Posting → Me Posting Known → ℕ → Me Posting Known → Type 0) (place : ℕ → ℕ) (x y : Me Posting Known) (m n : ℕ) (seat_is : x ≡ y) (node_is : m ≡ n) (low : place n < words) where
    loads : Allows (KeepsNodes shape) slots id x (place m) (λ k. k) (tells (step slots (place m) 0 0 none) x) → Loads y (place n) tells
    loads allowed = (low, subst (λ (z : Shape × Me Posting Known × ℕ). Allows (KeepsNodes z.0) slots id z.1 (place z.2) (λ k. k) (tells (step slots (place z.2) 0 0 none) z.1)) (λ i. (sym table.key_is i, seat_is i, node_is i)) allowed)

    stores : (j k : ℕ) → j ≡ k → Allows (KeepsNodes shape) slots id x (place m) (λ _. j) (λ _. tells (step slots (place m) j 0 none) x j) → Stores y (place n) k tells
    stores j k new_is allowed = (
      low,
      subst (λ (z : Shape × Me Posting Known × ℕ × ℕ). Allows (KeepsNodes z.0) slots id z.1 (place z.2) (λ _. z.3) (λ _. tells (step slots (place z.2) z.3 0 none) z.1 z.3)) (λ i. (sym table.key_is i, seat_is i, node_is i, new_is i)) allowed,
    )

    swaps : (j k : ℕ) → j ≡ k → Allows (KeepsNodes shape) slots id x (place m) (λ _. j) (tells (step slots (place m) j 0 none) x) → Swaps y (place n) k tells
    swaps j k new_is allowed = (
      low,
      subst (λ (z : Shape × Me Posting Known × ℕ × ℕ). Allows (KeepsNodes z.0) slots id z.1 (place z.2) (λ _. z.3) (tells (step slots (place z.2) z.3 0 none) z.1)) (λ i. (sym table.key_is i, seat_is i, node_is i, new_is i)) allowed,
    )

  module _ (me : Me Posting Known) where
    abbrev v : SenderSeat
    v = sender_in me.0

    -- a mailbox of the table is one that it knows
    its_mailbox : (b : ℕ) → v.shape ≡ shape → b < shape.mailboxes → b < v.shape.mailboxes
    its_mailbox b shape_is there = subst (λ (d : Shape). b < d.mailboxes) (sym shape_is) there

    -- ---- a sender begins, and is done: it loads the first word, which nobody writes

    pub takes_slot : (number : ℕ) → IsDealtSender shape number me → Loads me 0 tells_take_slot
    takes_slot number at = loads tells_take_slot (λ n. n) _ me 0 0 (sym at.0) refl (omega (arith, table.wide)) (slot_takes shape slots id shape number at.1)

    pub gives_slot : IsResting me → Loads me 0 tells_give_slot
    gives_slot at = loads tells_give_slot (λ n. n) _ me 0 0 (sym at.is) refl (omega (arith, table.wide)) (slot_gives shape slots id v (slot_of v.number) (in_slot me.1))

    -- ---- in a call

    module _ (b node : ℕ) (item : Item) where
      pub swaps_head : (word : ℕ) → word ≡ head_word shape b → IsSending shape (sends.Swap item) b item node me → Swaps me word (node + 1) tells_swap_head
      swaps_head word is at =
          swaps tells_swap_head (λ w. w) _ me _ word (sym at.is) (sym is) (omega (arith, table.wide, at.there, is)) _ (node + 1) (ap (λ (k : ℕ). k + 1) at.node_is)
          (head_swaps shape slots id v me.1 b (its_mailbox b at.shape_is at.there) at.mailbox_is item at.at)

      pub stores_link : (before : ℕ) → before < nodes_in shape → IsSending shape (sends.Link item before) b item node me → Stores me (next_word before) (node + 1) tells_store_link
      stores_link before low at =
          stores tells_store_link next_word _ me before before (sym at.is) refl (omega (arith, table.wide, low)) _ (node + 1) (ap (λ (k : ℕ). k + 1) at.node_is)
          (link_stores shape slots id v me.1 b (its_mailbox b at.shape_is at.there) at.mailbox_is item before at.at)

      module _ (low : node < nodes_in shape) where
        pub stores_line : (word : ℕ) → IsSending shape (sends.Line item) b item node me → line_word item ≡ word → Stores me (line_word_of node) word tells_store_line
        stores_line word at is =
            stores tells_store_line line_word_of _ me _ node (sym at.is) at.node_is (omega (arith, table.wide, low)) _ word is
            (line_stores shape slots id v me.1 b (its_mailbox b at.shape_is at.there) at.mailbox_is item at.at)

        pub stores_amount : (word : ℕ) → IsSending shape (sends.Amount item) b item node me → amount_word item ≡ word → Stores me (amount_word_of node) word tells_store_amount
        stores_amount word at is =
            stores tells_store_amount amount_word_of _ me _ node (sym at.is) at.node_is (omega (arith, table.wide, low)) _ word is
            (amount_stores shape slots id v me.1 b (its_mailbox b at.shape_is at.there) at.mailbox_is item at.at)

        pub stores_null : IsSending shape (sends.Null item) b item node me → Stores me (next_word node) null tells_store_null
        stores_null at =
            stores tells_store_null next_word _ me _ node (sym at.is) at.node_is (omega (arith, table.wide, low)) null null refl
            (null_stores shape slots id v me.1 b (its_mailbox b at.shape_is at.there) at.mailbox_is item at.at)

    -- ---- in no call, with what it is to fill in its slot

    module _ (number b first : ℕ) (below : number < shape.senders) (first_is : first ≡ first_of shape number) (x : Me Posting Known) where
      pub ends_line : IsEnding shape number b me → x ≡ (me.0, (slot_of number, posting b End) ∷ rest me.1) → Stores x (line_word_of (first + (shape.ring + b))) 0 tells_store_line
      ends_line at is =
          let node_is : node_of v b End ≡ first + (shape.ring + b) = (λ i. at.number_is i * ((at.shape_is i).ring + (at.shape_is i).mailboxes) + ((at.shape_is i).ring + b)) ∙ ap (λ (k : ℕ). k + (shape.ring + b)) (sym first_is) in
          stores tells_store_line line_word_of _ x _ _ (sym (laid_there me number at.is (posting b End) x is)) node_is
          (omega (arith, table.wide, first_is, mul-add-lt number (shape.ring + shape.mailboxes) (shape.ring + b) shape.senders below (omega (arith, at.there)))) 0 0 refl
          (end_stores shape slots id v (slot_of number) at.rest b (its_mailbox b at.shape_is at.there) at.going)

      pub loads_turn : (count line : ℕ) (amount : ℤ) → IsPosting shape number count b line amount me → x ≡ (me.0, (slot_of number, posting b (Post line amount)) ∷ rest me.1)
          → Loads x (turn_word (first + count % shape.ring)) tells_load_turn
      loads_turn count line amount at is =
          let node_is : node_of v b (Post line amount) ≡ first + count % shape.ring = (λ i. at.number_is i * ((at.shape_is i).ring + (at.shape_is i).mailboxes) + at.count_is i % (at.shape_is i).ring) ∙ ap (λ (k : ℕ). k + count % shape.ring) (sym first_is) in
          loads tells_load_turn turn_word _ x _ _ (sym (laid_there me number at.is (posting b (Post line amount)) x is)) node_is
          (omega (arith, table.wide, first_is, mul-add-lt number (shape.ring + shape.mailboxes) (count % shape.ring) shape.senders below (omega (arith, mod-lt count table.small.ring.0))))
          (turn_loads shape slots id v (slot_of number) at.rest b (its_mailbox b at.shape_is at.there) at.going line amount
          (subst (λ (k : ℕ). k < MOST_POOL_POSTS) (sym at.count_is) at.few) at.line_low at.amount_within.0 at.amount_within.1)
