-- What a reader has taken from its mailboxes, and what it keeps of it.
use Rattle.std.specs.Prelude.{ℤ, ℕ, ◌≡◌, ◌⊎◌, ◌<◌, ◌≤◌, ◌+◌, ◌∷◌, [], Bool, List, None, Option, Some, length, map, option_map, slice_index_or, slice_set, true}
use Rattle.queue_core.specs.declared.item.Item.{Item}
use Rattle.queue_core.specs.declared.item.Item.TheVariants.{End, Post}
use Rattle.mail_box.specs.Mails.{HasReceived, ReceiverView}
use Rattle.block_draw.specs.Drawn.{sum_below}
use Rattle.split_run.specs.Taken.{HasTaken}
use Rattle.split_run.specs.declared.reading.Reader.{Reader}
use Rattle.split_run.specs.declared.reading.ReaderResult.{ReaderResult}

-- how many end marks there are among items
abbrev pub ends_among : List Item → ℕ
ends_among [] = 0
ends_among (Post line amount ∷ items) = ends_among items
ends_among (End ∷ items) = 1 + ends_among items

module _ {Name : Type 0} where
  -- a receiver that has received these lists
  abbrev pub with_got : ReceiverView Name → (ℕ → List Item) → ReceiverView Name
  with_got r got = record { mailbox = r.mailbox; senders = r.senders; got = got; known = r.known }

  -- A mailbox, where there is one, and what was taken from it since it was as before: at least so many end marks; and,
  -- if every posting was kept, the statement of its account. Where there is none, so it stays, and the statement is empty.
  abbrev pub IsServed : ℕ → Bool → Option (ReceiverView Name) → Option (ReceiverView Name) → ℕ → List (ℕ × ℤ) → Type 0
  IsServed workers whole None now ends statement = (now ≡ None) × (statement ≡ [])
  IsServed workers whole (Some was) now ends statement =
      (was.senders ≡ workers) × (got : ℕ → List Item) × (now ≡ Some (with_got was got))
      × (ends ≤ sum_below workers (λ worker. ends_among (got worker))) × (whole ≡ true → HasTaken workers got statement)

  -- a mailbox of so many senders from which nothing was taken, where there is one
  abbrev pub IsUntouched : ℕ → Option (ReceiverView Name) → Type 0
  IsUntouched workers inbox = (r : ReceiverView Name) → inbox ≡ Some r → (r.senders ≡ workers) × (r.got ≡ (λ sender. []))

  -- the mailbox of each of so many accounts, where there is one
  abbrev pub AreUntouched : (workers accounts : ℕ) → List (Option (ReceiverView Name)) → Type 0
  AreUntouched workers accounts inboxes = (account : ℕ) → account < accounts → IsUntouched workers (slice_index_or inboxes account None)

  -- an item of this sender was received from the mailbox of an account, and the others are as before
  abbrev pub HasReceivedAt : (account : ℕ) → (before after : List (Option (ReceiverView Name))) → (sender : ℕ) → Item → Type 0
  HasReceivedAt account before after sender item =
      (was : ReceiverView Name) × (now : ReceiverView Name) × (slice_index_or before account None ≡ Some was)
      × HasReceived was now sender item × (after ≡ slice_set before account (Some now))

  -- each mailbox that there is has given an end mark of each worker
  abbrev pub HaveGivenEnds : (workers : ℕ) → List (Option (ReceiverView Name)) → (ends : List ℕ) → Type 0
  HaveGivenEnds workers inboxes ends =
      (account : ℕ) → account < length inboxes → (slice_index_or inboxes account None ≡ None) ⊎ (workers ≤ slice_index_or ends account 0)

  -- so of the mailbox of each account
  pub record AreTaken (workers : ℕ) (whole : Bool) (was now : List (Option (ReceiverView Name))) (ends : List ℕ) (book : List (List (ℕ × ℤ))) : Type 0 where
    pub count : length now ≡ length was
    pub counted : length ends ≡ length was
    pub accounts : length book ≡ length was
    pub each : (account : ℕ) → account < length was
        → IsServed workers whole (slice_index_or was account None) (slice_index_or now account None) (slice_index_or ends account 0) (slice_index_or book account [])

  -- Of each account: where a reader serves it, the mailbox has given an end mark for each worker, and the statement is what was taken.
  pub record AreServed (workers : ℕ) (was now : List (Option (ReceiverView Name))) (book : List (List (ℕ × ℤ))) : Type 0 where
    pub count : length now ≡ length was
    pub accounts : length book ≡ length was
    pub each : (account : ℕ) → account < length was
        → IsServed workers true (slice_index_or was account None) (slice_index_or now account None) workers (slice_index_or book account [])

-- the receivers that there are, as a clause sees them
abbrev pub inboxes_by : {R Name : Type 0} → (R → ReceiverView Name) → List (Option R) → List (Option (ReceiverView Name))
inboxes_by receiver inboxes = map (option_map receiver) inboxes

module _ {B Sender Receiver Kept Gathered : Type 0} where
  -- the same reader, of the same mailboxes, whatever it has taken since
  abbrev pub IsSameReader : (old new : Reader B Sender Receiver Kept Gathered) → Type 0
  IsSameReader old new = (new.opened.value ≡ old.opened.value) × (new.workers ≡ old.workers)

module _ {B Sender Receiver Kept Gathered Name : Type 0} where
  -- what a reader has taken from its mailboxes since they were opened, and what it keeps of it
  abbrev pub HasKept : (Receiver → ReceiverView Name) → Reader B Sender Receiver Kept Gathered → Type 0
  HasKept receiver reader =
      AreTaken reader.workers reader.whole (inboxes_by receiver reader.opened.value.items) (inboxes_by receiver reader.inboxes.items) reader.ends.items reader.journal

  -- each of its mailboxes has given an end mark of each worker
  abbrev pub HasAllEnds : (Receiver → ReceiverView Name) → Reader B Sender Receiver Kept Gathered → Type 0
  HasAllEnds receiver reader = HaveGivenEnds reader.workers (inboxes_by receiver reader.inboxes.items) reader.ends.items

  -- it has taken and kept all
  abbrev pub HasKeptAll : (Receiver → ReceiverView Name) → Reader B Sender Receiver Kept Gathered → Type 0
  HasKeptAll receiver reader = AreServed reader.workers (inboxes_by receiver reader.opened.value.items) (inboxes_by receiver reader.inboxes.items) reader.journal

  -- and this is what it gave back
  abbrev pub HasServed : (Receiver → ReceiverView Name) → Reader B Sender Receiver Kept Gathered → ReaderResult B Sender Receiver Kept Gathered → Type 0
  HasServed receiver reader served = AreServed reader.workers (inboxes_by receiver reader.opened.value.items) (inboxes_by receiver served.inboxes.items) served.book
