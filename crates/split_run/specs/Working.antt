-- What a worker sends of the lines that it divides.
use Rattle.std.specs.Prelude.{ℤ, ℕ, ◌≡◌, ◌<◌, Bool, List, Some, slice_get, slice_index_or}
use Rattle.line_split.specs.UsageLine.{UsageLine}
use Rattle.mail_box.specs.Mails.{SenderView}
use Rattle.payee_book.specs.Run.{portion_for, posting_of}
use Rattle.pool_box.specs.Pools.{SenderView as PoolSenderView}
use Rattle.split_run.specs.Blocks.{list_of, postings_in, postings_of}
use Rattle.split_run.specs.Sending.{HaveEnded, HaveSent}

module _ {Name : Type 0} where
  -- each sender has sent what the portions of a line give its account
  abbrev pub HaveSentPortions : (is_shared : Bool) → (line : ℕ) → (portions : List (ℕ × ℤ)) → (before after : List (SenderView Name)) → Type 0
  HaveSentPortions is_shared line portions before after = HaveSent is_shared before after (λ account. posting_of line (portion_for account portions))

  -- each has sent what dividing the line at this place gives its account
  abbrev pub HaveSentLine : (is_shared : Bool) → (UsageLine → List (ℕ × ℤ)) → List UsageLine → (place : ℕ) → (before after : List (SenderView Name)) → Type 0
  HaveSentLine is_shared division usage place before after =
      (line : UsageLine) → slice_get usage place ≡ Some line → HaveSentPortions is_shared place (division line) before after

  -- each has sent the postings of its account on the lines of this block
  abbrev pub HaveSentBlock : (is_shared : Bool) → (UsageLine → List (ℕ × ℤ)) → List UsageLine → (block : ℕ) → (before after : List (SenderView Name)) → Type 0
  HaveSentBlock is_shared division usage block before after = HaveSent is_shared before after (λ account. postings_in division usage account block)

  -- each has sent the postings of its account on the lines of these blocks, in this order, and then the end mark
  abbrev pub HaveSentBlocksAndEnded : (is_shared : Bool) → (UsageLine → List (ℕ × ℤ)) → List UsageLine → (blocks : List ℕ) → (before after : List (SenderView Name)) → Type 0
  HaveSentBlocksAndEnded is_shared division usage blocks before after = HaveEnded is_shared before after (λ account. postings_of division usage account blocks)

  -- What was ever sent to each of so many accounts is its list on the lines of these blocks: the postings, and the end mark.
  abbrev pub HaveSentTheirLists : (accounts : ℕ) → (UsageLine → List (ℕ × ℤ)) → List UsageLine → (blocks : List ℕ) → List (SenderView Name) → Type 0
  HaveSentTheirLists accounts division usage blocks senders =
      (account : ℕ) (s : SenderView Name) → account < accounts → (slice_index_or senders account s).sent ≡ list_of division usage account blocks

  -- The same of the sender of a pool.
  abbrev pub HasSentEachList : (accounts : ℕ) → (UsageLine → List (ℕ × ℤ)) → List UsageLine → (blocks : List ℕ) → PoolSenderView Name → Type 0
  HasSentEachList accounts division usage blocks sender = (account : ℕ) → account < accounts → sender.sent account ≡ list_of division usage account blocks

  -- it is a sender of the same pool, with the same mailboxes and number
  abbrev pub IsSameSender : (old new : PoolSenderView Name) → Type 0
  IsSameSender old new = (new.pool ≡ old.pool) × (new.mailboxes ≡ old.mailboxes) × (new.number ≡ old.number)
