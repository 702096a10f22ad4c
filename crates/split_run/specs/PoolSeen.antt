-- How the mailboxes of a pool are seen as mailboxes of their own: the end of a sender at each, and their receivers.
use Rattle.std.specs.Prelude.{ℕ, ◌≡◌, ◌∷◌, [], List, None, Option, map, option_map}
use Rattle.std.specs.List.{range_with_len}
use Rattle.queue_core.specs.declared.item.Item.{Item}
use Rattle.mail_box.specs.Mails.{ReceiverView, SenderView}
use Rattle.pool_box.specs.Pools.{ReceiverView as PoolReceiverView, SenderView as PoolSenderView, TallyView, opened_tally}
use Rattle.split_run.specs.declared.mailboxes.pooled.GatheredPool.{GatheredPool}

module _ {Name : Type 0} where
  -- a sender at the mailbox of an account; its posts left are those for all mailboxes
  abbrev pub sender_at : PoolSenderView Name → (account : ℕ) → SenderView (Name × ℕ)
  sender_at s account = record { mailbox = (s.pool, account); number = s.number; nodes = s.nodes; left = s.left; is_ended = s.is_ended account; sent = s.sent account }

  -- at the mailbox of each account
  abbrev pub senders_at : PoolSenderView Name → List (SenderView (Name × ℕ))
  senders_at s = map (sender_at s) (range_with_len 0 s.mailboxes)

  -- a receiver, which takes in nobody: its pool's tally does
  abbrev pub inbox_of : PoolReceiverView Name → ReceiverView (Name × ℕ)
  inbox_of r = record { mailbox = (r.pool, r.mailbox); senders = r.senders; got = r.got; known = λ worker. None }

  -- a receiver of the mailbox of this account, of a pool that so many workers send to and whose tally was just opened
  abbrev pub belongs_to : TallyView Name → (workers account : ℕ) → ReceiverView (Name × ℕ) → Type 0
  belongs_to tally workers account inbox = (tally ≡ opened_tally tally.pool) × (inbox.mailbox ≡ (tally.pool, account)) × (inbox.senders ≡ workers) × (inbox.known ≡ (λ worker. None))

  -- what the tally knows of a worker in the mailbox of an account
  abbrev pub known_at : TallyView Name → (account worker : ℕ) → Option (List Item)
  known_at tally account worker = option_map (λ sent. sent account) (tally.known worker)

  -- the gathered receivers, each with what is known of the workers
  abbrev pub gathered_in : TallyView Name → (accounts workers : ℕ) → List (Option (ReceiverView (Name × ℕ)))
  gathered_in tally accounts workers =
      map (λ account. option_map (λ got. record { mailbox = (tally.pool, account); senders = workers; got = got; known = known_at tally account }) (tally.got account)) (range_with_len 0 accounts)

module _ {Receiver Name : Type 0} where
  -- what a receiver of a pool is seen as
  abbrev pub inbox_by : (Receiver → PoolReceiverView Name) → Receiver → ReceiverView (Name × ℕ)
  inbox_by receiver r = inbox_of (receiver r)

module _ {P Sender Receiver Held Tally Name : Type 0} where
  -- what the gathered receivers of a pool are seen as
  abbrev pub gathered_by : (Tally → TallyView Name) → GatheredPool P Sender Receiver Held Tally → List (Option (ReceiverView (Name × ℕ)))
  gathered_by tally all = gathered_in (tally all.tally) all.accounts all.workers

module _ {Sender Name : Type 0} where
  -- what a worker sends by, which is one sender of a pool
  abbrev pub senders_of : (Sender → PoolSenderView Name) → List Sender → List (SenderView (Name × ℕ))
  senders_of sender [] = []
  senders_of sender (s ∷ []) = senders_at (sender s)
  senders_of sender (s ∷ t ∷ more) = []
