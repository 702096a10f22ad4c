-- What two senders post to two mailboxes, and what is received of it.
use Rattle.std.specs.Prelude.{ℕ, unsigned_abs, ◌≡◌, ◌<◌, ◌≤◌, ◌==◌, ◌++◌, ◌∷◌, [], All, List, MatchOption, false, filter, length, map}
use Rattle.queue_core.specs.declared.item.Item.{Item}
use Rattle.queue_core.specs.declared.item.Item.TheVariants.{End, Post}
use Rattle.queue_core.specs.Endings.{HasEnd}
use Rattle.pool_box.specs.Pools.{HasEndedEverywhere, HasGained, ReceiverView, SenderView, TallyView}
use Rattle.pool_relay.specs.declared.posting.Posting.{Posting}

-- the line and the amount of a post are within the limits
abbrev pub IsPostable : Posting → Type 0
IsPostable posting = (posting.line ≤ 999999) × (0 < unsigned_abs posting.amount) × (unsigned_abs posting.amount ≤ 1000000000000)

-- posts to two mailboxes, whose lines and amounts are within the limits
abbrev pub ArePostable : List Posting → Type 0
ArePostable posts = All (λ posting. (posting.mailbox < 2) × IsPostable posting) posts

-- the posts of a mailbox, in order
abbrev pub posts_to : (mailbox : ℕ) → List Posting → List Item
posts_to mailbox posts = map (λ posting. Post posting.line posting.amount) (filter (λ posting. mailbox == posting.mailbox) posts)

-- what a sender sends to a mailbox that posts these and ends there
abbrev pub closed : (mailbox : ℕ) → List Posting → List Item
closed mailbox posts = posts_to mailbox posts ++ End ∷ []

module _ {Name : Type 0} where
  -- a sender of two mailboxes that has sent nothing, and may post all these
  abbrev pub IsFreshFor : SenderView Name → List Posting → Type 0
  IsFreshFor sender posts =
      (sender.mailboxes ≡ 2)
      × ((mailbox : ℕ) → (sender.is_ended mailbox ≡ false) × (sender.sent mailbox ≡ []))
      × (length posts ≤ sender.left)
      × ArePostable posts

  -- the second sender is the first after these posts and the end marks
  abbrev pub HasPosted : SenderView Name → SenderView Name → List Posting → Type 0
  HasPosted old new posts = (new.pool ≡ old.pool) × (new.number ≡ old.number) × HasEndedEverywhere new × ((mailbox : ℕ) → mailbox < 2 → new.sent mailbox ≡ closed mailbox posts)

  -- the second receiver is the first after an item of this sender
  abbrev pub HasReceived : ReceiverView Name → ReceiverView Name → (sender : ℕ) → Item → Type 0
  HasReceived old new sender item = HasGained old new (record { pool = old.pool; mailbox = old.mailbox; sender = sender; item = item })

  -- the second receiver has the end marks of two senders
  abbrev pub HasReceivedBoth : ReceiverView Name → ReceiverView Name → Type 0
  HasReceivedBoth old new = (new.pool ≡ old.pool) × (new.mailbox ≡ old.mailbox) × HasEnd (new.got 0) × HasEnd (new.got 1)

  -- a receiver was gathered that received these items of this sender in this mailbox, and no others
  abbrev pub HasGot : TallyView Name → (mailbox sender : ℕ) → List Item → Type 0
  HasGot tally mailbox sender items = MatchOption (tally.got mailbox) ⊥ (λ got. got sender ≡ items)
