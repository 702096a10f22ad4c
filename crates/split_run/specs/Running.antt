-- What the threads of a run give back, and what is made of it.
use Rattle.std.specs.Prelude.{Bool, IfSome, ℕ, ℤ, ◌≡◌, ◌<◌, ◌%◌, List, [], None, Option, Some, cond, length, nat_lt, slice_index_or, true}
use Rattle.line_split.specs.UsageLine.{UsageLine}
use Rattle.block_draw.specs.Views.{DrawView, DrawerView, drawer_of}
use Rattle.mail_box.specs.Mails.{Begins, ReceiverView, SenderView, with_sender}
use Rattle.split_run.specs.Blocks.{list_of}
use Rattle.split_run.specs.Opening.{AreDealt}
use Rattle.split_run.specs.Working.{HaveSentBlocksAndEnded}
use Rattle.split_run.specs.Reading.{AreServed, IsServed, inboxes_by}
use Rattle.split_run.specs.declared.reading.ReaderResult.{ReaderResult}
use Rattle.split_run.specs.declared.running.opening.Worker.{Worker}
use Rattle.split_run.specs.declared.running.starting.WorkerPromise.{WorkerPromise}
use Rattle.split_run.specs.declared.running.starting.WorkerResult.{WorkerResult}
use Rattle.split_run.specs.declared.working.Inputs.{Inputs}

-- Each of these goes with what the other list has at its place.
abbrev pub EachGoesWith : {A B : Type 0} → (A → B → Type 0) → List A → List B → Type 0
EachGoesWith says all others = (number : ℕ) (d : _) (e : _) → number < length all → says (slice_index_or all number e) (slice_index_or others number d)

-- What was given back for each of these: where there is something, it is as this says of the one at its place.
abbrev pub AreGivenFor : {A B : Type 0} → (A → B → Type 0) → List A → List (Option B) → Type 0
AreGivenFor says all given = (length given ≡ length all) × EachGoesWith (λ one back. IfSome back (says one)) all given

-- What the first so many gave back: where there is something, it is as this says of its number.
abbrev pub EachGiven : {A : Type 0} → (count : ℕ) → (ℕ → A → Type 0) → List (Option A) → Type 0
EachGiven count says given = (number : ℕ) (d : _) → number < count → IfSome (slice_index_or given number d) (says number)

-- a drawer of the same draw, with the same number
abbrev pub IsSameDrawer : (old new : DrawerView) → Type 0
IsSameDrawer old new = (new.draw ≡ old.draw) × (new.number ≡ old.number) × (new.blocks ≡ old.blocks)

-- what is there, or else the other
abbrev pub or_else : {A : Type 0} → Option A → Option A → Option A
or_else None other = other
or_else (Some x) other = Some x

-- at each place there is what was put there, or else what was there before
abbrev pub ArePutIn : {A : Type 0} → (more before after : List (Option A)) → Type 0
ArePutIn more before after =
    (account : ℕ) → account < length before → slice_index_or after account None ≡ or_else (slice_index_or more account None) (slice_index_or before account None)

module _ {B Sender Receiver Kept Gathered Name : Type 0} (is_shared : Bool) (senders_of : List Sender → List (SenderView Name)) where
  module _ (division : UsageLine → List (ℕ × ℤ)) (usage : List UsageLine) where
    -- A worker is done: its drawer has found that no block is left, and its senders have sent what the blocks come to
    -- that it drew, and have ended.
    pub record HasWorked (worker : Worker B Sender Receiver Kept Gathered) (worked : WorkerResult B Sender Receiver Kept Gathered) : Type 0 where
      pub sent : HaveSentBlocksAndEnded is_shared division usage (drawer_of worked.drawer).drawn (senders_of worker.senders.items) (senders_of worked.senders.items)
      pub same : ((drawer_of worked.drawer).draw ≡ (drawer_of worker.drawer).draw) × ((drawer_of worked.drawer).number ≡ (drawer_of worker.drawer).number)
      pub done : (drawer_of worked.drawer).is_done ≡ true

module _ {B Sender Receiver Kept Gathered : Type 0} where
  -- what a worker's thread promises is of the lines of these inputs
  abbrev pub IsPromisedOf : Inputs → WorkerPromise B Sender Receiver Kept Gathered → Type 0
  IsPromisedOf inputs promise =
      (promise.tis.value ≡ inputs.tis.now) × (promise.registry.value ≡ inputs.registry.now) × (promise.usage.value ≡ inputs.usage.now)

module _ {Name : Type 0} where
  -- What the first so many readers gave back, put together: of the accounts that were dealt to them, the mailboxes and the statements.
  pub record AreMerged (workers readers done : ℕ) (opened now : List (Option (ReceiverView Name))) (book : List (List (ℕ × ℤ))) : Type 0 where
    pub count : length now ≡ length opened
    pub accounts : length book ≡ length opened
    pub each : (account : ℕ) → account < length opened
        → IsServed workers true (cond (nat_lt (account % readers) done) (slice_index_or opened account None) None) (slice_index_or now account None) workers
        (slice_index_or book account [])

  -- what a reader gave back, of those that were dealt to it
  abbrev pub IsGivenBack : (workers readers reader : ℕ) → (opened now : List (Option (ReceiverView Name))) → List (List (ℕ × ℤ)) → Type 0
  IsGivenBack workers readers reader opened now book =
      (dealt : List (Option (ReceiverView Name))) × AreDealt readers reader opened dealt × AreServed workers dealt now book

  -- There is a receiver of each of so many accounts, and it belongs to it.
  abbrev pub AllBelong : (belongs : ℕ → ReceiverView Name → Type 0) → (accounts : ℕ) → List (Option (ReceiverView Name)) → Type 0
  AllBelong belongs accounts inboxes =
      (account : ℕ) → account < accounts → (inbox : ReceiverView Name) × (slice_index_or inboxes account None ≡ Some inbox) × belongs account inbox

  -- Each mailbox may take in the sender of its account: it is of this mailbox, and has ended.
  abbrev pub MayTakeIn : (inboxes : List (Option (ReceiverView Name))) → (senders : List (SenderView Name)) → Type 0
  MayTakeIn inboxes senders = (account : ℕ) (s : SenderView Name) → account < length inboxes → (r : ReceiverView Name)
      × (slice_index_or inboxes account None ≡ Some r)
      × ((slice_index_or senders account s).mailbox ≡ r.mailbox)
      × ((slice_index_or senders account s).is_ended ≡ true)

  -- Each mailbox has taken in the sender of its account: it is known what this sender sent, and that what was received
  -- of it is how that begins.
  abbrev pub HaveTakenInEach : (before : List (Option (ReceiverView Name))) → (senders : List (SenderView Name)) → (after : List (Option (ReceiverView Name))) → Type 0
  HaveTakenInEach before senders after =
      (account : ℕ) (s : SenderView Name) (r : ReceiverView Name) → account < length before → slice_index_or before account None ≡ Some r
      → (slice_index_or after account None ≡ Some (with_sender r (slice_index_or senders account s)))
      × Begins (with_sender r (slice_index_or senders account s))

  -- What a worker gave back may be taken in: its senders have ended, each at the mailbox of its account, and its drawer
  -- is one of this draw and has found that no block is left.
  pub record MayBeTakenIn (draw : DrawView) (drawer : DrawerView) (inboxes : List (Option (ReceiverView Name))) (senders : List (SenderView Name)) : Type 0 where
    pub some : 0 < length inboxes
    pub count : length senders ≡ length inboxes
    pub ended : MayTakeIn inboxes senders
    pub same : drawer.draw ≡ draw.draw
    pub done : drawer.is_done ≡ true

module _ {Name : Type 0} (division : UsageLine → List (ℕ × ℤ)) (usage : List UsageLine) where
  -- There is a mailbox for each account, and the senders that a worker gave back belong to these; each has sent the
  -- worker's list for its account.
  pub record AreGivenBack (worker : ℕ) (drawn : List ℕ) (inboxes : List (Option (ReceiverView Name))) (senders : List (SenderView Name)) : Type 0 where
    pub count : length senders ≡ length inboxes
    pub each : (account : ℕ) (s : SenderView Name) → account < length inboxes → (r : ReceiverView Name) × (slice_index_or inboxes account None ≡ Some r)
        × ((slice_index_or senders account s).mailbox ≡ r.mailbox) × ((slice_index_or senders account s).number ≡ worker) × ((slice_index_or senders account s).is_ended ≡ true)
        × ((slice_index_or senders account s).sent ≡ list_of division usage account drawn)

  -- What a worker gave back: those senders, and the drawer of its number of this draw, which has found that no block is left.
  pub record IsWorkOf (draw : DrawView) (worker : ℕ) (drawer : DrawerView) (inboxes : List (Option (ReceiverView Name))) (senders : List (SenderView Name)) : Type 0 where
    pub sent : AreGivenBack worker drawer.drawn inboxes senders
    pub same : (drawer.draw ≡ draw.draw) × (drawer.number ≡ worker)
    pub done : drawer.is_done ≡ true

  -- Each mailbox has taken in its sender of the first so many workers, which have drawn these blocks, and has received what it had.
  pub record AreTakenIn (drawn : ℕ → List ℕ) (done : ℕ) (before after : List (Option (ReceiverView Name))) : Type 0 where
    pub count : length after ≡ length before
    pub each : (account : ℕ) (r : ReceiverView Name) → account < length before → slice_index_or before account None ≡ Some r
        → (now : ReceiverView Name) × (slice_index_or after account None ≡ Some now) × (now.mailbox ≡ r.mailbox) × (now.got ≡ r.got)
        × ((worker : ℕ) → worker < done → now.known worker ≡ Some (list_of division usage account (drawn worker))) × (0 < done → Begins now)

module _ {B Sender Receiver Kept Gathered Name : Type 0} where
  -- what the reader of a number gave back, of the mailboxes as they were opened
  abbrev pub IsReadBy : (Receiver → ReceiverView Name) → (workers readers : ℕ) → (opened : List (Option Receiver)) → (reader : ℕ) → ReaderResult B Sender Receiver Kept Gathered → Type 0
  IsReadBy receiver workers readers opened reader result =
      IsGivenBack workers readers reader (inboxes_by receiver opened) (inboxes_by receiver result.inboxes.items) result.book

module _ {B Sender Receiver Kept Gathered Name : Type 0} (senders_of : List Sender → List (SenderView Name)) (division : UsageLine → List (ℕ × ℤ)) (usage : List UsageLine) where
  -- what the worker of a number gave back, of this draw and these mailboxes
  abbrev pub IsWorkBy : DrawView → List (Option (ReceiverView Name)) → (worker : ℕ) → WorkerResult B Sender Receiver Kept Gathered → Type 0
  IsWorkBy draw inboxes worker result = IsWorkOf division usage draw worker (drawer_of result.drawer) inboxes (senders_of result.senders.items)
