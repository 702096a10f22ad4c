-- What a run opens before it starts a thread.
use Rattle.std.specs.Prelude.{Bool, ℕ, ◌≡◌, ◌+◌, ◌<◌, ◌≤◌, ◌%◌, ◌==◌, ◌++◌, ◌∷◌, [], List, None, Option, Some, Vec, cond, length, map, nat_lt, slice_index_or}
use Rattle.std.specs.declared.alloc.Global.{Global}
use Rattle.line_split.specs.declared.TheConstants.{MOST_CLAIMS}
use Rattle.block_draw.specs.Views.{DrawView, DrawerView, drawer_of, opened_draw, opened_drawer}
use Rattle.queue_core.specs.declared.item.Item.{Item}
use Rattle.mail_box.specs.Mails.{ReceiverView, SenderView, opened_receiver, opened_sender}
use Rattle.split_run.specs.Blocks.{blocks_of}
use Rattle.split_run.specs.Sending.{AreFresh, AreReadyFor}
use Rattle.split_run.specs.Reading.{inboxes_by, with_got}
use Rattle.split_run.specs.declared.reading.Reader.{Reader}
use Rattle.split_run.specs.declared.running.opening.Worker.{Worker}

-- a draw of the blocks of so many lines by so many drawers, as it was opened
abbrev pub IsOpenedDraw : (lines drawers : ℕ) → DrawView → Type 0
IsOpenedDraw lines drawers draw = draw ≡ opened_draw draw.draw (blocks_of lines) drawers

-- a drawer of the blocks of so many lines that has drawn none yet
abbrev pub IsFresh : ℕ → DrawerView → Type 0
IsFresh lines drawer = (drawer.blocks ≡ blocks_of lines) × (drawer.drawn ≡ [])

-- each list has one sender more, the one at its place
pub record HaveOneMore {S : Type 0} (before : List (List S)) (senders : List S) (after : List (List S)) : Type 0 where
  pub count : length after ≡ length before
  pub each : (worker : ℕ) (s : S) → worker < length before
      → slice_index_or after worker [] ≡ slice_index_or before worker [] ++ slice_index_or senders worker s ∷ []

-- the items of each list
abbrev pub items_of : {S : Type 0} → List (Vec S Global) → List (List S)
items_of lists = map (λ list. list.items) lists

-- the lists of all workers, each as a clause sees what this worker sends by
abbrev pub lists_by : {Sender Name : Type 0} → (List Sender → List (SenderView Name)) → List (Vec Sender Global) → List (List (SenderView Name))
lists_by senders_of lists = map (λ list. senders_of list.items) lists

module _ {Name : Type 0} where
  -- the senders of a worker before it starts: one for each account, with room for the postings of every line
  abbrev pub AreForWork : (is_shared : Bool) → (accounts lines : ℕ) → List (SenderView Name) → Type 0
  AreForWork is_shared accounts lines senders = (length senders ≡ accounts) × AreFresh senders × AreReadyFor is_shared senders lines

  -- A mailbox for each account: its receiver, and for each worker a list of the senders, in order of account.
  pub record AreMailboxes (workers accounts nodes most : ℕ) (senders : List (List (SenderView Name))) (inboxes : List (Option (ReceiverView Name))) : Type 0 where
    pub count : length senders ≡ workers
    pub places : length inboxes ≡ accounts
    pub whole : (worker : ℕ) → worker < workers → length (slice_index_or senders worker []) ≡ accounts
    pub each : (account : ℕ) → account < accounts → (mailbox : Name) × (slice_index_or inboxes account None ≡ Some (opened_receiver mailbox workers))
        × ((worker : ℕ) (s : SenderView Name) → worker < workers
        → slice_index_or (slice_index_or senders worker []) account s ≡ opened_sender mailbox worker nodes most)

  -- Each receiver belongs to its account, and it will whatever it gets.
  abbrev pub BelongWhateverTheyGet : (belongs : ℕ → ReceiverView Name → Type 0) → List (Option (ReceiverView Name)) → Type 0
  BelongWhateverTheyGet belongs inboxes =
      (account : ℕ) (inbox : ReceiverView Name) (got : ℕ → List Item) → slice_index_or inboxes account None ≡ Some inbox → belongs account (with_got inbox got)

module _ {B Sender Receiver Kept Gathered : Type 0} where
  -- a worker has room for the division of a line
  abbrev pub HasRoom : Worker B Sender Receiver Kept Gathered → Type 0
  HasRoom worker = (MOST_CLAIMS ≤ worker.claims.room) × (MOST_CLAIMS + 1 ≤ worker.portions.room)

  -- Each of the first so many workers has the drawer of its number, as it was opened with this draw of the blocks of so many lines.
  abbrev pub HaveTheirDrawers : DrawView → (lines count : ℕ) → List (Worker B Sender Receiver Kept Gathered) → Type 0
  HaveTheirDrawers draw lines count workers =
      (number : ℕ) (d : _) → number < count → drawer_of (slice_index_or workers number d).drawer ≡ opened_drawer draw.draw (blocks_of lines) number

module _ {B Sender Receiver Kept Gathered Name : Type 0} where
  -- what each worker sends by, as a clause sees it
  abbrev pub senders_by : (List Sender → List (SenderView Name)) → List (Worker B Sender Receiver Kept Gathered) → List (List (SenderView Name))
  senders_by senders_of workers = map (λ worker. senders_of worker.senders.items) workers

module _ {B Sender Receiver Kept Gathered Name : Type 0} (is_shared : Bool) (senders_of : List Sender → List (SenderView Name)) where
  -- A worker may start: it has a sender for each account, with room for the postings of every line, a drawer of the
  -- blocks of so many lines, and room for the division of a line.
  pub record IsReady (accounts lines : ℕ) (worker : Worker B Sender Receiver Kept Gathered) : Type 0 where
    pub senders : AreForWork is_shared accounts lines (senders_of worker.senders.items)
    pub drawer : IsFresh lines (drawer_of worker.drawer)
    pub room : HasRoom worker

-- those of the accounts whose number leaves this one, when it is divided by so many
pub record AreDealt {A : Type 0} (readers reader : ℕ) (all own : List (Option A)) : Type 0 where
  pub count : length own ≡ length all
  pub each : (account : ℕ) → account < length all → slice_index_or own account None ≡ cond (reader == account % readers) (slice_index_or all account None) None

-- what is left of them where they were dealt to the first so many
pub record AreLeft {A : Type 0} (readers dealt : ℕ) (all left : List (Option A)) : Type 0 where
  pub count : length left ≡ length all
  pub each : (account : ℕ) → account < length all → slice_index_or left account None ≡ cond (nat_lt (account % readers) dealt) None (slice_index_or all account None)

-- those of the other accounts are left
abbrev pub OthersAreLeft : {A : Type 0} → (readers reader : ℕ) → (all left : List (Option A)) → Type 0
OthersAreLeft readers reader all left =
    (account : ℕ) → account < length all → slice_index_or left account None ≡ cond (reader == account % readers) None (slice_index_or all account None)

module _ {B Sender Receiver Kept Gathered Name : Type 0} (receiver : Receiver → ReceiverView Name) where
  -- the receivers are dealt out: so many readers have each those of its accounts, as they were opened
  abbrev pub AreDealtOut : (count : ℕ) → List (Option (ReceiverView Name)) → List (Reader B Sender Receiver Kept Gathered) → Type 0
  AreDealtOut count inboxes readers =
      (reader : ℕ) (d : _) → reader < count → AreDealt count reader inboxes (inboxes_by receiver (slice_index_or readers reader d).opened.value.items)
