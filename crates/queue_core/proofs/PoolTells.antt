-- What the loads of a pool find, and what is given back in it.
use Rattle.std.proofs.Common.{◌≡◌, ◌∙◌, true, sym}
use Rattle.std.proofs.lemmas.Bool.{eqb-true, false≢true}
use Rattle.queue_core.specs.declared.entry.Entry.TheVariants.{Of}
use Rattle.queue_core.specs.Mailbox.{is_among, left_entries}
use Rattle.queue_core.specs.StoredWords.{link_to}
use Rattle.queue_core.specs.Box.{IsStanding}
use Rattle.queue_core.specs.Pooled.{head_in, reader_in}
use Rattle.queue_core.specs.PoolShows.{box_in}
use Rattle.queue_core.specs.PoolLaws.{PoolGiveBackTells, PoolHeadTells, PoolHeldTells}
use Rattle.queue_core.proofs.BoxFrame.{left_stands}
use Rattle.queue_core.proofs.BoxReads.{first_stub, one_left}
use Rattle.queue_core.proofs.Entries.{alone, among_first}
use Rattle.queue_core.proofs.LeftLemmas.{left_unpassed}
use Rattle.queue_core.proofs.MailboxHolds.{item_within}
use Rattle.queue_core.proofs.PoolKept.{apart_here, holds_in}
use Rattle.queue_core.proofs.PoolNodes.{apart_in}

pub head_tells : PoolHeadTells
head_tells events q c b ok leads shows low is last =
    let holds = holds_in c ok events q leads shows b low b in
    let apart = apart_here c ok events q leads shows b low in
    alone (left_entries (q.boxes b)) (one_left c.ring (q.boxes b) holds (box_in c q b) (shows.boxes b low) apart (eqb-true (head_in c b) (link_to (reader_in c b).tail) last))
    (first_stub c.ring (q.boxes b) holds (box_in c q b) (shows.boxes b low) apart is)

pub held_tells : PoolHeldTells
held_tells events q c b p k ok leads shows low held = (shows.boxes b low).kept p k (among_first (Of p k) (q.boxes b).passed (q.boxes b).order held.passed) held.kept

pub give_back_tells : PoolGiveBackTells
give_back_tells events q c b p k ok leads shows low held d d_low entry left same =
    let here = holds_in c ok events q leads shows b low b in
    let there = holds_in c ok events q leads shows b low d in
    let stands : IsStanding (q.boxes b) (Of p k) = (item_within (q.boxes b) p (here.turns p) k (among_first (Of p k) (q.boxes b).passed (q.boxes b).order held.passed), held.kept) in
    let one = apart_in events q c ok leads shows d b d_low low entry (Of p k) (left_stands c.ring (q.boxes d) there entry left) stands same in
    let its : is_among (Of p k) (left_entries (q.boxes b)) ≡ true = (λ t. is_among (sym one.1 t) (left_entries (q.boxes (sym one.0 t)))) ∙ left in
    false≢true (sym (left_unpassed c.ring (q.boxes b) here p k its) ∙ held.passed)
