use Rattle.std.proofs.Common.{None, arith, [], ℕ, ap, get_or, length, map, subst, sym, ◌<◌, ◌≡◌, ◌∙◌}
use Rattle.std.proofs.lemmas.List.{get_or-map, length-map}
use Rattle.block_draw.specs.Views.{DrawerView, draw_of, drawer_of, opened_draw, opened_drawer}
use Rattle.split_run.specs.Blocks.{blocks_of}
use Rattle.split_run.specs.Reading.{inboxes_by}
use Rattle.split_run.specs.Sending.{room_of}
use Rattle.split_run.specs.Opening.{AreDealt, AreForWork, AreMailboxes}
use Rattle.split_run.proofs.RunningLemmas.{for_work, mailboxes_as, untouched_mailbox}
use Rattle.split_run.proofs.WorkingLemmas.{line_here}
use Rattle.split_run.proofs.running.open_all.Goals as goal

pub workers_of-requires-after_bounds : goal.workers_of-requires-after_bounds
workers_of-requires-after_bounds g c κs within = omega (arith, c.in_ok-draw.ensures.count, c.in_ok-lists.ensures.mailboxes.count, length-map c.in_ok-lists.lists.items (λ own. g.B.Mailboxes.senders own.items))

pub readers_of-requires-clause-untouched : goal.readers_of-requires-clause-untouched
readers_of-requires-clause-untouched g c κs within = λ account lt.
    untouched_mailbox g.B.Mailboxes.is_shared c.args.workers (length c.args.inputs.registry.now.accounts) c.args.nodes (length c.args.inputs.usage.now) (map (λ worker. g.B.Mailboxes.senders worker.senders.items) c.in_ok-jobs.jobs.items)
    (inboxes_by g.B.Mailboxes.receiver c.in_ok-lists.receivers.items)
    (mailboxes_as g.B.Mailboxes.is_shared c.args.workers c.args.nodes c.accounts-accounts.result (length c.args.inputs.registry.now.accounts) c.len-lines.result (length c.args.inputs.usage.now) (map (λ own. g.B.Mailboxes.senders own.items) c.in_ok-lists.lists.items) (map (λ worker. g.B.Mailboxes.senders worker.senders.items) c.in_ok-jobs.jobs.items) (inboxes_by g.B.Mailboxes.receiver c.in_ok-lists.receivers.items) c.accounts-accounts.ensures.accounts c.len-lines.ensures.lines c.in_ok-jobs.ensures.senders c.in_ok-lists.ensures.mailboxes)
    account (omega (arith, lt, c.accounts-accounts.ensures.accounts))

-- the mailboxes are those of all accounts
mailboxes_there : (g : _) (c : goal.In_ok-readers g)
    → AreMailboxes c.args.workers (length c.args.inputs.registry.now.accounts) c.args.nodes (room_of g.B.Mailboxes.is_shared (length c.args.inputs.usage.now)) (map (λ worker. g.B.Mailboxes.senders worker.senders.items) c.in_ok-jobs.jobs.items) (inboxes_by g.B.Mailboxes.receiver c.in_ok-lists.receivers.items)
mailboxes_there g c =
    mailboxes_as g.B.Mailboxes.is_shared c.args.workers c.args.nodes c.accounts-accounts.result (length c.args.inputs.registry.now.accounts) c.len-lines.result (length c.args.inputs.usage.now) (map (λ own. g.B.Mailboxes.senders own.items) c.in_ok-lists.lists.items) (map (λ worker. g.B.Mailboxes.senders worker.senders.items) c.in_ok-jobs.jobs.items) (inboxes_by g.B.Mailboxes.receiver c.in_ok-lists.receivers.items) c.accounts-accounts.ensures.accounts c.len-lines.ensures.lines c.in_ok-jobs.ensures.senders c.in_ok-lists.ensures.mailboxes

-- as many workers as asked for
jobs_there : (g : _) (c : goal.In_ok-readers g) → length c.in_ok-jobs.jobs.items ≡ c.args.workers
jobs_there g c = sym (length-map c.in_ok-jobs.jobs.items (λ worker. g.B.Mailboxes.senders worker.senders.items)) ∙ (mailboxes_there g c).count

-- the drawer of each worker is the one that was opened with its number
drawn_by_none : (g : _) (c : goal.In_ok-readers g) → (number : ℕ) (d : _) → number < c.args.workers
    → drawer_of (get_or c.in_ok-jobs.jobs.items number d).drawer ≡ opened_drawer (draw_of c.in_ok-draw.draw).draw (blocks_of (length c.args.inputs.usage.now)) number
drawn_by_none g c number d lt =
    let e = (line_here c.in_ok-draw.drawers.items number (omega (arith, lt, c.in_ok-draw.ensures.count))).0 in
    ap drawer_of (c.in_ok-jobs.ensures.drawers number d e (omega (arith, lt, jobs_there g c, c.in_ok-jobs.ensures.count))) ∙ (c.in_ok-draw.ensures.drawers number lt e ∙ ap (λ (n : ℕ). opened_drawer (draw_of c.in_ok-draw.draw).draw (blocks_of n) number) c.len.ensures.lines)

pub returns-clause-draw : goal.returns-clause-draw
returns-clause-draw g c = c.in_ok-draw.ensures.draw ∙ ap (λ (n : ℕ). opened_draw (draw_of c.in_ok-draw.draw).draw (blocks_of n) c.args.workers) c.len.ensures.lines

pub returns-clause-drawers : goal.returns-clause-drawers
returns-clause-drawers g c = drawn_by_none g c

pub returns-clause-mailboxes : goal.returns-clause-mailboxes
returns-clause-mailboxes g c =
    let lists = map (λ worker. g.B.Mailboxes.senders worker.senders.items) c.in_ok-jobs.jobs.items in
    subst (λ v. AreMailboxes c.args.workers (length c.args.inputs.registry.now.accounts) c.args.nodes (room_of g.B.Mailboxes.is_shared (length c.args.inputs.usage.now)) lists (inboxes_by g.B.Mailboxes.receiver v.items)) (sym c.of-opened.ensures) (mailboxes_there g c)

pub returns-clause-kept : goal.returns-clause-kept
returns-clause-kept g c = λ account inbox got is.
    c.in_ok-lists.ensures.kept account inbox got (ap (λ v. get_or (inboxes_by g.B.Mailboxes.receiver v.items) account None) (sym c.of-opened.ensures) ∙ is)

pub returns-clause-ready : goal.returns-clause-ready
returns-clause-ready g c =
    let jobs = c.in_ok-jobs.jobs.items in
    let lists = map (λ worker. g.B.Mailboxes.senders worker.senders.items) jobs in
    let accounts = length c.args.inputs.registry.now.accounts in
    let lines = length c.args.inputs.usage.now in
    let count = jobs_there g c in (
      count,
      (λ k d low.
          let lt : k < c.args.workers = omega (arith, low, count) in
          let is = drawn_by_none g c k d lt in
          record {
            senders = subst (AreForWork g.B.Mailboxes.is_shared accounts lines) (get_or-map (λ worker. g.B.Mailboxes.senders worker.senders.items) jobs k d [] low)
                (for_work g.B.Mailboxes.is_shared c.args.workers accounts c.args.nodes lines lists (inboxes_by g.B.Mailboxes.receiver c.in_ok-lists.receivers.items) (mailboxes_there g c) k lt);
            drawer = (ap (λ (v : DrawerView). v.blocks) is, ap (λ (v : DrawerView). v.drawn) is);
            room = c.in_ok-jobs.ensures.room k d low;
          }),
    )

pub returns-clause-dealt : goal.returns-clause-dealt
returns-clause-dealt g c = λ reader d lt.
    subst (λ v. AreDealt c.args.readers reader (inboxes_by g.B.Mailboxes.receiver v.items) (inboxes_by g.B.Mailboxes.receiver (get_or c.in_ok-readers.readers.items reader d).opened.value.items)) (sym c.of-opened.ensures) (c.in_ok-readers.ensures.dealt reader d lt)
