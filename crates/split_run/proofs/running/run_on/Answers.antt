use Rattle.std.proofs.Common.{arith, [], ap, get_or, length, map, subst, sym, ◌<◌, ◌≡◌, ◌∙◌}
use Rattle.std.specs.Prelude.{option_map}
use Rattle.std.proofs.lemmas.List.{get_or-map, length-map}
use Rattle.std.proofs.lemmas.List.Elements.{All-get_or}
use Rattle.std.proofs.lemmas.Option.{IfSome_then}
use Rattle.payee_book.specs.Statement.{IsRising}
use Rattle.block_draw.specs.Drawn.{AreDrawnOnce}
use Rattle.block_draw.specs.Views.{DrawerView, draw_of, drawer_of}
use Rattle.split_run.specs.Blocks.{blocks_of, postings_of}
use Rattle.split_run.specs.Divisions.{division_by}
use Rattle.split_run.specs.Reading.{AreServed, inboxes_by}
use Rattle.split_run.specs.Running.{AreMerged, AreTakenIn}
use Rattle.split_run.specs.Sending.{HaveEnded}
use Rattle.split_run.proofs.AddsUp.{adds_up}
use Rattle.split_run.proofs.DivisionLemmas.{some_accounts}
use Rattle.split_run.proofs.RunningLemmas.{given_back, given_there, is_book}
use Rattle.split_run.proofs.WorkingLemmas.{line_here}
use Rattle.split_run.proofs.running.run_on.Goals as goal

pub run_threads-requires-clause-taken : goal.run_threads-requires-clause-taken
run_threads-requires-clause-taken g c κs within = λ k d low.
    let taken = c.in_ok-draw.ensures.taken.1 k d low in
    (taken.0 ∙ sym c.in_ok-draw.ensures.ready.0, taken.1)

pub merge_all-requires-clause-count : goal.merge_all-requires-clause-count
merge_all-requires-clause-count g c κs within = (
  sym (length-map c.in_ok-draw.opened.value.items (option_map g.B.Mailboxes.receiver)) ∙ (c.in_ok-draw.ensures.mailboxes.places ∙ sym c.accounts-accounts.ensures.accounts),
  c.in-Some.ensures.read.0 ∙ c.in_ok-draw.ensures.taken.0,
)

pub merge_all-requires-clause-read : goal.merge_all-requires-clause-read
merge_all-requires-clause-read g c κs within = λ number d lt.
    let readers = c.in_ok-draw.readers.items in
    let inside : number < length readers = omega (arith, lt, c.in_ok-draw.ensures.taken.0) in
    let first = (line_here readers number inside).0 in
    IfSome_then (get_or c.in-Some.read.items number d) (c.in-Some.ensures.read.1 number d first inside) (λ reader served. (
      inboxes_by g.B.Mailboxes.receiver (get_or readers number first).opened.value.items,
      c.in_ok-draw.ensures.dealt number first lt,
      subst (λ n. AreServed n (inboxes_by g.B.Mailboxes.receiver (get_or readers number first).opened.value.items) (inboxes_by g.B.Mailboxes.receiver reader.inboxes.items) reader.book) (c.in_ok-draw.ensures.taken.1 number first inside).0 served,
    ))

pub gather-gathered-requires : goal.gather-gathered-requires
gather-gathered-requires g c = λ account lt.
    let workers = c.plan.inside.workers in
    given_there g.B.Mailboxes.is_shared workers (length c.args.inputs.registry.now.accounts) c.plan.inside.nodes (length c.args.inputs.usage.now) (map (λ worker. g.B.Mailboxes.senders worker.senders.items) c.in_ok-draw.jobs.items)
    (inboxes_by g.B.Mailboxes.receiver c.in_ok-draw.opened.value.items) c.in_ok-draw.ensures.mailboxes c.plan.inside.readers (inboxes_by g.B.Mailboxes.receiver c.in_ok-inboxes.inboxes.items)
    c.in_ok-inboxes.book c.plan.invariant.readers.0 c.in_ok-inboxes.ensures (g.B.Mailboxes.belongs c.in_ok-draw.kept) c.in_ok-draw.ensures.kept account (omega (arith, lt, length-map c.in_ok-inboxes.inboxes.items (option_map g.B.Mailboxes.receiver)))

pub take_in_all-requires-clause-some : goal.take_in_all-requires-clause-some
take_in_all-requires-clause-some g c κs within = (
  omega (arith, c.in-Some.ensures.worked.0, c.in_ok-draw.ensures.ready.0, c.plan.invariant.workers.0),
  omega (arith, ap length c.gather-gathered.ensures, c.in_ok-inboxes.ensures.count, c.in_ok-draw.ensures.mailboxes.places, some_accounts c.args.inputs.registry.now c.accounts-accounts.ensures.sound),
)

pub take_in_all-requires-clause-worked : goal.take_in_all-requires-clause-worked
take_in_all-requires-clause-worked g c κs within = λ worker d lt.
    let division = division_by c.args.inputs.tis.now c.args.inputs.registry.now in
    let usage = c.args.inputs.usage.now in
    let workers = c.plan.inside.workers in
    let before = g.B.Mailboxes.gathered c.gather-gathered.result in
    let jobs = c.in_ok-draw.jobs.items in
    let lists = map (λ worker. g.B.Mailboxes.senders worker.senders.items) jobs in
    let inside : worker < length jobs = omega (arith, lt, c.in-Some.ensures.worked.0) in
    let low : worker < workers = omega (arith, inside, c.in_ok-draw.ensures.ready.0) in
    let first = (line_here jobs worker inside).0 in
    let own : g.B.Mailboxes.senders (get_or jobs worker first).senders.items ≡ get_or lists worker [] = sym (get_or-map (λ worker. g.B.Mailboxes.senders worker.senders.items) jobs worker first [] inside) in
    let opened_as = c.in_ok-draw.ensures.drawers worker first low in
    let merged =
    subst (λ l. AreMerged workers c.plan.inside.readers c.plan.inside.readers (inboxes_by g.B.Mailboxes.receiver c.in_ok-draw.opened.value.items) l c.in_ok-inboxes.book)
    (sym c.gather-gathered.ensures) c.in_ok-inboxes.ensures in
    IfSome_then (get_or c.in-Some.worked.items worker d) (c.in-Some.ensures.worked.1 worker d first inside) (λ those worked. record {
      sent = given_back g.B.Mailboxes.is_shared workers (length c.args.inputs.registry.now.accounts) c.plan.inside.nodes (length usage) lists (inboxes_by g.B.Mailboxes.receiver c.in_ok-draw.opened.value.items) c.in_ok-draw.ensures.mailboxes c.plan.inside.readers before
          c.in_ok-inboxes.book c.plan.invariant.readers.0 merged division usage worker (drawer_of those.drawer).drawn (g.B.Mailboxes.senders those.senders.items) low
          (subst (λ l. HaveEnded g.B.Mailboxes.is_shared l (g.B.Mailboxes.senders those.senders.items) (λ account. postings_of division usage account (drawer_of those.drawer).drawn)) own worked.sent);
      same = (worked.same.0 ∙ ap (λ (v : DrawerView). v.draw) opened_as, worked.same.1 ∙ ap (λ (v : DrawerView). v.number) opened_as);
      done = worked.done;
    })

pub returns-clause-book : goal.returns-clause-book
returns-clause-book g c =
    let division = division_by c.args.inputs.tis.now c.args.inputs.registry.now in
    let opened = inboxes_by g.B.Mailboxes.receiver c.in_ok-draw.opened.value.items in
    let draw = draw_of c.take_in_all.new.draw in
    let workers = c.plan.inside.workers in
    let before = g.B.Mailboxes.gathered c.gather-gathered.result in
    let after = g.B.Mailboxes.gathered c.take_in_all.new.inboxes in
    let all : length c.in-Some.worked.items ≡ workers = c.in-Some.ensures.worked.0 ∙ c.in_ok-draw.ensures.ready.0 in
    let merged =
    subst (λ l. AreMerged workers c.plan.inside.readers c.plan.inside.readers opened l c.in_ok-inboxes.book) (sym c.gather-gathered.ensures) c.in_ok-inboxes.ensures in
    is_book division c.args.inputs.usage.now draw.drawn workers c.plan.inside.readers (length c.args.inputs.registry.now.accounts) opened before after c.in_ok-inboxes.book
    c.plan.invariant.workers.0 c.plan.invariant.readers.0 c.in_ok-draw.ensures.mailboxes.places
    (λ account below. let own = c.in_ok-draw.ensures.mailboxes.each account below in (own.0, own.1)) merged (subst (λ n. AreTakenIn division c.args.inputs.usage.now draw.drawn n before after) all c.in_ok-take_in_all.ensures.taken)
    (subst (λ n. AreDrawnOnce n draw.drawn (blocks_of (length c.args.inputs.usage.now))) all c.in_ok-take_in_all.ensures.once)
    (λ account below. All-get_or IsRising c.in_ok-inboxes.book account [] (omega (arith, below, merged.accounts, c.in_ok-draw.ensures.mailboxes.places)) c.accounts.ensures.sound.rising)

pub returns-clause-adds_up : goal.returns-clause-adds_up
returns-clause-adds_up g c =
    adds_up c.args.inputs.tis.now c.args.inputs.registry.now c.args.inputs.usage.now c.in_ok-inboxes.book c.accounts-accounts.ensures.sound (returns-clause-book g c)
