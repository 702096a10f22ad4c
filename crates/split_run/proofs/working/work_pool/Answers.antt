use Rattle.std.proofs.Common.{arith, ap, get_or, length, List, map, subst, true, ◌++◌, ◌∷◌, [], ◌<◌, ◌∙◌, ℕ, ℤ}
use Rattle.std.proofs.lemmas.List.FromFn.{length-map-range_with_len}
use Rattle.block_draw.specs.Views.{drawer_of}
use Rattle.queue_core.specs.declared.item.Item.{Item}
use Rattle.queue_core.specs.declared.item.Item.TheVariants.{End, Post}
use Rattle.split_run.specs.Blocks.{postings_of}
use Rattle.split_run.specs.Divisions.{division_by}
use Rattle.split_run.specs.PoolSeen.{sender_at, senders_of}
use Rattle.split_run.specs.Sending.{HaveEnded}
use Rattle.split_run.proofs.DivisionLemmas.{some_accounts}
use Rattle.split_run.proofs.PooledLemmas.{at_account, ended_at, same_mailboxes}
use Rattle.split_run.proofs.working.work_pool.Goals as goal

pub work_on-requires-clause-accounts : goal.work_on-requires-clause-accounts
work_on-requires-clause-accounts g c κs within =
    let x = g.P.Pool.sender c.args.sender.now in
    let one = c.as_mut_slice-senders.ensures.value ∙ c.one_mut.ensures.value in
    ap (λ l. length (senders_of g.P.Pool.sender l)) one ∙ (length-map-range_with_len (sender_at x) 0 x.mailboxes ∙ c.requires.accounts)

pub work_on-requires-clause-ready : goal.work_on-requires-clause-ready
work_on-requires-clause-ready g c κs within = λ account s below.
    let x = g.P.Pool.sender c.args.sender.now in
    let one = c.as_mut_slice-senders.ensures.value ∙ c.one_mut.ensures.value in
    let size = length-map-range_with_len (sender_at x) 0 x.mailboxes in
    let lt = subst (λ l. account < length (senders_of g.P.Pool.sender l)) one below in
    let is = ap (λ l. get_or (senders_of g.P.Pool.sender l) account s) one ∙ at_account x account s lt in
    (ap (λ v. v.is_ended) is ∙ (c.requires.fresh account (omega (arith, lt, size, c.requires.accounts))).1, omega (arith, ap (λ v. v.left) is, c.requires.left))

pub returns-clause-sent : goal.returns-clause-sent
returns-clause-sent g c = λ yes account lt.
    let one = c.as_mut_slice-senders.ensures.value ∙ c.one_mut.ensures.value in
    let postings : ℕ → List (ℕ × ℤ) = λ account. postings_of (division_by c.args.tis.now c.args.registry.now) c.args.usage.now account (drawer_of c.work_on.new.drawer).drawn in
    let ended = subst (λ l. HaveEnded true (senders_of g.P.Pool.sender l) (senders_of g.P.Pool.sender c.work_on.new.senders) postings) one (c.work_on.ensures.ended yes) in
    let is = ended_at g.P.Pool.sender c.args.sender.now c.work_on.new.senders postings (omega (arith, lt, c.requires.accounts)) ended account (omega (arith, lt, c.requires.accounts)) in
    is.sent ∙ ap (λ (l : List Item). (l ++ map (λ (posting : ℕ × ℤ). Post posting.0 posting.1) (postings account)) ++ End ∷ []) (c.requires.fresh account lt).0

pub returns-clause-ended : goal.returns-clause-ended
returns-clause-ended g c = λ yes account lt.
    let one = c.as_mut_slice-senders.ensures.value ∙ c.one_mut.ensures.value in
    let some : 0 < (g.P.Pool.sender c.args.sender.now).mailboxes = omega (arith, some_accounts c.args.registry.now c.accounts.ensures.sound, c.requires.accounts) in
    let postings : ℕ → List (ℕ × ℤ) = λ account. postings_of (division_by c.args.tis.now c.args.registry.now) c.args.usage.now account (drawer_of c.work_on.new.drawer).drawn in
    let ended = subst (λ l. HaveEnded true (senders_of g.P.Pool.sender l) (senders_of g.P.Pool.sender c.work_on.new.senders) postings) one (c.work_on.ensures.ended yes) in
    (ended_at g.P.Pool.sender c.args.sender.now c.work_on.new.senders postings some ended account (omega (arith, lt, same_mailboxes g.P.Pool.sender c.args.sender.now c.work_on.new.senders postings some ended))).ended

pub returns-clause-same : goal.returns-clause-same
returns-clause-same g c = λ yes.
    let one = c.as_mut_slice-senders.ensures.value ∙ c.one_mut.ensures.value in
    let some : 0 < (g.P.Pool.sender c.args.sender.now).mailboxes = omega (arith, some_accounts c.args.registry.now c.accounts.ensures.sound, c.requires.accounts) in
    let postings : ℕ → List (ℕ × ℤ) = λ account. postings_of (division_by c.args.tis.now c.args.registry.now) c.args.usage.now account (drawer_of c.work_on.new.drawer).drawn in
    let ended = subst (λ l. HaveEnded true (senders_of g.P.Pool.sender l) (senders_of g.P.Pool.sender c.work_on.new.senders) postings) one (c.work_on.ensures.ended yes) in
    let is = ended_at g.P.Pool.sender c.args.sender.now c.work_on.new.senders postings some ended 0 some in
    (ap (λ p. p.0) is.mailbox, same_mailboxes g.P.Pool.sender c.args.sender.now c.work_on.new.senders postings some ended, is.number)
