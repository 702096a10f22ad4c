use Rattle.std.proofs.Common.{arith, length, map, subst, ℕ, ◌≡◌}
use Rattle.std.proofs.lemmas.List.{length-map}
use Rattle.split_run.specs.Reading.{inboxes_by}
use Rattle.split_run.specs.Opening.{AreMailboxes}
use Rattle.split_run.proofs.SeparateLemmas.{none_opened, one_opened}
use Rattle.split_run.proofs.mailboxes.separate.SeparateMailboxes.open.Goals as goal

pub loop-init : goal.loop-init
loop-init g c = rw c.new-inboxes.ensures.items (none_opened (λ own. own.items) g.M.Mail.sender c.args.workers c.args.nodes c.args.lines c.in_ok-lists.lists.items c.in_ok-lists.ensures)

pub loop-preserved : goal.loop-preserved
loop-preserved g c =
    let mailbox = c.in_ok-senders in
    let count : length mailbox.senders.items ≡ c.args.workers = omega (arith, mailbox.senders.ok.0, mailbox.ensures.count) in
    let enough : length mailbox.senders.items ≡ length c.loop.lists.items = omega (arith, count, c.loop.invariant.count, length-map c.loop.lists.items (λ own. map g.M.Mail.sender own.items)) in
    one_opened (λ own. own.items) g.M.Mail.sender g.M.Mail.receiver c.args.workers c.args.nodes c.args.lines c.loop.counter c.loop.lists.items c.hand_out.new.lists.items mailbox.senders.items c.loop.inboxes.items c.push.new.self.items mailbox.receiver
    c.loop.invariant enough c.in_ok-hand_out.ensures c.in_ok-push.ensures.items mailbox.ensures.receiver count mailbox.ensures.senders

pub returns-clause-mailboxes : goal.returns-clause-mailboxes
returns-clause-mailboxes g c =
    let all : c.loop.counter ≡ c.args.accounts = omega (arith, c.loop-test.false, c.loop.auto.counter-end) in
    subst (λ (n : ℕ). AreMailboxes c.args.workers n c.args.nodes c.args.lines (map (λ own. map g.M.Mail.sender own.items) c.loop.lists.items) (inboxes_by g.M.Mail.receiver c.loop.inboxes.items)) all c.loop.invariant
