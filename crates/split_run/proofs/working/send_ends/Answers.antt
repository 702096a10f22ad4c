use Rattle.std.proofs.Common.{arith, ap, cond, false, get_or, length, true, ◌<◌, ◌≡◌, ◌∙◌, [], sym}
use Rattle.std.specs.Prelude.{nat_lt}
use Rattle.std.proofs.lemmas.Bool.Decides.{nat_tests}
use Rattle.mail_box.specs.Mails.{with_end}
use Rattle.split_run.specs.Sending.{with_posts}
use Rattle.split_run.proofs.SendingLemmas.{as_it_is, with_none}
use Rattle.split_run.proofs.WorkingLemmas.{end_more}
use Rattle.split_run.proofs.working.send_ends.Goals as goal

pub send_end-requires-clause-account : goal.send_end-requires-clause-account
send_end-requires-clause-account g c κs within = omega (arith, c.loop-account-test.true, c.requires.accounts, c.loop-account.invariant.count)

pub send_end-requires-clause-open : goal.send_end-requires-clause-open
send_end-requires-clause-open g c κs within = λ s.
    let was = g.B.Mailboxes.senders c.args.senders.now in
    let account = c.loop-account.account in
    let inside : account < length was = omega (arith, c.loop-account-test.true, c.requires.accounts) in
    let not_yet : nat_lt account account ≡ false = grind (arith, nat_tests) in
    let same = c.loop-account.invariant.each account s inside ∙ ap (λ b. cond b (with_end (get_or was account s)) (get_or was account s)) not_yet in
    ap (λ v. v.is_ended) same ∙ (c.requires.ready account s inside).0

pub loop-account-preserved : goal.loop-account-preserved
loop-account-preserved g c =
    let was = g.B.Mailboxes.senders c.args.senders.now in
    let now = g.B.Mailboxes.senders c.loop-account.senders in
    let account = c.loop-account.account in
    let within : account < length was = omega (arith, c.loop-account-test.true, c.requires.accounts) in
    let ended = rw c.if-not-send_end.false at c.send_end.ensures in
    record {
      count = ended.count ∙ c.loop-account.invariant.count;
      each = end_more was now (g.B.Mailboxes.senders c.send_end.new.senders) account c.loop-account.invariant.count within ended c.loop-account.invariant.each;
    }

pub returns : goal.returns
returns g c = λ yes.
    let was = g.B.Mailboxes.senders c.args.senders.now in
    let now = g.B.Mailboxes.senders c.loop-account.senders in record {
      count = c.loop-account.invariant.count;
      each = λ account s below.
          let done : nat_lt account c.loop-account.account ≡ true = grind (arith, nat_tests, below, c.requires.accounts, c.loop-account-test.false) in
          as_it_is g.B.Mailboxes.is_shared (get_or now account s) (with_end (with_posts (get_or was account s) []))
          (c.loop-account.invariant.each account s below ∙ (ap (λ b. cond b (with_end (get_or was account s)) (get_or was account s)) done ∙ ap with_end (sym (with_none (get_or was account s)))));
    }
