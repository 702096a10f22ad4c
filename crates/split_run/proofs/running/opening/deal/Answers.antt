use Rattle.std.proofs.Common.{arith, ap, length, map, None, set, sym, ◌++◌, ◌∷◌, [], ◌%◌, ◌<◌, ◌∙◌}
use Rattle.std.specs.Prelude.{◌==◌, option_map}
use Rattle.std.proofs.lemmas.List.{get_or-map, get_or_default, length-map, map-set, map_push}
use Rattle.split_run.specs.Reading.{inboxes_by}
use Rattle.split_run.proofs.OpeningLemmas.{all_dealt, cond_none, cond_taken, dealt_more, others_left}
use Rattle.split_run.proofs.running.opening.deal.Goals as goal

pub loop-account-preserved : goal.loop-account-preserved
loop-account-preserved g c =
    let f = option_map g.B.Mailboxes.receiver in
    let items = c.loop-account.inboxes.items in
    let own = c.loop-account.own.items in
    let account = c.loop-account.account in
    let mine = c.args.reader == account % c.args.readers in
    let x = c.index_mut.result.now in
    let was = inboxes_by g.B.Mailboxes.receiver c.args.inboxes.now.items in
    let inside : account < length was = omega (arith, c.loop-account-test.true, c.len-account-end.ensures, length-map c.args.inboxes.now.items f) in
    let within : account < length items = omega (arith, inside, c.loop-account.invariant.count, length-map items f) in
    dealt_more c.args.readers c.args.reader was account (map f items) (map f own) (map f (set items account c.take_if.new.there)) (map f c.push.new.self.items) (f x) c.loop-account.invariant inside
    (ap f (c.index_mut.ensures.value ∙ get_or_default items account x None within) ∙ sym (get_or-map f items account None None within))
    (map-set f items account c.take_if.new.there ∙ ap (set (map f items) account) (ap f c.take_if.ensures.left ∙ cond_none g.B.Mailboxes.receiver mine x))
    (ap (map f) c.in_ok-push.ensures.items ∙ map_push f own c.take_if.result ∙ ap (λ o. map f own ++ o ∷ []) (ap f c.take_if.ensures.taken ∙ cond_taken g.B.Mailboxes.receiver mine x))

pub returns-clause-own : goal.returns-clause-own
returns-clause-own g c =
    let f = option_map g.B.Mailboxes.receiver in
    let was = inboxes_by g.B.Mailboxes.receiver c.args.inboxes.now.items in
    all_dealt c.args.readers c.args.reader was (map f c.loop-account.inboxes.items) (map f c.loop-account.own.items) c.loop-account.account
    (omega (arith, c.loop-account-test.false, c.loop-account.auto.account-end, c.len-account-end.ensures, length-map c.args.inboxes.now.items f)) c.loop-account.invariant

pub returns-clause-others : goal.returns-clause-others
returns-clause-others g c =
    let f = option_map g.B.Mailboxes.receiver in
    let was = inboxes_by g.B.Mailboxes.receiver c.args.inboxes.now.items in
    others_left c.args.readers c.args.reader was (map f c.loop-account.inboxes.items) (map f c.loop-account.own.items) c.loop-account.account
    (omega (arith, c.loop-account-test.false, c.loop-account.auto.account-end, c.len-account-end.ensures, length-map c.args.inboxes.now.items f)) c.loop-account.invariant
