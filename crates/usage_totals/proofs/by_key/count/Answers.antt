use Rattle.std.proofs.Common.{◌≡◌, ◌∙◌, sym}
use Rattle.std.proofs.lemmas.Result.{on_ok_weaker}
use Rattle.usage_totals.proofs.ByKeyLemmas.{nothing, total_with}
use Rattle.usage_totals.proofs.CountedLemmas.{counted_more, counted_other}
use Rattle.usage_totals.proofs.TotalLemmas.{amount_kept}
use Rattle.usage_totals.proofs.by_key.count.Goals as goal

pub returns-then-eq-clause-counted : goal.returns-then-eq-clause-counted
returns-then-eq-clause-counted g c = λ amounts counted cases.
    let hand = c.args.at_hand.now in
    let amount = c.args.amount in
    let total : c.with-at_hand.result ≡ total_with hand.1 amount.1 = rw (amount_kept amount.1 c.requires.small) at c.with-at_hand.ensures in
    counted_more g.K.PartialEq.eq g.met.K.Eq.laws g.K.Ord.cmp c.args.most amounts hand c.args.ranked.now amount counted c.with-at_hand.result total (sym c.eq.ensures ∙ c.if-eq.true)

pub returns-clause-counted : goal.returns-clause-counted
returns-clause-counted g c =
    let total : c.with.result ≡ total_with nothing c.args.amount.1 = rw (c.none.ensures, amount_kept c.args.amount.1 c.requires.small) at c.with.ensures in
    on_ok_weaker c.put.result (λ first amounts counted cases.
    counted_other g.K.PartialEq.eq g.met.K.Eq.laws g.K.Ord.cmp c.args.most amounts c.args.at_hand.now c.args.ranked.now c.args.amount counted
    c.replace-before.new.dest c.put.new.ranked (c.replace-before.ensures.after ∙ (λ i. (c.args.amount.0, total i)))
    (sym c.eq.ensures ∙ c.if-eq.false) cases (record { first = rw c.replace-before.ensures.value at first; count = c.put.ensures.count })) c.put.ensures.first
