use Rattle.std.proofs.Common.{◌≡◌, ◌∙◌, ◌+◌, List, ap, arith, subst, sym, take}
use Rattle.std.proofs.lemmas.List.{take_all}
use Rattle.cwr_share.specs.Payees.{payee_of}
use Rattle.cwr_share.specs.Registrations.{ShareLine}
use Rattle.linked_works.proofs.FewLemmas.{AreCounted, counted_next, few_if_counted, few_if_short, many_if_counted, with_text}
use Rattle.linked_works.proofs.many_payees.has_few_payees.Goals as goal
use Rattle.linked_works.proofs.many_payees.has_few_payees.Goals.{After-len}

pub returns-then-shares-le-MOST_CLAIMS-clause-few : goal.returns-then-shares-le-MOST_CLAIMS-clause-few
returns-then-shares-le-MOST_CLAIMS-clause-few c = λ _. few_if_short (payee_of c.args.payees.now) c.args.shares.now c.if-shares-le-MOST_CLAIMS.true

-- the payees so far, with that of the share line at hand
counted : (c : After-len) → AreCounted (payee_of c.args.payees.now) (take (c.loop-share.share-index + 1) c.args.shares.now) c.insert.new.self.keys
counted c =
    let pay = payee_of c.args.payees.now in
    let line = c.share-item.result in
    let found = c.loop-share.found.keys in
    let text : c.in_ok-of.field-0 ≡ pay line.party = c.in_ok-of.ensures ∙ (c.payee_of-payee.ensures.payee ∙ ap pay c.party.ensures) in
    let keys : c.insert.new.self.keys ≡ with_text found (pay line.party) = c.in_ok-insert.ensures.keys ∙ ap (with_text found) text in
    subst (AreCounted pay (take (c.loop-share.share-index + 1) c.args.shares.now)) (sym keys)
    (counted_next pay c.args.shares.now c.loop-share.share-index line found c.loop-share-test.true c.share-item.is c.loop-share.invariant.counted)

pub returns-then-len-gt-MOST_CLAIMS-clause-many : goal.returns-then-len-gt-MOST_CLAIMS-clause-many
returns-then-len-gt-MOST_CLAIMS-clause-many c = λ _.
    many_if_counted (payee_of c.args.payees.now) c.args.shares.now (c.loop-share.share-index + 1) c.insert.new.self.keys
    (counted (goal.at.returns-then-len-gt-MOST_CLAIMS-clause-many c).After-len) (omega (arith, c.len.ensures.len, c.if-len-gt-MOST_CLAIMS.true))

pub loop-share-preserved : goal.loop-share-preserved
loop-share-preserved c = record {
  counted = counted (goal.at.loop-share-preserved c).After-len;
  few = omega (arith, c.len.ensures.len, c.if-len-gt-MOST_CLAIMS.false);
}

pub returns-clause-few : goal.returns-clause-few
returns-clause-few c = λ _.
    let pay = payee_of c.args.payees.now in
    few_if_counted pay c.args.shares.now c.loop-share.found.keys
    (subst (λ (lines : List ShareLine). AreCounted pay lines c.loop-share.found.keys) (take_all c.loop-share.share-index c.args.shares.now c.loop-share-test.false) c.loop-share.invariant.counted)
    c.loop-share.invariant.few
