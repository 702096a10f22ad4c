use Rattle.std.proofs.Common.{◌∙◌, ◌+◌, ◌<◌, ℕ, List, Vec, Global, inr, ap, map, sym, subst, refl, take, arith}
use Rattle.std.proofs.lemmas.List.{length-map}
use Rattle.std.specs.Cmp.Lexicographic.{pointwise}
use Rattle.std.specs.Prelude.{nat_eq, length}
use Rattle.cwr_share.specs.Payees.{payee_of}
use Rattle.cwr_share.specs.Registrations.{ShareLine}
use Rattle.cwr_share.specs.Parties.{party_of, payee_by, texts_in, texts_of}
use Rattle.cwr_share.proofs.PartyLemmas.{added_again, added_key, all_added, each_added, each_more, next_added, none_added, number_added, rising_texts, seen_more, seen_number, seen_payee}
use Rattle.cwr_share.proofs.parties.add_parties.Goals.{then-not-contains+in_ok-insert+in_ok-from_slice+in_ok-insert-2+else-len-gt-MOST_ACCOUNTS, else-not-contains}
use Rattle.cwr_share.proofs.parties.add_parties.Goals as goal

abbrev text_of : Vec ℕ Global → List ℕ
text_of text = text.items

pub loop-share-init : goal.loop-share-init
loop-share-init c = record {
  payees = none_added (texts_of c.args.found.now);
  parties = none_added (texts_in c.args.seen.now.keys);
  few = c.requires.few;
  seen = c.requires.seen;
  filled = c.requires.filled;
}

pub returns-then-len-gt-MOST_ACCOUNTS-clause-fault : goal.returns-then-len-gt-MOST_ACCOUNTS-clause-fault
returns-then-len-gt-MOST_ACCOUNTS-clause-fault c =
    let rows = c.args.payees.now in
    let shares = c.args.shares.now in
    let party = c.as_slice-party.ensures.value ∙ ap party_of c.share.view_is in
    let payee = c.in_ok-from_slice.ensures.items ∙ (c.payee_of.ensures.payee ∙ ap (payee_of rows) party) in
    let added = next_added (payee_by rows) (texts_of c.args.found.now) shares c.loop-share.share-index c.share-item.result c.loop-share-test.true c.share-item.is _ c.in_ok-from_slice.field-0.items payee
    (added_key text_of (texts_of c.args.found.now) (map (payee_by rows) (take c.loop-share.share-index shares)) c.loop-share.found.keys c.in_ok-from_slice.field-0 c.loop-share.invariant.payees) in
    inr (
      refl,
      omega (arith, length-map c.insert-then-not-contains.new.self.keys text_of),
      rising_texts text_of c.insert-then-not-contains.new.self.keys c.len.ensures.ordered,
      each_added (payee_by rows) (texts_of c.args.found.now) (texts_of c.insert-then-not-contains.new.self) shares (c.loop-share.share-index + 1) (rw (← c.in_ok-insert-2.ensures.keys) at added),
    )

pub loop-share-preserved : goal.loop-share-preserved
loop-share-preserved c =
    let rows = c.args.payees.now in
    let shares = c.args.shares.now in
    let n = c.loop-share.share-index in
    elim c.if-not-contains.branch [
      | then-not-contains+in_ok-insert+in_ok-from_slice+in_ok-insert-2+else-len-gt-MOST_ACCOUNTS w ↦
          let party = w.as_slice-party.ensures.value ∙ ap party_of c.share.view_is in
          let number = w.in_place.ensures ∙ party in
          let payee = w.in_ok-from_slice.ensures.items ∙ (w.payee_of.ensures.payee ∙ ap (payee_of rows) party) in
          let payees = next_added (payee_by rows) (texts_of c.args.found.now) shares n c.share-item.result c.loop-share-test.true c.share-item.is _ w.in_ok-from_slice.field-0.items payee
          (added_key text_of (texts_of c.args.found.now) (map (payee_by rows) (take n shares)) c.loop-share.found.keys w.in_ok-from_slice.field-0 c.loop-share.invariant.payees) in
          let new = sym c.contains.ensures ∙ w.if-not-contains.true in
          let parties = next_added party_of (texts_in c.args.seen.now.keys) shares n c.share-item.result c.loop-share-test.true c.share-item.is _ w.in_place.result.items number
          (number_added (texts_in c.args.seen.now.keys) (map party_of (take n shares)) c.loop-share.seen.keys w.in_place.result
          (rw (w.in_place.ensures, w.as_slice-party.ensures.value) new) c.loop-share.invariant.parties) in
          let seen = seen_more text_of rows (λ number other. pointwise nat_eq number.items other.items) c.loop-share.found.keys w.in_ok-from_slice.field-0 c.loop-share.seen.keys w.in_place.result
          (payee ∙ ap (payee_of rows) (sym number)) c.loop-share.invariant.seen in
          let some : 0 < length c.share-item.result.party = subst (λ (line : ShareLine). 0 < length line.party) (sym c.share-item.is) (c.requires.sound n c.share-item.result c.loop-share-test.true).party in
          let named = w.payee_of.ensures.named (omega (arith, some, ap (λ (text : List ℕ). length text) party)) in
          let filled = each_more text_of (λ text. 0 < length text) c.loop-share.found.keys w.in_ok-from_slice.field-0 c.loop-share.invariant.filled
          (omega (arith, named, ap (λ (text : List ℕ). length text) w.in_ok-from_slice.ensures.items)) in
          rw (w.found-is, w.seen-is) (record {
            payees = rw (← w.in_ok-insert-2.ensures.keys) at payees;
            parties = rw (← w.in_ok-insert.ensures.keys) at parties;
            few = omega arith;
            seen = rw (w.in_ok-insert.ensures.keys, w.in_ok-insert-2.ensures.keys) seen;
            filled = rw w.in_ok-insert-2.ensures.keys filled;
          })
      | else-not-contains w ↦
          let number = ap party_of c.share.view_is in
          let known = sym c.contains.ensures ∙ w.if-not-contains.false in
          let found = seen_payee rows (texts_of c.loop-share.found) c.share.inside.party.items c.loop-share.seen.keys c.loop-share.invariant.seen known in
          let payees = next_added (payee_by rows) (texts_of c.args.found.now) shares n c.share-item.result c.loop-share-test.true c.share-item.is _ (payee_of rows c.share.inside.party.items) (ap (payee_of rows) number)
          (added_again (texts_of c.args.found.now) (map (payee_by rows) (take n shares)) (texts_of c.loop-share.found) (payee_of rows c.share.inside.party.items) c.loop-share.invariant.payees found) in
          let parties = next_added party_of (texts_in c.args.seen.now.keys) shares n c.share-item.result c.loop-share-test.true c.share-item.is _ c.share.inside.party.items number
          (added_again (texts_in c.args.seen.now.keys) (map party_of (take n shares)) (texts_in c.loop-share.seen.keys) c.share.inside.party.items c.loop-share.invariant.parties
          (seen_number c.share.inside.party.items c.loop-share.seen.keys known)) in
          rw (w.found-is, w.seen-is)
          (record { payees = payees; parties = parties; few = c.loop-share.invariant.few; seen = c.loop-share.invariant.seen; filled = c.loop-share.invariant.filled })
    ]

pub returns-clause-payees : goal.returns-clause-payees
returns-clause-payees c = all_added (payee_by c.args.payees.now) (texts_of c.args.found.now) (texts_of c.loop-share.found) c.args.shares.now c.loop-share.share-index c.loop-share.invariant.payees c.loop-share-test.false

pub returns-clause-parties : goal.returns-clause-parties
returns-clause-parties c = all_added party_of (texts_in c.args.seen.now.keys) (texts_in c.loop-share.seen.keys) c.args.shares.now c.loop-share.share-index c.loop-share.invariant.parties c.loop-share-test.false

pub returns-clause-few : goal.returns-clause-few
returns-clause-few c = c.loop-share.invariant.few
