use Rattle.std.proofs.Common.{◌≡◌, ℕ, List, All, Contains, Vec, Global, ap, map, arith, length, refl, subst, sym, []}
use Rattle.std.specs.Prelude.{◌↔◌}
use Rattle.std.proofs.lemmas.List.{length-map}
use Rattle.std.proofs.lemmas.Result.{err_from_is_err_and}
use Rattle.std.proofs.lemmas.List.Elements.{All-map, All-nil}
use Rattle.cwr_share.specs.Compiled.{Numbered, names_of}
use Rattle.cwr_share.specs.Parties.{IsAccountOf, IsAmong, party_of, payee_by, texts_in, texts_of}
use Rattle.cwr_share.specs.Payees.{payee_of}
use Rattle.cwr_share.specs.Registered.{IsShareLine}
use Rattle.cwr_share.specs.Registrations.{ShareLine}
use Rattle.cwr_share.proofs.ClaimLemmas.{map_twice}
use Rattle.cwr_share.proofs.PartyLemmas.{among_all, among_end, among_next, found_further, many_among, none_among, parties_filled}
use Rattle.cwr_share.proofs.PartyWorks.{as_party, pairs_of_maps, rises_of_map}
use Rattle.cwr_share.proofs.parties.parties_of.Goals as goal

abbrev lines_of : Vec ShareLine Global → List ShareLine
lines_of lines = lines.items

pub loop-shares-init : goal.loop-shares-init
loop-shares-init c = record {
  payees = rw c.new-found.ensures.empty (none_among (payee_by c.args.payees.now));
  parties = rw c.new-seen.ensures.empty (none_among party_of);
  few = omega arith;
  seen = rw c.new-seen.ensures.empty (All-nil _);
  filled = rw c.new-found.ensures.empty (All-nil _);
}

pub add_parties-requires : goal.add_parties-requires
add_parties-requires c = record {
  seen = c.loop-shares.invariant.seen;
  few = c.loop-shares.invariant.few;
  filled = c.loop-shares.invariant.filled;
  sound = rw c.as_slice.ensures.value (subst (λ (lines : Vec ShareLine Global). All IsShareLine lines.items) (sym c.shares-item.is) (c.requires.filled c.loop-shares.shares-index c.shares-item.result c.loop-shares-test.true));
}

pub returns-in_err-add_parties-clause-fault : goal.returns-in_err-add_parties-clause-fault
returns-in_err-add_parties-clause-fault c =
    let exit = err_from_is_err_and c.from_residual.result c.from_residual.ensures.1 in
    let text_by = payee_by c.args.payees.now in
    rw (exit.1, exit.2)
    (many_among c.args.payees.now (map lines_of c.args.registrations.now) (texts_of c.add_parties.new.found) (texts_of c.loop-shares.found) (map text_by c.as_slice.result.now) c.in_err-add_parties.field-0.0
    (λ each. among_all text_by lines_of c.args.registrations.now c.loop-shares.shares-index c.shares-item.result c.loop-shares-test.true c.shares-item.is
    (texts_of c.loop-shares.found) (texts_of c.add_parties.new.found) c.loop-shares.invariant.payees (rw c.as_slice.ensures.value at each))
    c.in_err-add_parties.ensures.fault)

pub loop-shares-preserved : goal.loop-shares-preserved
loop-shares-preserved c = record {
  payees = among_next (payee_by c.args.payees.now) lines_of c.args.registrations.now c.loop-shares.shares-index c.shares-item.result c.loop-shares-test.true c.shares-item.is
      (texts_of c.loop-shares.found) (texts_of c.add_parties.new.found) c.loop-shares.invariant.payees
      (rw c.as_slice.ensures.value at c.in_ok-add_parties.ensures.payees);
  parties = among_next party_of lines_of c.args.registrations.now c.loop-shares.shares-index c.shares-item.result c.loop-shares-test.true c.shares-item.is
      (texts_in c.loop-shares.seen.keys) (texts_in c.add_parties.new.seen.keys) c.loop-shares.invariant.parties
      (rw c.as_slice.ensures.value at c.in_ok-add_parties.ensures.parties);
  few = c.in_ok-add_parties.ensures.few;
  seen = c.in_ok-add_parties.ensures.seen;
  filled = c.in_ok-add_parties.ensures.filled;
}

pub by_account-requires : goal.by_account-requires
by_account-requires c = c.loop-shares.invariant.filled

pub in_order_of_account-requires : goal.in_order_of_account-requires
in_order_of_account-requires c =
    let payees = c.in_ok-by_account.ensures.payees in
    let lists = map lines_of c.args.registrations.now in
    let parties = among_end party_of lines_of c.args.registrations.now c.loop-shares.shares-index (texts_in c.loop-shares.seen.keys) c.loop-shares-test.false c.loop-shares.invariant.parties in
    rw (c.as_slice-2.ensures.keys, c.as_slice-3.ensures.value) (record {
      rising = c.in_ok-by_account.ensures.rising;
      few = omega (
        arith,
        length-map c.in_ok-by_account.by_account.items (λ (payee : Vec ℕ Global). payee.items),
        ap (λ (texts : List (List ℕ)). length texts) payees,
        length-map c.loop-shares.found.keys (λ (text : Vec ℕ Global). text.items),
        c.loop-shares.invariant.few,
      );
      residue = rw payees refl;
      known = rw payees (found_further c.args.payees.now [] (texts_of c.loop-shares.found) c.loop-shares.seen.keys c.loop-shares.invariant.seen);
      filled = parties_filled lists (texts_in c.loop-shares.seen.keys) parties (All-map (All IsShareLine) lines_of c.args.registrations.now c.requires.filled);
    })

pub returns-clause-parties : goal.returns-clause-parties
returns-clause-parties c =
    let lists = map lines_of c.args.registrations.now in
    let entries = c.in_ok-accounts.accounts.entries in
    let payees = map (λ (payee : Vec ℕ Global). payee.items) c.in_ok-by_account.by_account.items in
    let ordered = c.in_ok-accounts.ensures in
    let same : (text : List ℕ) → Contains (names_of entries) text ↔ Contains (texts_in c.loop-shares.seen.keys) text = rw c.as_slice-2.ensures.keys at ordered.same in
    let parties = among_end party_of lines_of c.args.registrations.now c.loop-shares.shares-index (texts_in c.loop-shares.seen.keys) c.loop-shares-test.false c.loop-shares.invariant.parties in
    record {
      names = texts_of c.loop-shares.found;
      accounts = c.in_ok-by_account.ensures.payees;
      rising = c.in_ok-by_account.ensures.rising;
      few = omega (arith, length-map c.loop-shares.found.keys (λ (text : Vec ℕ Global). text.items), c.loop-shares.invariant.few);
      exact = among_end (payee_by c.args.payees.now) lines_of c.args.registrations.now c.loop-shares.shares-index (texts_of c.loop-shares.found) c.loop-shares-test.false c.loop-shares.invariant.payees;
      once = pairs_of_maps (λ (party : Numbered). party.0.items) as_party (λ name later. ¬ (name ≡ later)) (λ party later. ¬ (party.0 ≡ later.0)) (λ party later apart. apart) entries ordered.once;
      each = record {
        exact = λ text.
            subst (λ (names : List (List ℕ)). Contains names text ↔ IsAmong party_of lists text) (sym (map_twice as_party (λ (party : List ℕ × ℕ). party.0) entries))
            (λ has. (parties.exact text).0 ((same text).0 has), λ among. (same text).1 ((parties.exact text).1 among));
      };
      paid = All-map (λ party. IsAccountOf payees (payee_of c.args.payees.now party.0) party.1) as_party entries (rw c.as_slice-3.ensures.value at ordered.paid);
      ordered = rises_of_map as_party (λ (party : List ℕ × ℕ). party.1) entries ordered.ordered;
    }

pub returns-clause-short : goal.returns-clause-short
returns-clause-short c = c.in_ok-accounts.ensures.short
