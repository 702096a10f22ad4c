use Rattle.std.proofs.Common.{◌≤◌, map, take}
use Rattle.std.specs.BTreeSet.{btree_set_len}
use Rattle.cwr_share.specs.Parties.{AreAllOf, AreFilled, AreFound, party_of, payee_by, texts_in, texts_of}
use Rattle.cwr_share.specs.declared.TheConstants.{MOST_ACCOUNTS}
use Rattle.cwr_share.proofs.parties.parties_of.Given as goal

abbrev pub invariant-loop-shares : goal.invariant-loop-shares
invariant-loop-shares l = record {
  payees : AreAllOf (payee_by l.payees) (map (λ lines. lines.items) (take l.shares-index l.registrations)) (texts_of l.found);
  parties : AreAllOf party_of (map (λ lines. lines.items) (take l.shares-index l.registrations)) (texts_in l.seen.keys);
  few : btree_set_len l.found ≤ MOST_ACCOUNTS;
  seen : AreFound l.payees (texts_of l.found) l.seen.keys;
  filled : AreFilled (texts_of l.found);
}
