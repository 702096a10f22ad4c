use Rattle.std.proofs.Common.{◌≤◌, map, take}
use Rattle.std.specs.BTreeSet.{btree_set_len}
use Rattle.cwr_share.specs.Parties.{AreFilled, AreFound, HasAdded, party_of, payee_by, texts_in, texts_of}
use Rattle.cwr_share.specs.declared.TheConstants.{MOST_ACCOUNTS}
use Rattle.cwr_share.proofs.parties.add_parties.Given as goal

abbrev pub invariant-loop-share : goal.invariant-loop-share
invariant-loop-share l = record {
  payees : HasAdded (texts_of l.initial.found) (map (payee_by l.payees) (take l.share-index l.shares)) (texts_of l.found);
  parties : HasAdded (texts_in l.initial.seen.keys) (map party_of (take l.share-index l.shares)) (texts_in l.seen.keys);
  few : btree_set_len l.found ≤ MOST_ACCOUNTS;
  seen : AreFound l.payees (texts_of l.found) l.seen.keys;
  filled : AreFilled (texts_of l.found);
}
