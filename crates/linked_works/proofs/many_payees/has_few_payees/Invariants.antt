use Rattle.std.proofs.Common.{◌≤◌, length, take}
use Rattle.line_split.specs.declared.TheConstants.{MOST_CLAIMS}
use Rattle.cwr_share.specs.Payees.{payee_of}
use Rattle.linked_works.proofs.FewLemmas.{AreCounted}
use Rattle.linked_works.proofs.many_payees.has_few_payees.Given as goal

abbrev pub invariant-loop-share : goal.invariant-loop-share
invariant-loop-share l = record {
  counted : AreCounted (payee_of l.payees) (take l.share-index l.shares) l.found.keys;
  few : length l.found.keys ≤ MOST_CLAIMS;
}
