use Rattle.std.proofs.Common.{◌≤◌, [], All, length, map, take}
use Rattle.cwr_share.specs.Compiled.{names_of}
use Rattle.cwr_share.specs.Parties.{HasAdded, IsAccountOf, texts_in}
use Rattle.cwr_share.specs.Payees.{payee_of}
use Rattle.cwr_share.specs.declared.numbers.TheConstants.{MOST_PARTY_NAME_BYTES}
use Rattle.cwr_share.proofs.parties.in_order_of_account.Given as goal

abbrev pub invariant-loop-party : goal.invariant-loop-party
invariant-loop-party l = record {
  names : HasAdded [] (texts_in (take l.party-index l.seen)) (names_of l.accounts.entries);
  paid : All (λ party. IsAccountOf (map (λ payee. payee.items) l.by_account) (payee_of l.payees party.0.items) party.1) l.accounts.entries;
  short : All (λ party. length party.0.items ≤ MOST_PARTY_NAME_BYTES) l.accounts.entries;
}
