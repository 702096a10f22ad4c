use Rattle.std.proofs.Common.{◌≡◌, ◌-◌, ◌<◌, [], All, drop, filter, get_or, length, ltb, take}
use Rattle.distribution_documents.proofs.Accounts.{numbers}
use Rattle.distribution_documents.proofs.overview.payees_of.Given as goal

-- the payees so far
abbrev pub invariant-loop-account : goal.invariant-loop-account
invariant-loop-account l = record {
  payees : l.payees.items ≡ filter (λ account. ltb 0 (length (get_or l.documents.divided.now.book account []))) (numbers 1 (take (l.account - 1) (drop 1 l.documents.divided.now.book)));
  known : All (λ account. account < length l.documents.divided.now.book) l.payees.items;
}
