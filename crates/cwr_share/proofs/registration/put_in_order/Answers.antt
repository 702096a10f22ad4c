use Rattle.std.proofs.Common.{rules}
use Rattle.std.proofs.lemmas.List.Sorted.{IsNonDecreasingBy-from_sort_by_key}
use Rattle.cwr_share.specs.Compiled.{rank_of}
use Rattle.cwr_share.proofs.OrderLemmas.{sorted_in_order}
use Rattle.cwr_share.proofs.registration.put_in_order.Goals as goal

pub returns : goal.returns
returns c = λ claimants are all.
    sorted_in_order claimants c.args.order.now.items _ are all c.sort_unstable_by_key.ensures.permutation
    (IsNonDecreasingBy-from_sort_by_key rank_of _ c.sort_unstable_by_key.ensures.sorted (λ a r f' k. search rules))
