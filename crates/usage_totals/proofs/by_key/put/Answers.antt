use Rattle.std.proofs.Common.{rules}
use Rattle.std.proofs.lemmas.List.Sorted.{IsPartitionPoint-from_clause}
use Rattle.usage_totals.specs.Greatest.{by_money}
use Rattle.usage_totals.proofs.ByKeyLemmas.{money_ranks}
use Rattle.usage_totals.proofs.FirstLemmas.{first_with, first_without, goes_before}
use Rattle.usage_totals.proofs.by_key.put.Goals as goal

pub returns-in_ok-insert-clause-first : goal.returns-in_ok-insert-clause-first
returns-in_ok-insert-clause-first g c = λ all first.
    let money = by_money g.K.Ord.cmp in
    let ranks = money_ranks g.K.Ord.cmp g.met.K.Ord.total in
    let found = c.partition_point-place in
    first_with money ranks c.args.entry c.args.most found.result all c.args.ranked.now.first.items first c.deref.result.now c.deref.ensures.value found.ensures.bound
    (λ parted. IsPartitionPoint-from_clause (goes_before money ranks c.args.entry) c.deref.result.now found.result found.ensures.partitioned parted (λ a r q k. search rules))
    c.if-place-most.true c.truncate.new.self.items c.insert.new.self.items c.truncate.ensures.items c.in_ok-insert.ensures.items

pub returns-else-place-most-clause-first : goal.returns-else-place-most-clause-first
returns-else-place-most-clause-first g c = λ all first.
    let money = by_money g.K.Ord.cmp in
    let ranks = money_ranks g.K.Ord.cmp g.met.K.Ord.total in
    let found = c.partition_point-place in
    first_without money ranks c.args.entry c.args.most found.result all c.args.ranked.now.first.items first c.deref.result.now c.deref.ensures.value found.ensures.bound
    (λ parted. IsPartitionPoint-from_clause (goes_before money ranks c.args.entry) c.deref.result.now found.result found.ensures.partitioned parted (λ a r q k. search rules))
    c.if-place-most.false
