use Rattle.std.proofs.Common.{◌<◌, ◌≤◌, length, rules, unsigned_abs}
use Rattle.std.specs.Ordering.{is_lt}
use Rattle.std.proofs.lemmas.Fn.{always_returns_same}
use Rattle.std.proofs.lemmas.List.Sorted.{All-permutation, ranks_by}
use Rattle.line_split.specs.declared.TheConstants.{MOST_AMOUNT}
use Rattle.usage_totals.specs.SoFar.{in_order_of_hash}
use Rattle.usage_totals.specs.declared.by_key.Hashed.{Hashed}
use Rattle.usage_totals.proofs.HashedLemmas.{brought_together, is_order}
use Rattle.usage_totals.proofs.by_key.bring_together.Goals as goal

pub returns-clause-together : goal.returns-clause-together
returns-clause-together g c =
    let lines = c.args.usage.now in
    let order = is_order g.K.PartialEq.eq g.met.K.Eq.laws g.K.Ord.cmp g.met.K.Ord.total g.met.K.Ord.matches_eq g.K.Key.key lines in
    brought_together g.K.PartialEq.eq g.met.K.Eq.laws g.K.Ord.cmp g.met.K.Ord.total g.met.K.Ord.matches_eq g.K.Key.key lines
    c.args.places.now.items c.sort_unstable_by.new.self.items c.sort_unstable_by.ensures.permutation c.requires
    (c.sort_unstable_by.ensures.sorted (λ (x y : Hashed). is_lt (in_order_of_hash g.K.Ord.cmp g.K.Key.key lines x y)) (ranks_by order (λ (x : Hashed). x)) (always_returns_same _ _ _ (λ a r f k. search rules)))

pub returns-clause-within : goal.returns-clause-within
returns-clause-within g c =
    All-permutation (λ (hashed : Hashed). hashed.place < length c.args.usage.now) c.args.places.now.items c.sort_unstable_by.new.self.items c.sort_unstable_by.ensures.permutation c.requires.within

pub returns-clause-small : goal.returns-clause-small
returns-clause-small g c =
    All-permutation (λ (hashed : Hashed). unsigned_abs hashed.amount ≤ MOST_AMOUNT) c.args.places.now.items c.sort_unstable_by.new.self.items c.sort_unstable_by.ensures.permutation c.requires.small
