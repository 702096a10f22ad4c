use Rattle.std.proofs.Common.{rules}
use Rattle.std.specs.Ordering.{is_lt}
use Rattle.std.proofs.lemmas.Fn.{always_returns_same}
use Rattle.std.proofs.lemmas.List.Sorted.{All-permutation, IsPermutation-map, ranks_by}
use Rattle.payee_portions.specs.Money.{IsSection, kept_by_money, section_shown}
use Rattle.payee_portions.specs.declared.money.Section.{Section}
use Rattle.payee_portions.proofs.MoneyLemmas.{is_order_of_money, sorted_by_money}
use Rattle.payee_portions.proofs.money.sort.Goals as goal

pub returns-clause-ordered : goal.returns-clause-ordered
returns-clause-ordered c =
    let old = c.args.sections.now.items in
    let new = c.sort_unstable_by.new.self.items in record {
      same = IsPermutation-map section_shown old new c.sort_unstable_by.ensures.permutation;
      order =
          sorted_by_money new (All-permutation IsSection old new c.sort_unstable_by.ensures.permutation c.requires)
          (c.sort_unstable_by.ensures.sorted (λ (x y : Section). is_lt (kept_by_money x y)) (ranks_by is_order_of_money (λ (section : Section). section))
          (always_returns_same _ _ _ (λ a r f k. search rules)));
    }

pub returns-clause-sound : goal.returns-clause-sound
returns-clause-sound c = All-permutation IsSection c.args.sections.now.items c.sort_unstable_by.new.self.items c.sort_unstable_by.ensures.permutation c.requires
