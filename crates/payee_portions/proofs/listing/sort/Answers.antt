use Rattle.std.proofs.Common.{◌≤◌, rules, unsigned_abs}
use Rattle.std.specs.Ordering.{is_lt}
use Rattle.std.proofs.lemmas.Fn.{always_returns_same}
use Rattle.std.proofs.lemmas.List.Sorted.{All-permutation, IsPermutation-map, ranks_by}
use Rattle.line_split.specs.declared.TheConstants.{MOST_AMOUNT}
use Rattle.payee_portions.specs.Portions.{by_title}
use Rattle.payee_portions.specs.Shown.{portion_shown}
use Rattle.payee_portions.specs.declared.portion.Portion.{Portion}
use Rattle.payee_portions.proofs.OrderLemmas.{is_order, sorted_shown}
use Rattle.payee_portions.proofs.listing.sort.Goals as goal

pub returns-clause-listed : goal.returns-clause-listed
returns-clause-listed c =
    let old = c.args.list.now.items in
    let new = c.sort_unstable_by.new.self.items in record {
      same = IsPermutation-map portion_shown old new c.sort_unstable_by.ensures.permutation;
      order = sorted_shown portion_shown by_title new
          (c.sort_unstable_by.ensures.sorted (λ (x y : Portion). is_lt (by_title (portion_shown x) (portion_shown y)))
          (ranks_by is_order portion_shown) (always_returns_same _ _ _ (λ a r f k. search rules)));
    }

pub returns-clause-small : goal.returns-clause-small
returns-clause-small c small =
    All-permutation (λ (portion : Portion). unsigned_abs portion.amount ≤ MOST_AMOUNT) c.args.list.now.items c.sort_unstable_by.new.self.items
    c.sort_unstable_by.ensures.permutation small
