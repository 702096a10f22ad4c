use Rattle.std.proofs.Common.{rules}
use Rattle.std.specs.Ordering.{is_lt}
use Rattle.std.proofs.lemmas.Fn.{always_returns_same}
use Rattle.std.proofs.lemmas.List.Sorted.{IsPermutation-map, ranks_by}
use Rattle.page_parts.specs.Bars.{row_shown}
use Rattle.page_parts.specs.Shortened.{by_amount}
use Rattle.page_parts.specs.declared.bars.BarRow.{BarRow}
use Rattle.page_parts.proofs.RowOrder.{is_order, sorted_shown}
use Rattle.page_parts.proofs.shortened.sort.Goals as goal

pub returns : goal.returns
returns c =
    let old = c.args.rows.now.items in
    let new = c.sort_unstable_by.new.self.items in record {
      same = IsPermutation-map row_shown old new c.sort_unstable_by.ensures.permutation;
      order = sorted_shown row_shown by_amount new
          (c.sort_unstable_by.ensures.sorted (λ (x y : BarRow). is_lt (by_amount (row_shown x) (row_shown y)))
          (ranks_by is_order row_shown) (always_returns_same _ _ _ (λ a r f k. search rules)));
    }
