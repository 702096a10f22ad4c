use Rattle.std.proofs.Common.{◌∙◌, ◌+◌, ◌<◌, arith, length, subst, sym}
use Rattle.std.proofs.lemmas.List.{length-set}
use Rattle.std.proofs.lemmas.List.Elements.{All-get_or, All-set, All-weaker}
use Rattle.sales_import.specs.Tallies.{IsWithin}
use Rattle.sales_import.proofs.Counted.{within_more, within_row}
use Rattle.sales_import.proofs.summary.Summary.add_rejected.Goals as goal

pub returns-clause-within : goal.returns-clause-within
returns-clause-within c =
    let old = c.args.self.now in
    let number = c.args.number in
    let within = c.requires.within in
    let inside : c.place.result < length old.reasons = omega (arith, within.count, c.place.ensures.small) in
    record {
      all = subst (IsWithin (number + 1)) (sym c.add.ensures) (within_row number old.all c.args.counted within.all c.requires.counted);
      lines = within_more number old.lines within.lines;
      rejected = subst (IsWithin (number + 1)) (sym c.add-2.ensures) (within_row number old.rejected c.args.counted within.rejected c.requires.counted);
      reasons = All-set (IsWithin (number + 1)) old.reasons c.place.result c.add-3.new.self
          (subst (IsWithin (number + 1)) (sym c.add-3.ensures)
          (within_row number _ c.args.counted (All-get_or (IsWithin number) old.reasons c.place.result _ inside within.reasons) c.requires.counted))
          (All-weaker (IsWithin number) (IsWithin (number + 1)) (within_more number) old.reasons within.reasons);
      count = length-set old.reasons c.place.result c.add-3.new.self ∙ within.count;
      passed = within_more number old.passed within.passed;
    }
