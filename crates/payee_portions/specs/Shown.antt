-- Portions as they are kept.
use Rattle.std.specs.Prelude.{List, map}
use Rattle.line_split.specs.UsageLine.{usage_line_of}
use Rattle.payee_portions.specs.Portions as portions
use Rattle.payee_portions.specs.declared.portion.Portion.{Portion}

abbrev pub portion_shown : Portion → portions.Portion
portion_shown portion = record {
  title = portion.title.now;
  line = usage_line_of portion.line;
  row = portion.row;
  share = portion.share;
  base = portion.base;
  amount = portion.amount;
}

abbrev pub portions_shown : List Portion → List portions.Portion
portions_shown portions = map portion_shown portions
