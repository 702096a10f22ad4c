use Rattle.std.proofs.Common.{◌≡◌, take}
use Rattle.std.specs.Str.Parse.{AllDigits, digits_value}
use Rattle.csv_table.proofs.forms.number_up_to.Given as goal

-- the bytes so far are digits, and write the number so far
abbrev pub invariant-loop-byte : goal.invariant-loop-byte
invariant-loop-byte l = record {
  digits : AllDigits 10 (take l.byte-index l.field);
  number : l.number ≡ digits_value 10 (take l.byte-index l.field);
}
