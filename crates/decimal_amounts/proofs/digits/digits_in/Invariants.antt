use Rattle.std.proofs.Common.{◌≡◌, ◌<◌, ◌^◌, take}
use Rattle.decimal_amounts.specs.Decimals.{value_of}
use Rattle.decimal_amounts.proofs.digits.digits_in.Given as goal

-- what the digits so far write, and that there are no more of them than bytes
abbrev pub invariant-loop-byte : goal.invariant-loop-byte
invariant-loop-byte l = record {
  value : l.value ≡ value_of (take l.byte-index l.text);
  small : l.value < 10 ^ l.byte-index;
}
