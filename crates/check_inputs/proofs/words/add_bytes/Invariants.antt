use Rattle.std.proofs.Common.{◌≡◌, ◌++◌, flat_map, take}
use Rattle.check_inputs.specs.Messages.{shown_byte}
use Rattle.check_inputs.proofs.words.add_bytes.Given as goal

abbrev pub invariant-loop-place : goal.invariant-loop-place
invariant-loop-place l = l.text.items ≡ l.initial.text.items ++ flat_map shown_byte (take l.place l.bytes)
