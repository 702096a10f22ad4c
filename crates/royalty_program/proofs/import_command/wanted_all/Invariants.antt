use Rattle.std.proofs.Common.{map, take}
use Rattle.royalty_program.specs.ImportCommand.{AreWanted}
use Rattle.royalty_program.proofs.import_command.wanted_all.Given as goal

-- the values so far
abbrev pub invariant-loop-value : goal.invariant-loop-value
invariant-loop-value l = AreWanted (take l.value-index (map (λ value. value.now) l.values)) l.wanted.items
