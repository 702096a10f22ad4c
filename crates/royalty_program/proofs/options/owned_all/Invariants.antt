use Rattle.std.proofs.Common.{◌≡◌, map, take}
use Rattle.std.specs.Prelude.{string_bytes}
use Rattle.royalty_program.proofs.options.owned_all.Given as goal

-- those that are owned are the texts so far
abbrev pub invariant-loop-text : goal.invariant-loop-text
invariant-loop-text l = map string_bytes l.own.items ≡ take l.text-index (map (λ text. text.now) l.texts)
