use Rattle.std.proofs.Common.{map, take}
use Rattle.std.specs.Prelude.{option_map, string_bytes}
use Rattle.sales_import.specs.Mapped.{AreSources}
use Rattle.sales_import.proofs.mapping.sources.Given as goal

-- the words so far
abbrev pub invariant-loop-word : goal.invariant-loop-word
invariant-loop-word l = AreSources (option_map (λ row. row.now) l.header) (map string_bytes (take l.word-index l.words)) l.sources.items
