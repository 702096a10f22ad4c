use Rattle.std.proofs.Common.{map}
use Rattle.std.specs.Prelude.{string_bytes}
use Rattle.royalty_program.proofs.NamedLemmas.{AreNamedTo}
use Rattle.royalty_program.proofs.named_files.named_files.Given as goal

-- the files are those of the values so far
abbrev pub invariant-loop-value : goal.invariant-loop-value
invariant-loop-value l = AreNamedTo (map (λ value. value.now) l.values) l.value-index l.files.names (map string_bytes l.files.paths.items)
