use Rattle.std.proofs.Common.{map, take}
use Rattle.std.specs.Prelude.{string_bytes}
use Rattle.royalty_program.specs.MergeFiles.{AreOpened}
use Rattle.royalty_program.proofs.merge_files.open_all.Given as goal

-- the readers so far are of the paths so far
abbrev pub invariant-loop-path : goal.invariant-loop-path
invariant-loop-path g l = AreOpened (g.S.Texts.gives l.files) (map string_bytes (take l.path-index l.paths)) (map g.S.Reader.Read.remaining l.readers.items)
