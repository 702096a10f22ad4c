use Rattle.std.proofs.Common.{◌≤◌, ◌^◌, map, take}
use Rattle.std.specs.Prelude.{string_bytes}
use Rattle.royalty_program.specs.MergeFiles.{AreSoundTexts}
use Rattle.royalty_program.proofs.merge_files.check_all.Given as goal

-- the texts so far are sound, and of so many usage lines
abbrev pub invariant-loop-path : goal.invariant-loop-path
invariant-loop-path g l = AreSoundTexts (g.S.Texts.gives l.files) (map string_bytes (take l.path-index l.paths)) l.lines × (l.lines ≤ 10 ^ 18)
