use Rattle.std.proofs.Common.{All, map, take}
use Rattle.std.specs.Prelude.{string_bytes}
use Rattle.royalty_program.specs.OutputPath.{IsOther}
use Rattle.royalty_program.proofs.submitted_files.is_among.Given as goal

-- the path is none of those so far
abbrev pub invariant-loop-other : goal.invariant-loop-other
invariant-loop-other g l = All (IsOther l.path) (take l.other-index (map string_bytes l.paths))
