use Rattle.std.proofs.Common.{List, flat_map, map, string_bytes, take}
use Rattle.check_inputs.specs.SoFar.{AreAllRead, PagesGoOn}
use Rattle.check_inputs.specs.SubmittedFound.{FileFound}
use Rattle.check_inputs.specs.SubmittedReport.{file_facts, file_faults, file_remark}
use Rattle.check_inputs.proofs.submitted_files.read_files.Given as goal

abbrev pub invariant-loop-place : goal.invariant-loop-place
invariant-loop-place g l = (found : List FileFound)
    × AreAllRead (g.F.SubmitterFiles.holds l.files) (map string_bytes (take l.place l.paths)) l.works found l.read
    × PagesGoOn l.initial.pages l.pages l.read.are_sound (flat_map file_faults found) (flat_map file_facts found) (flat_map (file_remark l.tis_faults l.territories) found)
