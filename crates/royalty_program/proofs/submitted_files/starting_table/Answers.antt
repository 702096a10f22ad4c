use Rattle.std.proofs.Common.{map}
use Rattle.std.specs.Prelude.{string_bytes}
use Rattle.royalty_program.proofs.SubmittedFileLemmas.{of_files}
use Rattle.royalty_program.proofs.submitted_files.starting_table.Goals as goal

pub returns-in-Err-clause-files : goal.returns-in-Err-clause-files
returns-in-Err-clause-files g c =
    let asked = c.args.asked in
    of_files (g.S.Source.holds c.args.files.now) (g.S.Source.refuses c.args.files.now) (map string_bytes asked.files.paths.items) c.in-Err.fault c.what_failed.result
    c.what_failed.ensures.said c.what_failed.ensures.beyond asked.files.names (rw c.as_slice.ensures.value at c.in-Err.ensures.fault)
