use Rattle.std.proofs.Common.{map, refl}
use Rattle.std.specs.Prelude.{string_bytes}
use Rattle.royalty_program.specs.SubmittedFiles.{paths_of}
use Rattle.royalty_program.proofs.SubmittedFileLemmas.{of_unread}
use Rattle.royalty_program.proofs.submitted_files.check_in_submitted.Goals as goal

pub check_submitted-requires : goal.check_submitted-requires
check_submitted-requires g c = rw c.as_slice-paths.ensures.value c.requires

pub returns-in-Ok-clause-report : goal.returns-in-Ok-clause-report
returns-in-Ok-clause-report g c = record {
  tables = _;
  read = c.in_ok-tables.ensures.read;
  report = rw (c.as_slice-paths.ensures.value, c.in_ok-tables.ensures.paths) at c.in-Ok.ensures.report;
}

pub returns-in-Err-clause-files : goal.returns-in-Err-clause-files
returns-in-Err-clause-files g c =
    let inputs = c.args.inputs in
    let holds = g.S.Source.holds c.args.files.now in
    let refuses = g.S.Source.refuses c.args.files.now in
    of_unread holds refuses (map string_bytes inputs.files.paths.items) c.in-Err.fault c.what_failed.result
    c.what_failed.ensures.said c.what_failed.ensures.beyond (paths_of inputs) _ refl c.in_ok-tables.ensures.read (rw c.as_slice-paths.ensures.value at c.in-Err.ensures.fault)
