use Rattle.std.proofs.Common.{map, refl}
use Rattle.std.specs.Prelude.{string_bytes}
use Rattle.royalty_program.specs.SubmittedFiles.{paths_of}
use Rattle.royalty_program.proofs.OverLemmas.{as_submitted_unexplained}
use Rattle.royalty_program.proofs.SubmittedFileLemmas.{of_inputs}
use Rattle.royalty_program.proofs.submitted_files.explain_in_submitted.Goals as goal

pub returns-in-Ok-Some-clause-explanation : goal.returns-in-Ok-Some-clause-explanation
returns-in-Ok-Some-clause-explanation g c = record {
  tables = _;
  read = c.in_ok-tables.ensures.read;
  explanation = rw (c.as_slice.ensures.value, c.in-Ok-Some.field-0-is) at c.in-Ok-Some.ensures.explained;
}

pub returns-in-Ok-None-clause-files : goal.returns-in-Ok-None-clause-files
returns-in-Ok-None-clause-files g c = (
  refl,
  record {
    tables = _;
    read = c.in_ok-tables.ensures.read;
    beyond = rw (c.as_slice.ensures.value, c.in-Ok-None.field-0-is) at c.in-Ok-None.ensures.none;
  },
)

pub returns-clause-files : goal.returns-clause-files
returns-clause-files g c =
    let inputs = c.args.inputs in
    let holds = g.S.Source.holds c.args.files.now in
    let refuses = g.S.Source.refuses c.args.files.now in
    as_submitted_unexplained holds refuses (paths_of inputs) c.args.row c.what_failed.result
    (of_inputs holds refuses (map string_bytes inputs.files.paths.items) c.in-Err.fault c.what_failed.result
    c.what_failed.ensures.said c.what_failed.ensures.beyond (paths_of inputs) refl
    (record { tables = _; read = c.in_ok-tables.ensures.read; fault_of = rw c.as_slice.ensures.value at c.in-Err.ensures.fault }))
