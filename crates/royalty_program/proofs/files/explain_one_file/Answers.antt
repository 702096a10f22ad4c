use Rattle.std.proofs.Common.{refl}
use Rattle.std.specs.Prelude.{string_bytes}
use Rattle.run_inputs.specs.Inputs.{map_inputs}
use Rattle.clap.proofs.TakesLemmas.{passed_up}
use Rattle.royalty_program.specs.Status.{IsUnexplained, failure_of_run}
use Rattle.royalty_program.proofs.FileLemmas.{fails}
use Rattle.royalty_program.proofs.OverLemmas.{as_unexplained}
use Rattle.royalty_program.proofs.files.explain_one_file.Goals as goal

pub returns-in-Ok-Some-clause-explanation : goal.returns-in-Ok-Some-clause-explanation
returns-in-Ok-Some-clause-explanation g c = record { files = _; read = c.in_ok-inputs.ensures.read; explanation = rw c.in-Ok-Some.field-0-is at c.in-Ok-Some.ensures.explained }

pub returns-in-Ok-None-clause-files : goal.returns-in-Ok-None-clause-files
returns-in-Ok-None-clause-files g c = (refl, record { files = _; read = c.in_ok-inputs.ensures.read; beyond = rw c.in-Ok-None.field-0-is at c.in-Ok-None.ensures.none })

pub returns-clause-files : goal.returns-clause-files
returns-clause-files g c =
    let paths = map_inputs string_bytes c.args.inputs in
    let holds = g.S.Source.holds c.args.files.now in
    let refuses = g.S.Source.refuses c.args.files.now in
    let fault = c.in-Err.fault in
    rw c.from.ensures
    (as_unexplained holds refuses paths c.args.row (failure_of_run fault)
    (fails holds refuses paths fault (record { files = _; read = c.in_ok-inputs.ensures.read; fault_of = c.in-Err.ensures.fault })))

pub returns-in_err-inputs-clause-files : goal.returns-in_err-inputs-clause-files
returns-in_err-inputs-clause-files g c =
    let paths = map_inputs string_bytes c.args.inputs in
    let holds = g.S.Source.holds c.args.files.now in
    let refuses = g.S.Source.refuses c.args.files.now in
    passed_up c.from_residual.result c.in_err-inputs.field-0.0 (IsUnexplained holds refuses paths c.args.row) c.from_residual.ensures.1
    (as_unexplained holds refuses paths c.args.row c.in_err-inputs.field-0.0 c.in_err-inputs.ensures.files)
