use Rattle.std.specs.Prelude.{string_bytes}
use Rattle.run_inputs.specs.Inputs.{map_inputs}
use Rattle.clap.proofs.TakesLemmas.{passed_up}
use Rattle.royalty_program.specs.Status.{IsUnchecked}
use Rattle.royalty_program.proofs.files.check_one_file.Goals as goal

pub returns-in_err-inputs-clause-files : goal.returns-in_err-inputs-clause-files
returns-in_err-inputs-clause-files g c =
    let holds = g.S.Source.holds c.args.files.now in
    let refuses = g.S.Source.refuses c.args.files.now in
    let paths = map_inputs string_bytes c.args.inputs in
    passed_up c.from_residual.result c.in_err-inputs.field-0.0 (IsUnchecked holds refuses paths) c.from_residual.ensures.1
    (c.in_err-inputs.ensures.files, c.in_err-inputs.ensures.no_input)

pub returns-in-Ok-clause-report : goal.returns-in-Ok-clause-report
returns-in-Ok-clause-report g c = record { files = _; read = c.in_ok-inputs.ensures.read; report = rw c.in_ok-inputs.ensures.paths at c.in-Ok.ensures }
