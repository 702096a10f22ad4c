use Rattle.std.proofs.lemmas.Result.{on_ok_weaker}
use Rattle.std.specs.Prelude.{string_bytes}
use Rattle.run_inputs.specs.Inputs.{map_inputs}
use Rattle.royalty_program.specs.Status.{IsOfPaths}
use Rattle.royalty_program.proofs.FileLemmas.{fails}
use Rattle.clap.proofs.TakesLemmas.{passed_up}
use Rattle.royalty_program.proofs.files.settle_one_file.Goals as goal

pub returns-in-Ok-clause-statements : goal.returns-in-Ok-clause-statements
returns-in-Ok-clause-statements g c =
    on_ok_weaker c.in-Ok.printed (λ wrote. (wrote.0, wrote.1, record { files = _; read = c.in_ok-inputs.ensures.read; statements = wrote.2 })) c.in-Ok.ensures.statements

pub returns-in-Ok-clause-read : goal.returns-in-Ok-clause-read
returns-in-Ok-clause-read g c = record { files = _; read = c.in_ok-inputs.ensures.read; sound = c.in-Ok.ensures.read }

pub returns-in-Err-clause-files : goal.returns-in-Err-clause-files
returns-in-Err-clause-files g c =
    rw c.from.ensures (fails (g.S.Source.holds c.args.files.now) (g.S.Source.refuses c.args.files.now) (map_inputs string_bytes c.args.inputs) c.in-Err.fault
    (record { files = _; read = c.in_ok-inputs.ensures.read; fault_of = c.in-Err.ensures.fault }))

pub returns-in_err-inputs-clause-files : goal.returns-in_err-inputs-clause-files
returns-in_err-inputs-clause-files g c =
    passed_up c.from_residual.result c.in_err-inputs.field-0.0 (IsOfPaths (g.S.Source.holds c.args.files.now) (g.S.Source.refuses c.args.files.now) (map_inputs string_bytes c.args.inputs))
    c.from_residual.ensures.1 c.in_err-inputs.ensures.files
