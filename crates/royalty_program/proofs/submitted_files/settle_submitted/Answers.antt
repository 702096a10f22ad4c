use Rattle.std.proofs.Common.{map, refl}
use Rattle.std.proofs.lemmas.Result.{on_ok_weaker}
use Rattle.std.specs.Prelude.{string_bytes}
use Rattle.royalty_program.specs.SubmittedFiles.{paths_of}
use Rattle.royalty_program.proofs.SubmittedFileLemmas.{of_inputs}
use Rattle.royalty_program.proofs.submitted_files.settle_submitted.Goals as goal

pub returns-in-Ok-settle_tables_to-clause-statements : goal.returns-in-Ok-settle_tables_to-clause-statements
returns-in-Ok-settle_tables_to-clause-statements g c =
    on_ok_weaker c.in-Ok-settle_tables_to.printed
    (λ wrote. (
      wrote.0,
      wrote.1,
      record {
        tables = _;
        read = c.in_ok-tables.ensures.read;
        statements = record { tables = c.in-Ok.tables; read = rw c.as_slice.ensures.value at c.in-Ok.ensures.read; statements = wrote.2 };
      },
    ))
    c.in-Ok-settle_tables_to.ensures.statements

pub returns-clause-files : goal.returns-clause-files
returns-clause-files g c =
    let inputs = c.args.inputs in
    of_inputs (g.S.Source.holds c.args.files.now) (g.S.Source.refuses c.args.files.now) (map string_bytes inputs.files.paths.items) c.in-Err.fault c.what_failed.result
    c.what_failed.ensures.said c.what_failed.ensures.beyond (paths_of inputs) refl
    (record { tables = _; read = c.in_ok-tables.ensures.read; fault_of = rw c.as_slice.ensures.value at c.in-Err.ensures.fault })
