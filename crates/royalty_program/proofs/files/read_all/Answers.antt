use Rattle.std.specs.Prelude.{string_bytes}
use Rattle.run_inputs.specs.Inputs.{map_inputs}
use Rattle.royalty_program.specs.Status.{IsOfNoInput, IsOfPaths}
use Rattle.royalty_program.proofs.FileLemmas.{cwr_unread, no_input, no_input_if_given, payees_unread, tis_unread, usage_unread}
use Rattle.royalty_program.proofs.InputLemmas.{same_paths}
use Rattle.clap.proofs.TakesLemmas.{passed_up}
use Rattle.royalty_program.proofs.files.read_all.Goals as goal

pub returns-in_err-territories-clause-files : goal.returns-in_err-territories-clause-files
returns-in_err-territories-clause-files g c =
    let inputs = c.args.inputs in
    let holds = g.S.Source.holds c.args.files.now in
    let refuses = g.S.Source.refuses c.args.files.now in
    let failure = c.in_err-territories.field-0.0 in
    passed_up c.from_residual.result failure (IsOfPaths holds refuses (map_inputs string_bytes inputs)) c.from_residual.ensures.1
    (tis_unread holds refuses inputs failure c.in_err-territories.ensures.failure)

pub returns-in_err-payees-clause-files : goal.returns-in_err-payees-clause-files
returns-in_err-payees-clause-files g c =
    let inputs = c.args.inputs in
    let holds = g.S.Source.holds c.args.files.now in
    let refuses = g.S.Source.refuses c.args.files.now in
    let failure = c.in_err-payees.field-0.0 in
    passed_up c.from_residual-in_err-payees.result failure (IsOfPaths holds refuses (map_inputs string_bytes inputs)) c.from_residual-in_err-payees.ensures.1
    (payees_unread holds refuses inputs failure _ c.in_ok-territories.ensures.bytes c.in_err-payees.ensures.given c.in_err-payees.ensures.failure)

pub returns-in_err-registrations-clause-files : goal.returns-in_err-registrations-clause-files
returns-in_err-registrations-clause-files g c =
    let inputs = c.args.inputs in
    let holds = g.S.Source.holds c.args.files.now in
    let refuses = g.S.Source.refuses c.args.files.now in
    let failure = c.in_err-registrations.field-0.0 in
    passed_up c.from_residual-in_err-registrations.result failure (IsOfPaths holds refuses (map_inputs string_bytes inputs)) c.from_residual-in_err-registrations.ensures.1
    (cwr_unread holds refuses inputs failure _ c.in_ok-territories.ensures.bytes _ c.in_ok-payees.ensures.bytes c.in_err-registrations.ensures.failure)

pub returns-in_err-usage-clause-files : goal.returns-in_err-usage-clause-files
returns-in_err-usage-clause-files g c =
    let inputs = c.args.inputs in
    let holds = g.S.Source.holds c.args.files.now in
    let refuses = g.S.Source.refuses c.args.files.now in
    let failure = c.in_err-usage.field-0.0 in
    passed_up c.from_residual-in_err-usage.result failure (IsOfPaths holds refuses (map_inputs string_bytes inputs)) c.from_residual-in_err-usage.ensures.1
    (usage_unread holds refuses inputs failure _ c.in_ok-territories.ensures.bytes _ c.in_ok-payees.ensures.bytes _ c.in_ok-registrations.ensures.bytes c.in_err-usage.ensures.failure)

pub returns-in_err-territories-clause-no_input : goal.returns-in_err-territories-clause-no_input
returns-in_err-territories-clause-no_input g c =
    passed_up c.from_residual.result c.in_err-territories.field-0.0 IsOfNoInput c.from_residual.ensures.1
    (no_input (g.S.Source.refuses c.args.files.now) c.args.inputs.territories c.in_err-territories.field-0.0 c.in_err-territories.ensures.failure)

pub returns-in_err-payees-clause-no_input : goal.returns-in_err-payees-clause-no_input
returns-in_err-payees-clause-no_input g c =
    passed_up c.from_residual-in_err-payees.result c.in_err-payees.field-0.0 IsOfNoInput c.from_residual-in_err-payees.ensures.1
    (no_input_if_given (g.S.Source.refuses c.args.files.now) c.args.inputs.payees c.in_err-payees.field-0.0 c.in_err-payees.ensures.given c.in_err-payees.ensures.failure)

pub returns-in_err-registrations-clause-no_input : goal.returns-in_err-registrations-clause-no_input
returns-in_err-registrations-clause-no_input g c =
    passed_up c.from_residual-in_err-registrations.result c.in_err-registrations.field-0.0 IsOfNoInput c.from_residual-in_err-registrations.ensures.1
    (no_input (g.S.Source.refuses c.args.files.now) c.args.inputs.registrations c.in_err-registrations.field-0.0 c.in_err-registrations.ensures.failure)

pub returns-in_err-usage-clause-no_input : goal.returns-in_err-usage-clause-no_input
returns-in_err-usage-clause-no_input g c =
    passed_up c.from_residual-in_err-usage.result c.in_err-usage.field-0.0 IsOfNoInput c.from_residual-in_err-usage.ensures.1 (no_input (g.S.Source.refuses c.args.files.now) c.args.inputs.usage c.in_err-usage.field-0.0 c.in_err-usage.ensures.failure)

pub returns-clause-paths : goal.returns-clause-paths
returns-clause-paths g c = same_paths c.in_ok-territories.ensures.path c.in_ok-payees.ensures.path c.in_ok-registrations.ensures.path c.in_ok-usage.ensures.path
