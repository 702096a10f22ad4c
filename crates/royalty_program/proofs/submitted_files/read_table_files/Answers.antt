use Rattle.std.specs.Prelude.{string_bytes}
use Rattle.submitted_inputs.specs.Submitted.{map_tables}
use Rattle.clap.proofs.TakesLemmas.{passed_up}
use Rattle.royalty_program.proofs.SubmittedFileLemmas.{IsOfTablesOrRoom, payees_unread, same_tables, tis_unread, usage_unread, works_unread}
use Rattle.royalty_program.proofs.submitted_files.read_table_files.Goals as goal

pub returns-in_err-territories-clause-files : goal.returns-in_err-territories-clause-files
returns-in_err-territories-clause-files g c =
    let tables = c.args.paths in
    let holds = g.S.Source.holds c.args.files.now in
    let refuses = g.S.Source.refuses c.args.files.now in
    let failure = c.in_err-territories.field-0.0 in
    passed_up c.from_residual.result failure (IsOfTablesOrRoom holds refuses (map_tables string_bytes tables)) c.from_residual.ensures.1
    (tis_unread holds refuses tables failure c.in_err-territories.ensures.failure)

pub returns-in_err-usage-clause-files : goal.returns-in_err-usage-clause-files
returns-in_err-usage-clause-files g c =
    let tables = c.args.paths in
    let holds = g.S.Source.holds c.args.files.now in
    let refuses = g.S.Source.refuses c.args.files.now in
    let failure = c.in_err-usage.field-0.0 in
    passed_up c.from_residual-in_err-usage.result failure (IsOfTablesOrRoom holds refuses (map_tables string_bytes tables)) c.from_residual-in_err-usage.ensures.1
    (usage_unread holds refuses tables failure _ c.in_ok-territories.ensures.bytes _ c.in_ok-payees.ensures.bytes _ c.in_ok-works.ensures.bytes c.in_err-usage.ensures.failure)

pub returns-in_err-works-clause-files : goal.returns-in_err-works-clause-files
returns-in_err-works-clause-files g c =
    let tables = c.args.paths in
    let holds = g.S.Source.holds c.args.files.now in
    let refuses = g.S.Source.refuses c.args.files.now in
    let failure = c.in_err-works.field-0.0 in
    passed_up c.from_residual-in_err-works.result failure (IsOfTablesOrRoom holds refuses (map_tables string_bytes tables)) c.from_residual-in_err-works.ensures.1
    (works_unread holds refuses tables failure _ c.in_ok-territories.ensures.bytes _ c.in_ok-payees.ensures.bytes c.in_err-works.ensures.failure)

pub returns-in_err-payees-clause-files : goal.returns-in_err-payees-clause-files
returns-in_err-payees-clause-files g c =
    let tables = c.args.paths in
    let holds = g.S.Source.holds c.args.files.now in
    let refuses = g.S.Source.refuses c.args.files.now in
    let failure = c.in_err-payees.field-0.0 in
    passed_up c.from_residual-in_err-payees.result failure (IsOfTablesOrRoom holds refuses (map_tables string_bytes tables)) c.from_residual-in_err-payees.ensures.1
    (payees_unread holds refuses tables failure _ c.in_ok-territories.ensures.bytes c.in_err-payees.ensures.given c.in_err-payees.ensures.failure)

pub returns-clause-paths : goal.returns-clause-paths
returns-clause-paths g c = same_tables c.in_ok-territories.ensures.path c.in_ok-payees.ensures.path c.in_ok-works.ensures.path c.in_ok-usage.ensures.path
