use Rattle.std.proofs.Common.{◌≡◌, ◌∙◌, ℕ, List, Option, Vec, Global, ap, drop, inl, length, map, refl, subst, sym}
use Rattle.std.proofs.lemmas.List.{length-map}
use Rattle.std.proofs.lemmas.Result.{err_from_is_err_and}
use Rattle.std.specs.Option.{option_map}
use Rattle.csv_table.specs.Table.{rows_of}
use Rattle.document_names.specs.FirstTexts.{AreFirstTexts}
use Rattle.document_names.specs.Titles.{titles_in_rows}
use Rattle.document_run.specs.Names.{AreNamesOf, items_of, names_by_table}
use Rattle.submitted_inputs.specs.Submitted.{IsReading, map_tables}
use Rattle.document_run.proofs.NameLemmas.{as_many}
use Rattle.document_run.proofs.SubmitterLemmas.{as_many_by_table, of_tables, of_unreadable}
use Rattle.document_run.proofs.submitters.read_named.Goals as goal

pub returns-in_err-by_table-clause-fault : goal.returns-in_err-by_table-clause-fault
returns-in_err-by_table-clause-fault g c =
    let exit = err_from_is_err_and c.from_residual-in_err-by_table.result c.from_residual-in_err-by_table.ensures.1 in
    rw (exit.1, exit.2) (inl refl)

pub names_in_files-requires : goal.names_in_files-requires
names_in_files-requires g c =
    let item = λ (text : Vec ℕ Global). text.items in
    let by_table = c.in_ok-by_table.by_table.items in
    sym (length-map by_table item) ∙ ap length c.in_ok-by_table.ensures
    ∙ as_many_by_table (option_map g.I.Input.bytes c.args.inputs.tables.now.payees) (map item c.parties.result.now)
    ∙ ap length (c.parties.ensures ∙ sym c.parties-2.ensures) ∙ length-map c.parties-2.result.now item

pub returns-in_err-names-clause-fault : goal.returns-in_err-names-clause-fault
returns-in_err-names-clause-fault g c =
    let exit = err_from_is_err_and c.from_residual-in_err-names.result c.from_residual-in_err-names.ensures.1 in
    let submitters = c.args.inputs.submitters.now in
    let holds = g.S.SubmitterFiles.holds c.args.inputs.files.now in
    let read = of_tables g.I.Input.bytes c.lent.result c.args.inputs.tables.now (λ tables. IsReading submitters holds tables c.in_ok-read.read) c.lent.ensures c.in_ok-read.ensures.read in
    rw (exit.1, exit.2)
    (of_unreadable submitters holds (g.S.SubmitterFiles.refuses c.args.inputs.files.now) (map_tables g.I.Input.bytes c.args.inputs.tables.now) c.in_ok-read.read c.in_err-names.field-0.0 read
    c.in_err-names.ensures.fault)

pub returns-clause-ready : goal.returns-clause-ready
returns-clause-ready g c =
    let item = λ (text : Vec ℕ Global). text.items in
    let accounts : List (List ℕ) = map item c.parties-2.result.now in
    let found = c.in_ok-names.ensures.names in
    let known : length (items_of c.in_ok-by_table.by_table) ≡ length accounts =
    ap length c.in_ok-by_table.ensures
    ∙ as_many_by_table (option_map g.I.Input.bytes c.args.inputs.tables.now.payees) (map item c.parties.result.now) ∙ ap length (c.parties.ensures ∙ sym c.parties-2.ensures) in
    record {
      accounts = c.in_ok-read.ensures.read.registrations.1;
      names = as_many c.args.inputs.submitters.now found.files accounts (items_of c.in_ok-by_table.by_table) c.in_ok-names.names found.names_are known ∙ ap length c.parties-2.ensures;
    }

pub returns-clause-read : goal.returns-clause-read
returns-clause-read g c =
    let tables = c.in_ok-read.read in
    let submitters = c.args.inputs.submitters.now in
    let holds = g.S.SubmitterFiles.holds c.args.inputs.files.now in
    let inputs = map_tables g.I.Input.bytes c.args.inputs.tables.now in
    let accounts = tables.registry.accounts in
    let known : items_of c.in_ok-by_table.by_table ≡ names_by_table inputs.payees accounts = c.in_ok-by_table.ensures ∙ ap (names_by_table inputs.payees) c.parties.ensures in
    record {
      read = of_tables g.I.Input.bytes c.lent.result c.args.inputs.tables.now (λ t. IsReading submitters holds t tables) c.lent.ensures c.in_ok-read.ensures.read;
      named_by = record {
        titles_are = subst (λ (bytes : List ℕ). AreFirstTexts (titles_in_rows (drop 1 (rows_of bytes))) c.in_ok-titles.titles) c.bytes.ensures c.in_ok-titles.ensures;
        names_are =
            subst (λ (texts : List (List ℕ)). AreNamesOf submitters holds accounts texts (items_of c.in_ok-names.names)) known
            (subst (λ (all : List (List ℕ)). AreNamesOf submitters holds all (items_of c.in_ok-by_table.by_table) (items_of c.in_ok-names.names)) c.parties-2.ensures c.in_ok-names.ensures.names);
      };
    }
