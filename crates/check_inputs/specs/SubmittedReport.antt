-- The report on the inputs of a run over the files of several submitters.
use Rattle.std.specs.Prelude.{ℕ, ◌-◌, ◌++◌, [], List, codes, count_by, flat_map, if◌then◌else◌, length, map, unwrap_or}
use Rattle.std.specs.Prelude.{zip}
use Rattle.std.specs.Option.{option_map_or}
use Rattle.cwr_share.specs.Lines.{lines_of}
use Rattle.cwr_share.specs.PassedOver.{unused_rows}
use Rattle.cwr_share.specs.PayeeTable as payees
use Rattle.cwr_share.specs.Records.{opens_registration}
use Rattle.cwr_share.specs.Registered.{Registered}
use Rattle.cwr_share.specs.declared.payee_fault.PayeeFault.{PayeeFault}
use Rattle.linked_works.specs.Linked.{Finds, Link}
use Rattle.linked_works.specs.PassedOver.{rows_not_in_force, unlinked_numbers}
use Rattle.linked_works.specs.WorksTable as works
use Rattle.starting_tables.specs.InForce.{number_of, registrations_in_force}
use Rattle.linked_works.specs.declared.works_fault.WorksFault.{WorksFault}
use Rattle.submitted_inputs.specs.declared.inputs.SubmittedTables.{SubmittedTables}
use Rattle.usage_totals.specs.declared.totals.Totals.{Totals}
use Rattle.check_inputs.specs.Messages.{around, fact_line, fault_line, remark_line}
use Rattle.check_inputs.specs.Form.{form_text, quote_if_given, quote_remark}
use Rattle.check_inputs.specs.Items.{items_line, tally_line}
use Rattle.check_inputs.specs.Report.{cwr_line, fault_lines, further_over, if_none, payees_facts, row_line}
use Rattle.check_inputs.specs.Report.{territories_remark, tis_facts, tis_line, totals_text, usage_facts, usage_line}
use Rattle.check_inputs.specs.SubmittedFound.{FileFound, SubmittedFound, are_linked, finds_of}
use Rattle.check_inputs.specs.SubmittedOver.{over_text}
use Rattle.check_inputs.specs.SubmittedMessages.{links_message, submitter_payee_message, works_message}

-- where there is no table of payees, a report names none
abbrev pub payees_path : (paths : SubmittedTables (List ℕ)) → List ℕ
payees_path paths = unwrap_or paths.payees []

abbrev pub submitter_payee_line : (path : List ℕ) → List (List ℕ) × PayeeFault → List ℕ
submitter_payee_line = row_line submitter_payee_message payees.place_of_fault payees.number_of_fault

abbrev pub works_line : (path : List ℕ) → List (List ℕ) × WorksFault → List ℕ
works_line = row_line works_message works.place_of_fault works.number_of_fault

abbrev pub file_faults : FileFound → List ℕ
file_faults file = fault_lines (cwr_line file.path) file.path file.faults

abbrev pub links_line : (path : List ℕ) → List Link → WorksFault → List ℕ
links_line path links fault =
    fault_line path (codes "row ") (works.place_of_fault fault) (links_message links fault)
    (works.number_of_fault fault)

-- the faults told of each input, in the order in which a run looks for them
abbrev pub faults_text : (paths : SubmittedTables (List ℕ)) → SubmittedFound → List ℕ
faults_text paths found =
    fault_lines (tis_line paths.territories) paths.territories found.of_territories
    ++ fault_lines (submitter_payee_line (payees_path paths)) (payees_path paths) found.of_payees
    ++ fault_lines (works_line paths.works) paths.works found.of_works
    ++ flat_map file_faults found.files
    ++ option_map_or (links_line paths.works found.links) found.of_links []
    ++ fault_lines (usage_line paths.usage) paths.usage found.of_usage

abbrev pub works_facts : (path : List ℕ) → (faults : ℕ) → List Link → List ℕ
works_facts path faults links = if_none faults (fact_line path (codes "registrations linked") (length links))

-- of the registrations that are in a file, those that are not in force were replaced by later ones
abbrev pub file_numbers : (path : List ℕ) → (registrations in_force : ℕ) → List ℕ
file_numbers path registrations in_force =
    fact_line path (codes "registrations in force") in_force
    ++ fact_line path (codes "registrations replaced by later ones") (registrations - in_force)
    ++ if_none registrations (remark_line path (codes "no line is an NWR or REV"))

abbrev pub file_facts : FileFound → List ℕ
file_facts file =
    if_none (length file.faults) (file_numbers file.path (count_by opens_registration (lines_of file.bytes))
    (length file.works))
    ++ form_text file.path file.bytes

-- what the links come to; the residue's account is one of the accounts
abbrev pub linked_facts : (path : List ℕ) → Registered → List ℕ
linked_facts path registered =
    fact_line path (codes "works with a registration in force") (length registered.works)
    ++ fact_line path (codes "parties in force") (length registered.payees)
    ++ fact_line path (codes "accounts, the residue's included") (length registered.accounts)

-- what is in the inputs that have no fault, and what is unusual in their form; nothing is said of a table of payees that
-- is not there
abbrev pub facts_text : (paths tables : SubmittedTables (List ℕ)) → SubmittedFound → List ℕ
facts_text paths tables found =
    (tis_facts paths.territories (length found.of_territories) found.table
    ++ quote_remark paths.territories tables.territories)
    ++ (option_map_or (λ path. payees_facts path (length found.of_payees) found.rows) paths.payees []
    ++ quote_if_given (payees_path paths) tables.payees)
    ++ (works_facts paths.works (length found.of_works) found.links ++ quote_remark paths.works tables.works)
    ++ flat_map file_facts found.files
    ++ option_map_or (linked_facts paths.works) found.registered []
    ++ (usage_facts paths.usage (length found.of_usage) found.lines ++ quote_remark paths.usage tables.usage)

-- share lines whose territory is not in the table, in a file
abbrev pub file_remark : (tis_faults : ℕ) → List (ℕ × List ℕ) → FileFound → List ℕ
file_remark tis_faults table file = territories_remark file.path file.bytes (length file.faults) tis_faults table

-- a number as it stands, in quotes
abbrev pub quoted : List ℕ → List ℕ
quoted number = around (codes "'") number (codes "'")

-- the numbers of the registrations in force of a file, in the order in which their NWR or REV records stand
abbrev pub numbers_in_force : (bytes : List ℕ) → List (List ℕ)
numbers_in_force bytes = map number_of (registrations_in_force (lines_of bytes))

-- those of a submitter's file that no row links
abbrev pub unlinked_remark : List Link → (submitter : List ℕ) → (path bytes : List ℕ) → List ℕ
unlinked_remark links submitter path bytes =
    items_line quoted path (codes "registrations in force that no row links") []
    (unlinked_numbers links submitter (numbers_in_force bytes))

-- the same for each file, under its submitter's name
abbrev pub unlinked_remarks : List Link → (names : List (List ℕ)) → List FileFound → List ℕ
unlinked_remarks links names files = flat_map (λ e. unlinked_remark links e.0 e.1.path e.1.bytes) (zip names files)

-- rows of payees whose party no registration that is linked has
abbrev pub payees_remark : (path : List ℕ) → List (List ℕ × List ℕ) → Registered → List ℕ
payees_remark path rows registered =
    tally_line path (codes "rows whose party no registration that is linked has") (codes "in row ")
    (unused_rows registered rows)

-- rows that link nothing
abbrev pub rows_remark : (path : List ℕ) → Finds → List Link → List ℕ
rows_remark path finds links =
    tally_line path (codes "rows whose registration is not in force") (codes "in row ") (rows_not_in_force finds links)

-- and registrations that no row links
abbrev pub links_remarks : (path : List ℕ) → (names : List (List ℕ)) → List FileFound → List Link → List ℕ
links_remarks path names files links =
    rows_remark path (finds_of names files) links ++ unlinked_remarks links names files

-- what a run passes over; what is said of links is said only where the tables that they are made of and all files have
-- no fault
abbrev pub remarks_text : (names : List (List ℕ)) → (paths : SubmittedTables (List ℕ)) → SubmittedFound → List ℕ
remarks_text names paths found =
    flat_map (file_remark (length found.of_territories) found.table) found.files
    ++ option_map_or (payees_remark (payees_path paths) found.rows) found.registered []
    ++ (if are_linked found then links_remarks paths.works names found.files found.links else [])

-- the works with most money of the lines that are claimed over, where a run makes something of the lines
abbrev pub over_works : (names : List (List ℕ)) → (path : List ℕ) → SubmittedFound → Registered → Totals → List ℕ
over_works names path found registered totals =
    over_text path found.table registered (finds_of names found.files) found.links names found.lines
    totals.over.first.items
    ++ further_over path totals

-- what a run makes of the lines; the table of works takes the place of the CWR file in a run over one file
abbrev pub run_text : (names : List (List ℕ)) → (paths : SubmittedTables (List ℕ)) → SubmittedFound → Registered
    → Totals → List ℕ
run_text names paths found registered totals =
    totals_text paths.usage paths.works paths.territories (length found.lines) totals
    ++ over_works names paths.usage found registered totals

-- the report
abbrev pub report_of : (names : List (List ℕ)) → (paths tables : SubmittedTables (List ℕ)) → SubmittedFound → List ℕ
report_of names paths tables found =
    faults_text paths found ++ facts_text paths tables found ++ remarks_text names paths found
    ++ option_map_or (λ registered. option_map_or (run_text names paths found registered) found.totals [])
    found.registered []
