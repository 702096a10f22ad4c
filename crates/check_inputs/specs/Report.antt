-- The report on the inputs of a run: every fault, and what is in the files that have none.
use Rattle.std.specs.Prelude.{ℕ, ◌-◌, ◌==◌, ◌&&◌, ◌++◌, ◌∷◌, [], List, Option, codes}
use Rattle.std.specs.Prelude.{count_by, decimal, flat_map, if◌then◌else◌, length, nat_lt, not, take, unwrap_or}
use Rattle.std.specs.Fmt.{signed_decimal}
use Rattle.std.specs.Option.{option_map_or}
use Rattle.cwr_share.specs.CwrFile as cwr
use Rattle.cwr_share.specs.Lines.{lines_of}
use Rattle.cwr_share.specs.PassedOver.{unknown_lines, unused_rows}
use Rattle.cwr_share.specs.PayeeTable as payees
use Rattle.cwr_share.specs.Records.{opens_registration}
use Rattle.cwr_share.specs.Registered.{Registered}
use Rattle.cwr_share.specs.declared.cwr_fault.CwrFault.{CwrFault}
use Rattle.cwr_share.specs.declared.payee_fault.PayeeFault.{PayeeFault}
use Rattle.line_split.specs.UsageLine.{UsageLine}
use Rattle.line_split.specs.UsageTable as usage
use Rattle.line_split.specs.declared.line_fault.LineFault.{LineFault}
use Rattle.run_inputs.specs.declared.inputs.Inputs.{Inputs}
use Rattle.tis_tree.specs.TisRows as tis
use Rattle.tis_tree.specs.declared.tis_fault.TisFault.{TisFault}
use Rattle.usage_totals.specs.Repeats.{repeated_rows}
use Rattle.usage_totals.specs.declared.total.Total.{Total}
use Rattle.usage_totals.specs.declared.totals.Totals.{Totals}
use Rattle.check_inputs.specs.Form.{form_text, quote_if_given, quote_remark}
use Rattle.check_inputs.specs.Found.{Found}
use Rattle.check_inputs.specs.Items.{further_line, ranked_text, tally_line}
use Rattle.check_inputs.specs.Messages.{around, cwr_message, fact_line, fault_line, payee_message, remark_line}
use Rattle.check_inputs.specs.Messages.{tis_message, total_line, usage_message}
use Rattle.check_inputs.specs.declared.words.TheConstants.{MOST_FAULTS}

-- where there is no table of payees, a report names none
abbrev pub payees_path : (paths : Inputs (List ℕ)) → List ℕ
payees_path paths = unwrap_or paths.payees []

-- how many more faults there are than the first hundred
abbrev pub more_line : (path : List ℕ) → (count : ℕ) → List ℕ
more_line path count =
    if nat_lt MOST_FAULTS count then fact_line path (codes "further faults") (count - MOST_FAULTS) else []

-- the first hundred faults of a file, each as a line, and how many more there are
abbrev pub fault_lines : {X : Type 0} → (line : X → List ℕ) → (path : List ℕ) → List X → List ℕ
fault_lines line path faults = flat_map line (take MOST_FAULTS faults) ++ more_line path (length faults)

-- a fault of a row of a table, as a line
abbrev pub row_line : {F : Type 0} → (message : List (List ℕ) → F → List ℕ) → (place : F → Option ℕ) → (number : F → ℕ)
    → (path : List ℕ) → List (List ℕ) × F → List ℕ
row_line message place number path e = fault_line path (codes "row ") (place e.1) (message e.0 e.1) (number e.1)

abbrev pub tis_line : (path : List ℕ) → List (List ℕ) × TisFault → List ℕ
tis_line = row_line tis_message tis.place_of_fault tis.number_of_fault

abbrev pub payee_line : (path : List ℕ) → List (List ℕ) × PayeeFault → List ℕ
payee_line = row_line payee_message payees.place_of_fault payees.number_of_fault

abbrev pub usage_line : (path : List ℕ) → List (List ℕ) × LineFault → List ℕ
usage_line = row_line usage_message usage.place_of_fault usage.number_of_fault

abbrev pub cwr_line : (path : List ℕ) → List ℕ × CwrFault → List ℕ
cwr_line path e = fault_line path (codes "line ") (cwr.place_of_fault e.1) (cwr_message e.0 e.1)
    (cwr.number_of_fault e.1)

-- all faults, in the order in which a run reads the files
abbrev pub faults_text : (paths : Inputs (List ℕ)) → Found → List ℕ
faults_text paths found =
    fault_lines (tis_line paths.territories) paths.territories found.of_territories
    ++ fault_lines (payee_line (payees_path paths)) (payees_path paths) found.of_payees
    ++ fault_lines (cwr_line paths.registrations) paths.registrations found.of_registrations
    ++ fault_lines (usage_line paths.usage) paths.usage found.of_usage

-- a text about a file that has so many faults: there is one where it has none
abbrev pub if_none : (faults : ℕ) → List ℕ → List ℕ
if_none faults text = if faults == 0 then text else []

abbrev pub tis_facts : (path : List ℕ) → (faults : ℕ) → List (ℕ × List ℕ) → List ℕ
tis_facts path faults table = if_none faults (fact_line path (codes "territories") (length table))

abbrev pub payees_facts : (path : List ℕ) → (faults : ℕ) → List (List ℕ × List ℕ) → List ℕ
payees_facts path faults rows = if_none faults (fact_line path (codes "parties with a payee") (length rows))

-- Of the registrations that are in the file, those that are not in force were replaced by later ones. The residue's
-- account is one of the accounts, which are told where the payees have no fault.
abbrev pub cwr_numbers : (path : List ℕ) → (registrations : ℕ) → (payee_faults : ℕ) → Registered → List ℕ
cwr_numbers path registrations payee_faults registered =
    fact_line path (codes "works with a registration in force") (length registered.works)
    ++ fact_line path (codes "registrations replaced by later ones") (registrations - length registered.works)
    ++ fact_line path (codes "parties in force") (length registered.payees)
    ++ if_none payee_faults (fact_line path (codes "accounts, the residue's included") (length registered.accounts))
    ++ if_none registrations (remark_line path (codes "no line is an NWR or REV"))

abbrev pub cwr_facts : (path bytes : List ℕ) → (faults payee_faults : ℕ) → Option Registered → List ℕ
cwr_facts path bytes faults payee_faults registered =
    if_none faults (option_map_or
    (cwr_numbers path (count_by opens_registration (lines_of bytes)) payee_faults) registered [])

abbrev pub usage_facts : (path : List ℕ) → (faults : ℕ) → List UsageLine → List ℕ
usage_facts path faults lines =
    if_none faults (fact_line path (codes "usage lines") (length lines)
    ++ if_none (length lines) (remark_line path (codes "there are no usage lines"))
    ++ tally_line path (codes "rows that are the same as an earlier one") (codes "in row ") (repeated_rows lines))

-- a text about two files that have so many faults: there is one where neither has any
abbrev pub if_neither : (faults others : ℕ) → List ℕ → List ℕ
if_neither faults others text = if (faults == 0) && (others == 0) then text else []

-- share lines of registrations, replaced ones too, whose territory the table does not have
abbrev pub territories_remark : (path bytes : List ℕ) → (faults tis_faults : ℕ) → List (ℕ × List ℕ) → List ℕ
territories_remark path bytes faults tis_faults table =
    if_neither faults tis_faults (tally_line path
    (codes "share lines whose territory is not in the table") (codes "in line ")
    (unknown_lines table (lines_of bytes)))

-- rows of a table of payees whose party no registration in force has
abbrev pub payees_remark : (path : List ℕ) → (faults cwr_faults : ℕ) → List (List ℕ × List ℕ) → Option Registered
    → List ℕ
payees_remark path faults cwr_faults rows registered =
    if_neither faults cwr_faults (option_map_or (λ registered. tally_line path
    (codes "rows whose party no registration in force has") (codes "in row ") (unused_rows registered rows))
    registered [])

-- a work without a registration, and a territory that the table has not
abbrev pub work_line : (path : List ℕ) → List ℕ × Total → List ℕ
work_line path e = total_line path (around (codes "work '") e.0 (codes "' is not registered")) e.1 []

abbrev pub territory_line : (path : List ℕ) → ℕ × Total → List ℕ
territory_line path e = total_line path (codes "territory " ++ decimal e.0 ++ codes " is not in the table") e.1 []

-- a work of which something stays open, and one whose lines are claimed over
abbrev pub open_line : (path : List ℕ) → List ℕ × Total → List ℕ
open_line path e =
    path ++ codes ": " ++ around (codes "work '") e.0 (codes "' is not claimed in full: lines ")
    ++ decimal e.1.lines ++ codes ", to the residue " ++ signed_decimal e.1.amount ++ codes "\n"

abbrev pub claimed_over_line : (path : List ℕ) → List ℕ × Total → List ℕ
claimed_over_line path e =
    total_line path (around (codes "work '") e.0 (codes "' is claimed over 100.06 per cent")) e.1 []

-- the lines that are divided, and what of them is the residue's
abbrev pub divided_line : (path : List ℕ) → Totals → List ℕ
divided_line path totals = total_line path (codes "divided") totals.divided
    (codes ", to the residue " ++ signed_decimal totals.residue)

-- the lines of each reason
abbrev pub reasons_text : (path : List ℕ) → Totals → List ℕ
reasons_text path totals =
    divided_line path totals
    ++ total_line path (codes "WORK, not registered") totals.unregistered []
    ++ total_line path (codes "LAND, territory not in the table") totals.unknown []
    ++ total_line path (codes "OVER, claims over 100.06 per cent") totals.claimed_over []

-- what a run makes of so many lines, and what the inputs have nothing of, where there are lines
abbrev pub totals_text : (usage registrations territories : List ℕ) → (lines : ℕ) → Totals → List ℕ
totals_text usage registrations territories lines totals =
    reasons_text usage totals
    ++ ranked_text (work_line usage) usage (codes "further works that are not registered") totals.works
    ++ ranked_text (territory_line usage) usage (codes "further territories that are not in the table") totals.territories
    ++ ranked_text (open_line usage) usage (codes "further works that are not claimed in full") totals.left_open
    ++ (if nat_lt 0 lines && (totals.unregistered.lines == lines)
    then remark_line registrations (codes "it has the work of no usage line") else [])
    ++ (if nat_lt 0 lines && not totals.knows_a_territory
    then remark_line territories (codes "it has the territory of no usage line") else [])

-- how many more works are claimed over than are named
abbrev pub further_over : (path : List ℕ) → Totals → List ℕ
further_over path totals =
    further_line path (codes "further works that are claimed over 100.06 per cent") totals.over.count

-- what a run over one CWR file makes of the lines, with the works that are claimed over
abbrev pub run_text : (paths : Inputs (List ℕ)) → (lines : ℕ) → Totals → List ℕ
run_text paths lines totals =
    totals_text paths.usage paths.registrations paths.territories lines totals
    ++ flat_map (claimed_over_line paths.usage) totals.over.first.items ++ further_over paths.usage totals

-- What is in the files that have no fault, what is unusual in their form, and what of them a run passes over. Nothing is
-- said of a table of payees that is not there.
abbrev pub facts_text : (paths files : Inputs (List ℕ)) → Found → List ℕ
facts_text paths files found =
    (tis_facts paths.territories (length found.of_territories) found.table
    ++ quote_remark paths.territories files.territories)
    ++ (option_map_or (λ path. payees_facts path (length found.of_payees) found.rows) paths.payees []
    ++ quote_if_given (payees_path paths) files.payees)
    ++ (cwr_facts paths.registrations files.registrations (length found.of_registrations)
    (length found.of_payees) found.registered
    ++ form_text paths.registrations files.registrations)
    ++ (usage_facts paths.usage (length found.of_usage) found.lines ++ quote_remark paths.usage files.usage)
    ++ territories_remark paths.registrations files.registrations (length found.of_registrations)
    (length found.of_territories) found.table
    ++ payees_remark (payees_path paths) (length found.of_payees) (length found.of_registrations)
    found.rows found.registered
    ++ option_map_or (run_text paths (length found.lines)) found.totals []

-- the report
abbrev pub report_of : (paths files : Inputs (List ℕ)) → Found → List ℕ
report_of paths files found = faults_text paths found ++ facts_text paths files found
