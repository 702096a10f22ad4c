-- What is read of several submitters, part by part, and what is said of it. Contracts of private functions alone cite
-- it, and no promise rests on it.
use Rattle.std.specs.Prelude.{ℕ, ◌≡◌, ◌==◌, ◌&&◌, ◌++◌, List, [], Option, flat_map, length}
use Rattle.std.specs.Option.{option_map_or}
use Rattle.csv_table.specs.Table.{rows_of}
use Rattle.cwr_share.specs.Registered.{Registered}
use Rattle.cwr_share.specs.declared.payee_fault.PayeeFault.{PayeeFault}
use Rattle.line_split.specs.UsageLine.{UsageLine}
use Rattle.line_split.specs.UsageTable as usage
use Rattle.line_split.specs.declared.line_fault.LineFault.{LineFault}
use Rattle.linked_works.specs.Rows.{names_by}
use Rattle.linked_works.specs.Submitters.{AreSubmitters}
use Rattle.linked_works.specs.declared.works_fault.WorksFault.{WorksFault}
use Rattle.submitted_inputs.specs.declared.inputs.SubmittedTables.{SubmittedTables}
use Rattle.tis_tree.specs.TisRows as tis
use Rattle.tis_tree.specs.declared.tis_fault.TisFault.{TisFault}
use Rattle.usage_totals.specs.declared.totals.Totals.{Totals}
use Rattle.check_inputs.specs.Form.{quote_if_given, quote_remark}
use Rattle.check_inputs.specs.Found.{AreTotalsIfSound}
use Rattle.check_inputs.specs.LinksSoFar.{LinksGoOn, finds_in_force}
use Rattle.check_inputs.specs.Report.{fault_lines, further_over, payees_facts, tis_facts, tis_line, totals_text}
use Rattle.check_inputs.specs.Report.{usage_facts, usage_line}
use Rattle.check_inputs.specs.SoFar.{AreAllRead, PagesGoOn}
use Rattle.check_inputs.specs.SubmittedFound.{AreLinksWithout, ArePayeesWithout, FileFound}
use Rattle.check_inputs.specs.SubmittedOver.{over_text}
use Rattle.check_inputs.specs.SubmittedReport.{file_facts, file_faults, file_remark, payees_path, submitter_payee_line}
use Rattle.check_inputs.specs.SubmittedReport.{works_facts, works_line}
use Rattle.check_inputs.specs.declared.submitted_files.Pages.{Pages}
use Rattle.check_inputs.specs.declared.submitted_sources.Sources.{Sources}
use Rattle.check_inputs.specs.declared.submitted_sources.TablesRead.{TablesRead}

-- the tables are read, and the report goes on by what is said of each
pub record AreTablesRead (names : List (List ℕ)) (paths tables : SubmittedTables (List ℕ)) (before after : Pages)
    (read : TablesRead)
    : Type 0 where
  pub of_territories : List (List (List ℕ) × TisFault)
  pub of_payees : List (List (List ℕ) × PayeeFault)
  pub of_works : List (List (List ℕ) × WorksFault)
  pub territories : tis.IsReadWithout (rows_of tables.territories) of_territories read.territories
  pub payees : ArePayeesWithout names tables.payees of_payees read.payees
  pub works : AreLinksWithout names tables.works of_works read.works.links
  pub names_are : read.works.names ≡ names
  pub count : read.tis_faults ≡ length of_territories
  pub sound_is : read.are_sound ≡ ((length of_payees == 0) && (length of_works == 0))
  pub on : PagesGoOn before after ((length of_territories == 0) && ((length of_payees == 0) && (length of_works == 0)))
      (fault_lines (tis_line paths.territories) paths.territories of_territories
      ++ fault_lines (submitter_payee_line (payees_path paths)) (payees_path paths) of_payees
      ++ fault_lines (works_line paths.works) paths.works of_works)
      ((tis_facts paths.territories (length of_territories) read.territories
      ++ quote_remark paths.territories tables.territories)
      ++ (option_map_or (λ path. payees_facts path (length of_payees) read.payees) paths.payees []
      ++ quote_if_given (payees_path paths) tables.payees)
      ++ (works_facts paths.works (length of_works) read.works.links ++ quote_remark paths.works tables.works))
      []

-- so are the files
pub record AreSourcesOf (names file_paths : List (List ℕ)) (holds : ℕ → List ℕ → Type 0)
    (paths tables : SubmittedTables (List ℕ))
    (before after : Pages) (sources : Sources) : Type 0 where
  pub between : Pages
  pub tables_read : AreTablesRead names paths tables before between sources.tables
  pub found : List FileFound
  pub files_read : AreAllRead holds file_paths sources.tables.works found sources.files
  pub on : PagesGoOn between after sources.files.are_sound (flat_map file_faults found) (flat_map file_facts found)
      (flat_map (file_remark sources.tables.tis_faults sources.tables.territories) found)
  pub names_are : names_by sources.names.now ≡ names
  pub submitters : AreSubmitters names

-- what a run makes of the lines, where links are made of these sources
abbrev pub sources_text : (paths : SubmittedTables (List ℕ)) → Sources → List UsageLine → Registered → Totals → List ℕ
sources_text paths sources lines registered totals =
    totals_text paths.usage paths.works paths.territories (length lines) totals
    ++ (over_text paths.usage sources.tables.territories registered (finds_in_force sources) sources.tables.works.links
    sources.tables.works.names lines totals.over.first.items
    ++ further_over paths.usage totals)

-- the links are looked at, and the usage list is read, and the report goes on by what is said of them
pub record IsRunTold (paths : SubmittedTables (List ℕ)) (usage_list : List ℕ) (sources : Sources)
    (before after : Pages) : Type 0 where
  pub between : Pages
  pub of_links : Option WorksFault
  pub registered : Option Registered
  pub links : LinksGoOn sources paths.works (payees_path paths) before between of_links registered
  pub of_usage : List (List (List ℕ) × LineFault)
  pub lines : List UsageLine
  pub usage_read : usage.IsReadWithout (rows_of usage_list) of_usage lines
  pub totals : Option Totals
  pub are_totals : AreTotalsIfSound (between.sheet.is_sound && (length of_usage == 0))
      sources.tables.territories registered lines totals
  pub on : PagesGoOn between after (length of_usage == 0) (fault_lines (usage_line paths.usage) paths.usage of_usage)
      (usage_facts paths.usage (length of_usage) lines ++ quote_remark paths.usage usage_list)
      (option_map_or (λ registered. option_map_or (sources_text paths sources lines registered) totals [])
      registered [])
