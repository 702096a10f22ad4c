-- What is said of links. Contracts of private functions alone cite it, and no promise rests on it.
use Rattle.std.specs.Prelude.{ℕ, ◌≡◌, ◌&&◌, ◌++◌, All, Bool, List, [], Option, Some, if◌then◌else◌, is_some, length}
use Rattle.std.specs.Prelude.{not, zip}
use Rattle.std.specs.Option.{option_map_or}
use Rattle.cwr_share.specs.InForce.{IsOneRegistration}
use Rattle.cwr_share.specs.Registered.{Registered}
use Rattle.cwr_share.specs.Registrations.{ShareLine, find_work}
use Rattle.linked_works.specs.Linked.{Finds, finds_among}
use Rattle.linked_works.specs.Rows.{names_by}
use Rattle.linked_works.specs.Submitters.{AreSubmitters}
use Rattle.linked_works.specs.declared.works_fault.WorksFault.{WorksFault}
use Rattle.check_inputs.specs.SoFar.{PagesGoOn}
use Rattle.check_inputs.specs.SubmittedFound.{AreLinked}
use Rattle.check_inputs.specs.SubmittedReport.{linked_facts, links_line, payees_remark, rows_remark}
use Rattle.check_inputs.specs.declared.submitted_files.Pages.{Pages}
use Rattle.check_inputs.specs.declared.submitted_sources.Sources.{Sources}

-- what finds a registration among what is in force in the files
abbrev pub finds_in_force : Sources → Finds
finds_in_force sources = finds_among (zip sources.tables.works.names sources.files.in_force.items)

-- nothing that links are made of has a fault
abbrev pub are_sound : Sources → Bool
are_sound sources = sources.tables.are_sound && sources.files.are_sound

-- Each submitter has one file, and each registration in it keeps to the limits of one registration.
pub record ArePaired (sources : Sources) : Type 0 where
  pub names : names_by sources.names.now ≡ sources.tables.works.names
  pub submitters : AreSubmitters sources.tables.works.names
  pub files : length sources.files.in_force.items ≡ length sources.tables.works.names
  pub registrations : All (λ works. (number : List ℕ) (shares : List ShareLine)
      → find_work number works ≡ Some shares → IsOneRegistration shares) sources.files.in_force.items

-- The report goes on by what the links come to, or are refused for, where nothing that they are made of has a fault.
pub record LinksGoOn (sources : Sources) (path payees_path : List ℕ) (before after : Pages) (fault : Option WorksFault)
    (registry : Option Registered) : Type 0 where
  pub linked : AreLinked (are_sound sources) sources.tables.payees
      (finds_in_force sources) sources.tables.works.links fault registry
  pub on : PagesGoOn before after (not (is_some fault))
      (option_map_or (links_line path sources.tables.works.links) fault [])
      (option_map_or (linked_facts path) registry [])
      (option_map_or (payees_remark payees_path sources.tables.payees) registry []
      ++ (if are_sound sources
      then rows_remark path (finds_in_force sources) sources.tables.works.links
      ++ sources.files.unlinked.items else []))
