-- The inputs of a run over the files of several submitters: what they are read as, and what they are refused for.
use Rattle.std.specs.Prelude.{ℕ, ◌≡◌, ◌<◌, ◌⊎◌, All, List, [], Option, Some, None, length, map, slice_index_or, zip}
use Rattle.std.specs.Option.{option_map}
use Rattle.csv_table.specs.Table.{rows_of}
use Rattle.cwr_share.specs.CwrFile.{AreSound}
use Rattle.cwr_share.specs.Lines.{lines_of}
use Rattle.cwr_share.specs.Registered.{IsRegistered, Registered}
use Rattle.cwr_share.specs.RegistryOf.{IsRegistryOf}
use Rattle.cwr_share.specs.declared.payee_fault.PayeeFault.{PayeeFault}
use Rattle.line_split.specs.UsageTable as usage
use Rattle.linked_works.specs.Linked.{Finds, Link, finds_in, shares_linked}
use Rattle.linked_works.specs.ManyPayees.{IsFaultOfLinks}
use Rattle.linked_works.specs.SubmitterPayees as payees
use Rattle.linked_works.specs.WorksTable as works
use Rattle.run_inputs.specs.Inputs.{ThisOrLater}
use Rattle.run_inputs.specs.declared.inputs.Tables.{Tables}
use Rattle.tis_tree.specs.TisRows as tis
use Rattle.submitted_inputs.specs.Faults.{fault_of_payees, fault_of_tis, fault_of_usage, fault_of_works}
use Rattle.submitted_inputs.specs.Files.{IsFaultOfFiles}
use Rattle.submitted_inputs.specs.declared.fault.SubmittedFault.{SubmittedFault}
use Rattle.submitted_inputs.specs.declared.fault.SubmittedFault.TheVariants.{Room}
use Rattle.submitted_inputs.specs.declared.inputs.SubmittedTables.{SubmittedTables}

-- each table by a function: a lent table's bytes, say
abbrev pub map_tables : {A B : Type 0} → (A → B) → SubmittedTables A → SubmittedTables B
map_tables f tables = record {
  territories = f tables.territories;
  payees = option_map f tables.payees;
  works = f tables.works;
  usage = f tables.usage;
}

-- who is paid what a party of a submitter claims, by a table that need not be there
abbrev pub ArePayees : (names : List (List ℕ)) → Option (List ℕ) → List (List ℕ × List ℕ) → Type 0
ArePayees names None rows = rows ≡ []
ArePayees names (Some file) rows = payees.IsTableOf names (rows_of file) rows

-- a table of payees is refused, where there is one
abbrev pub IsFaultOfPayees : (names : List (List ℕ)) → Option (List ℕ) → PayeeFault → Type 0
IsFaultOfPayees names None fault = ⊥
IsFaultOfPayees names (Some file) fault = payees.IsFaultOf names (rows_of file) fault

-- the files of `count` submitters hold these bytes, in their order, which are sound CWR
pub record AreFiles (holds : ℕ → List ℕ → Type 0) (count : ℕ) (files : List (List ℕ)) : Type 0 where
  pub all : length files ≡ count
  pub held : (place : ℕ) → place < count → holds place (slice_index_or files place [])
  pub sound : All (λ bytes. AreSound (lines_of bytes)) files

-- what finds the share lines of a submitter's registration in force, in the files of these submitters
abbrev pub finds_by : (names files : List (List ℕ)) → Finds
finds_by names files = finds_in (zip names (map lines_of files))

-- What claims are found by, where links say which registrations are of which work: each work has the share lines of its
-- registrations in force, and parties of submitters are paid by these rows.
abbrev pub AreRegistrations : (rows : List (List ℕ × List ℕ)) → Finds → List Link → Registered → Type 0
AreRegistrations rows finds links registered =
    IsRegistryOf rows (shares_linked finds links) registered × IsRegistered registered

-- the files hold what such registrations are found in
abbrev pub AreFoundIn : (names : List (List ℕ)) → (holds : ℕ → List ℕ → Type 0) → (rows : List (List ℕ × List ℕ))
    → List Link → Registered → Type 0
AreFoundIn names holds rows links registered = (files : List (List ℕ)) × AreFiles holds (length names) files
    × AreRegistrations rows (finds_by names files) links registered

-- What the tables, and the files of submitters with these names, were read as.
pub record IsReading (names : List (List ℕ)) (holds : ℕ → List ℕ → Type 0) (inputs : SubmittedTables (List ℕ))
    (tables : Tables) : Type 0 where
  pub territories : tis.IsTableOf (rows_of inputs.territories) tables.territories
  pub rows : List (List ℕ × List ℕ)
  pub payees_are : ArePayees names inputs.payees rows
  pub links : List Link
  pub works_are : works.IsTableOf names (rows_of inputs.works) links
  pub files : List (List ℕ)
  pub files_are : AreFiles holds (length names) files
  pub registrations : AreRegistrations rows (finds_by names files) links tables.registry
  pub uses : usage.IsTableOf (rows_of inputs.usage) tables.usage

-- a fault of the run that is one of an input's own
abbrev pub IsFaultAs : {F : Type 0} → (as_fault : F → SubmittedFault) → (IsOwnFault : F → Type 0) → SubmittedFault
    → Type 0
IsFaultAs {F} as_fault IsOwnFault fault = (own : F) × IsOwnFault own × (fault ≡ as_fault own)

-- there are no such registrations: memory was refused, or a file is, or what the links come to with all files
abbrev pub IsFaultOfRegistrations : (names : List (List ℕ)) → (holds : ℕ → List ℕ → Type 0) → (refuses : ℕ → Type 0)
    → (rows : List (List ℕ × List ℕ)) → List Link → SubmittedFault → Type 0
IsFaultOfRegistrations names holds refuses rows links fault =
    (fault ≡ Room)
    ⊎ IsFaultOfFiles holds refuses (length names) fault
    ⊎ ((files : List (List ℕ)) × AreFiles holds (length names) files
    × IsFaultAs fault_of_works (IsFaultOfLinks rows (finds_by names files) links) fault)

-- What a run is refused for: the first input that is refused, for its first fault; those before it were read. They come
-- in this order: territories, payees, the table of works by itself, the files of the submitters, what the table of
-- works comes to by their registrations, and the usage lines. Or it is refused for lack of memory, which is no fault of
-- an input.
abbrev pub IsFaultOf : (names : List (List ℕ)) → (holds : ℕ → List ℕ → Type 0) → (refuses : ℕ → Type 0)
    → (inputs : SubmittedTables (List ℕ)) → SubmittedFault → Type 0
IsFaultOf names holds refuses inputs fault =
    let territories = rows_of inputs.territories in
    let payees_in = inputs.payees in
    let links_in = rows_of inputs.works in
    (fault ≡ Room)
    ⊎ ThisOrLater (IsFaultAs fault_of_tis (tis.IsFaultOf territories)) (tis.IsTableOf territories) (λ _.
    ThisOrLater (IsFaultAs fault_of_payees (IsFaultOfPayees names payees_in)) (ArePayees names payees_in) (λ rows.
    ThisOrLater (IsFaultAs fault_of_works (works.IsFaultOf names links_in)) (works.IsTableOf names links_in) (λ links.
    ThisOrLater (IsFaultOfFiles holds refuses (length names)) (AreFiles holds (length names)) (λ files.
    ThisOrLater (IsFaultAs fault_of_works (IsFaultOfLinks rows (finds_by names files) links))
    (AreRegistrations rows (finds_by names files) links) (λ _.
    IsFaultAs fault_of_usage (usage.IsFaultOf (rows_of inputs.usage))))))) fault
