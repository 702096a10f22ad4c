-- What a report on the files of submitters finds, and what a run over them is refused for.
use Rattle.std.proofs.Common.{◌≡◌, ◌∙◌, ◌&&◌, ◌∷◌, [], ℕ, Bool, false, true, List, None, Option, Some, ap, inl, inr, is_some, length, not, refl, subst, sym}
use Rattle.std.specs.Prelude.{◌==◌, ◌↔◌}
use Rattle.std.specs.List.{list_all}
use Rattle.std.specs.Option.{option_map}
use Rattle.std.proofs.lemmas.Bool.{and_parts, false≢true}
use Rattle.csv_table.specs.RowTable as row_table
use Rattle.csv_table.specs.Table.{rows_of}
use Rattle.csv_table.proofs.ItemWalks.{one_table, read_without_faults}
use Rattle.tis_tree.specs.TisRows as tis
use Rattle.tis_tree.specs.TisRows.{territory_rules}
use Rattle.tis_tree.specs.declared.tis_fault.TisFault.{TisFault}
use Rattle.tis_tree.specs.declared.tis_fault.TisFault.TheVariants as tis_fault
use Rattle.cwr_share.specs.Registered.{Registered}
use Rattle.cwr_share.specs.declared.payee_fault.PayeeFault.{PayeeFault}
use Rattle.cwr_share.specs.declared.payee_fault.PayeeFault.TheVariants as payee_fault
use Rattle.line_split.specs.UsageTable as usage
use Rattle.line_split.specs.UsageTable.{usage_rules}
use Rattle.line_split.specs.declared.line_fault.LineFault.{LineFault}
use Rattle.line_split.specs.declared.line_fault.LineFault.TheVariants as line_fault
use Rattle.linked_works.specs.Linked.{Finds, Link}
use Rattle.linked_works.specs.ManyPayees.{IsFaultOfLinks}
use Rattle.linked_works.specs.SubmitterPayees.{payee_rules}
use Rattle.linked_works.specs.WorksTable as works
use Rattle.linked_works.specs.WorksTable.{works_rules}
use Rattle.linked_works.specs.declared.works_fault.WorksFault.{WorksFault}
use Rattle.linked_works.specs.declared.works_fault.WorksFault.TheVariants as works_fault
use Rattle.run_inputs.specs.Inputs.{ThisOrLater}
use Rattle.run_inputs.specs.declared.inputs.Tables.{Tables}
use Rattle.check_inputs.specs.SubmittedFound.{AreLinked, AreLinksWithout, ArePayeesWithout, FileFound, IsFoundIn, SubmittedFound, are_linked, has_no_fault, is_sound}
use Rattle.submitted_inputs.specs.Faults.{fault_of_payees, fault_of_tis, fault_of_usage, fault_of_works}
use Rattle.submitted_inputs.specs.Files.{IsFaultOfFiles}
use Rattle.submitted_inputs.specs.Submitted.{AreFiles, ArePayees, AreRegistrations, IsFaultAs, IsFaultOf, IsFaultOfPayees, IsReading, finds_by}
use Rattle.submitted_inputs.specs.declared.fault.SubmittedFault.{SubmittedFault}
use Rattle.submitted_inputs.specs.declared.fault.SubmittedFault.TheVariants.{Room}
use Rattle.submitted_inputs.specs.declared.inputs.SubmittedTables.{SubmittedTables}
use Rattle.submitted_laws.specs.Alike.{HoldsOneText}
use Rattle.submitted_laws.proofs.OneReading.{one_list, same_files}
use Rattle.explanation_laws.specs.FirstFound.{first_of, or_later}
use Rattle.explanation_laws.specs.FirstSubmitted.{first_of_files, first_submitted_fault}
use Rattle.explanation_laws.proofs.FileFaults.{faultless_files, files_have_one, files_read, first_told_not_room, first_told_refuses, none_told, read_files_have_none, texts}
use Rattle.explanation_laws.proofs.LinkFaults.{no_fault_of_links, one_fault_of_links}
use Rattle.explanation_laws.proofs.OneOfSeveral.{none_as, one_as, one_of_table_or_later, one_of_these}
use Rattle.explanation_laws.proofs.Reports.{is_empty}
use Rattle.explanation_laws.proofs.RowFaults.{submitter_payees_have, territories_have, uses_have, works_have}
use Rattle.explanation_laws.proofs.TableFaults.{none_out, of_either, of_table, of_table_not_room, of_table_or_later, one_fault}

module _ (names : List (List ℕ)) (holds : ℕ → List ℕ → Type 0) (refuses : ℕ → Type 0) (inputs : SubmittedTables (List ℕ)) where
  abbrev OfUsage : SubmittedFault → Type 0
  OfUsage = IsFaultAs fault_of_usage (usage.IsFaultOf (rows_of inputs.usage))

  abbrev OfLinks : List (List ℕ × List ℕ) → List Link → List (List ℕ) → SubmittedFault → Type 0
  OfLinks rows links files = ThisOrLater (IsFaultAs fault_of_works (IsFaultOfLinks rows (finds_by names files) links)) (AreRegistrations rows (finds_by names files) links) (λ _. OfUsage)

  abbrev OfFiles : List (List ℕ × List ℕ) → List Link → SubmittedFault → Type 0
  OfFiles rows links = ThisOrLater (IsFaultOfFiles holds refuses (length names)) (AreFiles holds (length names)) (OfLinks rows links)

  abbrev OfWorks : List (List ℕ × List ℕ) → SubmittedFault → Type 0
  OfWorks rows = ThisOrLater (IsFaultAs fault_of_works (works.IsFaultOf names (rows_of inputs.works))) (works.IsTableOf names (rows_of inputs.works)) (OfFiles rows)

  abbrev OfPayeesIn : Option (List ℕ) → SubmittedFault → Type 0
  OfPayeesIn file = ThisOrLater (IsFaultAs fault_of_payees (IsFaultOfPayees names file)) (ArePayees names file) OfWorks

  -- ---- the first fault of a report is one that a run is refused for

  of_links : (linked : Bool) (rows : List (List ℕ × List ℕ)) (links : List Link) (files : List (List ℕ)) (refused : Option WorksFault) (registered : Option Registered)
      (later : Option SubmittedFault) (fault : SubmittedFault) → linked ≡ true → AreLinked linked rows (finds_by names files) links refused registered
      → (later ≡ Some fault → OfUsage fault) → or_later (option_map fault_of_works refused) later ≡ Some fault → OfLinks rows links files fault
  of_links false rows links files refused registered later fault so are on says = absurd (false≢true so)
  of_links true rows links files (Some own) registered later fault so are on says =
      let same : fault_of_works own ≡ fault = cc says in
      inl (own, are.0, sym same)
  of_links true rows links files None (Some registered) later fault so are on says = inr (registered, are, on says)
  of_links true rows links files None None later fault so are on says = absurd are

  of_payees : (file : Option (List ℕ)) (out : List (List (List ℕ) × PayeeFault)) (rows : List (List ℕ × List ℕ)) (later : Option SubmittedFault) (fault : SubmittedFault)
      → ArePayeesWithout names file out rows → (out ≡ [] → later ≡ Some fault → OfWorks rows fault) → or_later (first_of fault_of_payees out) later ≡ Some fault → OfPayeesIn file fault
  of_payees None out rows later fault (none, empty) on says =
      inr (rows, empty, on none (subst (λ (l : List (List (List ℕ) × PayeeFault)). or_later (first_of fault_of_payees l) later ≡ Some fault) none says))
  of_payees (Some file) out rows later fault is on says = of_table_or_later (payee_rules names) fault_of_payees (rows_of file) OfWorks out rows later fault is on says

  -- ---- one fault

  module _ (one : HoldsOneText holds) (apart : (place : ℕ) (bytes : List ℕ) → holds place bytes → ¬ refuses place)
      (a b : SubmittedFault) (some : ¬ (a ≡ Room)) (other : ¬ (b ≡ Room)) where
    one_of_usage : OfUsage a → OfUsage b → a ≡ b
    one_of_usage = one_as fault_of_usage line_fault.Memory (usage.IsFaultOf (rows_of inputs.usage)) (one_fault usage_rules uses_have (rows_of inputs.usage)) a b some other

    one_of_links : (rows : List (List ℕ × List ℕ)) (links : List Link) (files : List (List ℕ)) → OfLinks rows links files a → OfLinks rows links files b → a ≡ b
    one_of_links rows links files =
        one_of_these (IsFaultAs fault_of_works (IsFaultOfLinks rows (finds_by names files) links)) (AreRegistrations rows (finds_by names files) links) (λ _. OfUsage) a b
        (one_as fault_of_works works_fault.Memory (IsFaultOfLinks rows (finds_by names files) links) (one_fault_of_links rows (finds_by names files) links) a b some other)
        (none a some) (none b other) (λ read again are were. one_of_usage)
      where
        none : (fault : SubmittedFault) → ¬ (fault ≡ Room) → (registered : Registered) → AreRegistrations rows (finds_by names files) links registered
            → ¬ IsFaultAs fault_of_works (IsFaultOfLinks rows (finds_by names files) links) fault
        none fault is registered are =
            none_as fault_of_works works_fault.Memory (IsFaultOfLinks rows (finds_by names files) links) (no_fault_of_links rows (finds_by names files) links registered are) fault is

    one_of_files : (rows : List (List ℕ × List ℕ)) (links : List Link) → OfFiles rows links a → OfFiles rows links b → a ≡ b
    one_of_files rows links =
        one_of_these (IsFaultOfFiles holds refuses (length names)) (AreFiles holds (length names)) (OfLinks rows links) a b
        (files_have_one holds refuses one apart (length names) a b)
        (λ files are. read_files_have_none holds refuses one apart (length names) files are a) (λ files are. read_files_have_none holds refuses one apart (length names) files are b)
        (λ files again are were is also.
        one_of_links rows links again (subst (λ (l : List (List ℕ)). OfLinks rows links l a) (same_files holds (length names) files again one are were) is) also)

    one_of_works : (rows : List (List ℕ × List ℕ)) → OfWorks rows a → OfWorks rows b → a ≡ b
    one_of_works rows = one_of_table_or_later (works_rules names) (works_have names) fault_of_works (rows_of inputs.works) (OfFiles rows) a b some other (one_of_files rows)

    one_of_payees : (file : Option (List ℕ)) → OfPayeesIn file a → OfPayeesIn file b → a ≡ b
    one_of_payees None =
        one_of_these (IsFaultAs fault_of_payees (IsFaultOfPayees names None)) (ArePayees names None) OfWorks a b
        (λ is. absurd is.1) (λ rows are is. is.1) (λ rows are is. is.1)
        (λ rows again are were is also. one_of_works again (subst (λ (l : List (List ℕ × List ℕ)). OfWorks l a) (are ∙ sym were) is) also)
    one_of_payees (Some file) = one_of_table_or_later (payee_rules names) (submitter_payees_have names) fault_of_payees (rows_of file) OfWorks a b some other one_of_works

    pub one_first_fault_of_run : IsFaultOf names holds refuses inputs a → IsFaultOf names holds refuses inputs b → a ≡ b
    one_first_fault_of_run (inl room) also = absurd (some room)
    one_first_fault_of_run (inr is) (inl room) = absurd (other room)
    one_first_fault_of_run (inr is) (inr also) =
        one_of_table_or_later territory_rules territories_have fault_of_tis (rows_of inputs.territories) (λ _. OfPayeesIn inputs.payees) a b some other (λ _. one_of_payees inputs.payees) is also

-- ---- a report

-- lack of memory alone is no fault of an input
room_of_tis : (own : TisFault) → fault_of_tis own ≡ Room → own ≡ tis_fault.Memory
room_of_tis tis_fault.Memory is = refl
room_of_tis own is = cc is

room_of_payees : (own : PayeeFault) → fault_of_payees own ≡ Room → own ≡ payee_fault.Memory
room_of_payees payee_fault.Memory is = refl
room_of_payees own is = cc is

room_of_works : (own : WorksFault) → fault_of_works own ≡ Room → own ≡ works_fault.Memory
room_of_works works_fault.Memory is = refl
room_of_works own is = cc is

room_of_usage : (own : LineFault) → fault_of_usage own ≡ Room → own ≡ line_fault.Memory
room_of_usage line_fault.Memory is = refl
room_of_usage own is = cc is

-- where payees, works and files have no fault the links are looked at
links_looked_at : (found : SubmittedFound) → found.of_payees ≡ [] → found.of_works ≡ [] → list_all has_no_fault found.files ≡ true → are_linked found ≡ true
links_looked_at found no_payees no_works no_files = rw (no_payees, no_works, no_files) refl

module _ (names paths : List (List ℕ)) (holds : ℕ → List ℕ → Type 0) (inputs : SubmittedTables (List ℕ)) (found : SubmittedFound) (paired : length paths ≡ length names)
    (is : IsFoundIn names paths holds inputs found) where
  abbrev files : List (List ℕ)
  files = texts found.files

  of_files : (refuses : ℕ → Type 0) (later : Option SubmittedFault) (fault : SubmittedFault)
      → (list_all has_no_fault found.files ≡ true → later ≡ Some fault → OfLinks names holds refuses inputs found.rows found.links files fault)
      → or_later (first_of_files 0 found.files) later ≡ Some fault → OfFiles names holds refuses inputs found.rows found.links fault
  of_files refuses later fault on says = by (first_of_files 0 found.files) refl says
    where
      by : (first : Option SubmittedFault) → first_of_files 0 found.files ≡ first → or_later first later ≡ Some fault → OfFiles names holds refuses inputs found.rows found.links fault
      by None told says =
          let faultless = none_told 0 found.files told in
          inr (files, files_read names paths holds found.files is.files_are paired faultless, on faultless says)
      by (Some own) told says =
          let same : own ≡ fault = cc says in
          inl (first_told_refuses names paths holds found.files is.files_are paired refuses fault (told ∙ ap (λ (f : SubmittedFault). Some f) same))

  pub first_is_of_run : (refuses : ℕ → Type 0) (fault : SubmittedFault) → first_submitted_fault found ≡ Some fault → IsFaultOf names holds refuses inputs fault
  first_is_of_run refuses fault says =
      inr (of_table_or_later territory_rules fault_of_tis (rows_of inputs.territories) (λ _. OfPayeesIn names holds refuses inputs inputs.payees) found.of_territories found.table _ fault
      is.territories
      (λ _. of_payees names holds refuses inputs inputs.payees found.of_payees found.rows _ fault is.payees
      (λ no_payees.
      of_table_or_later (works_rules names) fault_of_works (rows_of inputs.works) (OfFiles names holds refuses inputs found.rows) found.of_works found.links _ fault is.works
      (λ no_works. of_files refuses _ fault
      (λ no_files.
      of_links names holds refuses inputs (are_linked found) found.rows found.links files found.of_links found.registered _ fault (links_looked_at found no_payees no_works no_files)
      is.linked
      (of_table usage_rules fault_of_usage (rows_of inputs.usage) found.of_usage found.lines fault is.usage)))))
      says)

  -- and no lack of memory
  links_not_room : (linked : Bool) (rows : List (List ℕ × List ℕ)) (finds : Finds) (links : List Link) (refused : Option WorksFault) (registered : Option Registered) (fault : SubmittedFault)
      → AreLinked linked rows finds links refused registered → option_map fault_of_works refused ≡ Some fault → ¬ (fault ≡ Room)
  links_not_room linked rows finds links None registered fault are says room = cc says
  links_not_room false rows finds links (Some own) registered fault (none, _) says room = cc none
  links_not_room true rows finds links (Some own) registered fault (refused, some, _) says room =
      let same : fault_of_works own ≡ fault = cc says in
      some (room_of_works own (same ∙ room))

  payees_not_room : (file : Option (List ℕ)) (out : List (List (List ℕ) × PayeeFault)) (rows : List (List ℕ × List ℕ)) (fault : SubmittedFault) → ArePayeesWithout names file out rows
      → first_of fault_of_payees out ≡ Some fault → ¬ (fault ≡ Room)
  payees_not_room None out rows fault (none, empty) says room =
      let nothing : None ≡ Some fault = subst (λ (l : List (List (List ℕ) × PayeeFault)). first_of fault_of_payees l ≡ Some fault) none says in
      cc nothing
  payees_not_room (Some file) out rows fault is says room =
      of_table_not_room (payee_rules names) fault_of_payees (rows_of file) (submitter_payees_have names) Room room_of_payees out rows fault is says room

  first_is_not_room : (fault : SubmittedFault) → first_submitted_fault found ≡ Some fault → ¬ (fault ≡ Room)
  first_is_not_room fault =
      of_either (¬ (fault ≡ Room)) (first_of fault_of_tis found.of_territories) _ fault
      (of_table_not_room territory_rules fault_of_tis (rows_of inputs.territories) territories_have Room room_of_tis found.of_territories found.table fault is.territories)
      (of_either (¬ (fault ≡ Room)) (first_of fault_of_payees found.of_payees) _ fault (payees_not_room inputs.payees found.of_payees found.rows fault is.payees)
      (of_either (¬ (fault ≡ Room)) (first_of fault_of_works found.of_works) _ fault
      (of_table_not_room (works_rules names) fault_of_works (rows_of inputs.works) (works_have names) Room room_of_works found.of_works found.links fault is.works)
      (of_either (¬ (fault ≡ Room)) (first_of_files 0 found.files) _ fault (first_told_not_room 0 found.files fault)
      (of_either (¬ (fault ≡ Room)) (option_map fault_of_works found.of_links) _ fault
      (links_not_room (are_linked found) found.rows (finds_by names files) found.links found.of_links found.registered fault is.linked)
      (of_table_not_room usage_rules fault_of_usage (rows_of inputs.usage) uses_have Room room_of_usage found.of_usage found.lines fault is.usage)))))

  -- so it is the one that a run is refused for
  pub first_is_the_one : (refuses : ℕ → Type 0) → HoldsOneText holds → ((place : ℕ) (bytes : List ℕ) → holds place bytes → ¬ refuses place) → (fault other : SubmittedFault)
      → first_submitted_fault found ≡ Some fault → IsFaultOf names holds refuses inputs other → ¬ (other ≡ Room) → other ≡ fault
  first_is_the_one refuses one apart fault other says refused some =
      one_first_fault_of_run names holds refuses inputs one apart other fault some (first_is_not_room fault says) refused (first_is_of_run refuses fault says)

  -- ---- a report without faults

  payees_read : (file : Option (List ℕ)) (out : List (List (List ℕ) × PayeeFault)) (rows : List (List ℕ × List ℕ)) → ArePayeesWithout names file out rows → out ≡ []
      → ArePayees names file rows
  payees_read None out rows are none = are.1
  payees_read (Some file) out rows are none =
      read_without_faults (payee_rules names) (rows_of file) rows (subst (λ (l : List (List (List ℕ) × PayeeFault)). row_table.IsReadWithout (payee_rules names) (rows_of file) l rows) none are)

  works_read : found.of_works ≡ [] → works.IsTableOf names (rows_of inputs.works) found.links
  works_read none =
      read_without_faults (works_rules names) (rows_of inputs.works) found.links
      (subst (λ (l : List (List (List ℕ) × WorksFault)). AreLinksWithout names inputs.works l found.links) none is.works)

  linked_read : (linked : Bool) (rows : List (List ℕ × List ℕ)) (finds : Finds) (links : List Link) (refused : Option WorksFault) (registered : Option Registered)
      → linked ≡ true → not (is_some refused) ≡ true → AreLinked linked rows finds links refused registered → (one : Registered) × AreRegistrations rows finds links one
  linked_read false rows finds links refused registered so none are = absurd (false≢true so)
  linked_read true rows finds links (Some own) registered so none are = absurd (false≢true none)
  linked_read true rows finds links None (Some registered) so none are = (registered, are)
  linked_read true rows finds links None None so none are = absurd are

  sound_is_read : is_sound found ≡ true → (tables : Tables) × IsReading names holds inputs tables
  sound_is_read sound =
      let but_usage = and_parts ((length found.of_territories == 0) && are_linked found && not (is_some found.of_links)) (length found.of_usage == 0) sound in
      let but_links = and_parts ((length found.of_territories == 0) && are_linked found) (not (is_some found.of_links)) but_usage.0 in
      let first = and_parts (length found.of_territories == 0) (are_linked found) but_links.0 in
      let of_files = and_parts ((length found.of_payees == 0) && (length found.of_works == 0)) (list_all has_no_fault found.files) first.1 in
      let of_tables = and_parts (length found.of_payees == 0) (length found.of_works == 0) of_files.0 in
      let registered = linked_read (are_linked found) found.rows (finds_by names files) found.links found.of_links found.registered first.1 but_links.1 is.linked in (
        record { territories = found.table; registry = registered.0; usage = found.lines },
        record {
          territories =
              read_without_faults territory_rules (rows_of inputs.territories) found.table
              (subst (λ (l : List (List (List ℕ) × TisFault)). tis.IsReadWithout (rows_of inputs.territories) l found.table) (is_empty found.of_territories first.0) is.territories);
          rows = found.rows;
          payees_are = payees_read inputs.payees found.of_payees found.rows is.payees (is_empty found.of_payees of_tables.0);
          links = found.links;
          works_are = works_read (is_empty found.of_works of_tables.1);
          files = files;
          files_are = files_read names paths holds found.files is.files_are paired of_files.1;
          registrations = registered.1;
          uses =
              read_without_faults usage_rules (rows_of inputs.usage) found.lines
              (subst (λ (l : List (List (List ℕ) × LineFault)). usage.IsReadWithout (rows_of inputs.usage) l found.lines) (is_empty found.of_usage but_usage.1) is.usage);
        },
      )

  no_payee_out : (file : Option (List ℕ)) (out : List (List (List ℕ) × PayeeFault)) (rows whole : List (List ℕ × List ℕ)) → ArePayeesWithout names file out rows
      → ArePayees names file whole → out ≡ []
  no_payee_out None out rows whole without are = without.0
  no_payee_out (Some file) out rows whole without are = none_out (payee_rules names) (submitter_payees_have names) (rows_of file) out rows whole without are

  no_link_refused : (linked : Bool) (rows : List (List ℕ × List ℕ)) (finds : Finds) (links : List Link) (refused : Option WorksFault) (found : Option Registered) (registered : Registered)
      → linked ≡ true → AreLinked linked rows finds links refused found → AreRegistrations rows finds links registered → refused ≡ None
  no_link_refused linked rows finds links None found registered so are give = refl
  no_link_refused false rows finds links (Some own) found registered so are give = absurd (false≢true so)
  no_link_refused true rows finds links (Some own) found registered so (refused, some, _) give = absurd (some (no_fault_of_links rows finds links registered give own refused))

  read_is_sound : HoldsOneText holds → (tables : Tables) → IsReading names holds inputs tables → is_sound found ≡ true
  read_is_sound one tables read =
      let no_territories = none_out territory_rules territories_have (rows_of inputs.territories) found.of_territories found.table tables.territories is.territories read.territories in
      let no_payees = no_payee_out inputs.payees found.of_payees found.rows read.rows is.payees read.payees_are in
      let no_works = none_out (works_rules names) (works_have names) (rows_of inputs.works) found.of_works found.links read.links is.works read.works_are in
      let no_files = faultless_files names paths holds found.files is.files_are paired one read.files read.files_are in
      let no_usage = none_out usage_rules uses_have (rows_of inputs.usage) found.of_usage found.lines tables.usage is.usage read.uses in
      let linked = links_looked_at found no_payees no_works no_files in
      let rows : read.rows ≡ found.rows = one_list names inputs.payees read.rows found.rows read.payees_are (payees_read inputs.payees found.of_payees found.rows is.payees no_payees) in
      let links : read.links ≡ found.links = one_table (works_rules names) (rows_of inputs.works) read.links found.links read.works_are (works_read no_works) in
      let held : read.files ≡ files = same_files holds (length names) read.files files one read.files_are (files_read names paths holds found.files is.files_are paired no_files) in
      let registrations : AreRegistrations found.rows (finds_by names files) found.links tables.registry =
      subst (λ (l : List (List ℕ)). AreRegistrations found.rows (finds_by names l) found.links tables.registry) held
      (subst (λ (l : List Link). AreRegistrations found.rows (finds_by names read.files) l tables.registry) links
      (subst (λ (l : List (List ℕ × List ℕ)). AreRegistrations l (finds_by names read.files) read.links tables.registry) rows read.registrations)) in
      let no_links = no_link_refused (are_linked found) found.rows (finds_by names files) found.links found.of_links found.registered tables.registry linked is.linked registrations in
      rw (no_territories, linked, no_links, no_usage) refl

  -- a report is sound exactly where the inputs are read
  pub sound_exactly : HoldsOneText holds → (is_sound found ≡ true) ↔ ((tables : Tables) × IsReading names holds inputs tables)
  sound_exactly one = (sound_is_read, λ read. read_is_sound one read.0 read.1)
