-- What a report finds, and what a run is refused for.
use Rattle.std.proofs.Common.{◌≡◌, ◌∙◌, ◌&&◌, ◌++◌, ◌∷◌, [], ℕ, true, List, None, Option, Some, inl, inr, length, refl, subst, sym, arith}
use Rattle.std.specs.Prelude.{◌==◌, ◌↔◌}
use Rattle.std.proofs.lemmas.Bool.{and_parts, eqb-true}
use Rattle.csv_table.specs.Table.{rows_of}
use Rattle.csv_table.proofs.ItemWalks.{read_without_faults}
use Rattle.tis_tree.specs.TisRows as tis
use Rattle.tis_tree.specs.TisRows.{territory_rules}
use Rattle.tis_tree.specs.declared.tis_fault.TisFault.{TisFault}
use Rattle.tis_tree.specs.declared.tis_fault.TisFault.TheVariants as tis_fault
use Rattle.cwr_share.specs.CwrFile as cwr
use Rattle.cwr_share.specs.CwrReading as reading
use Rattle.cwr_share.specs.Lines.{lines_of}
use Rattle.cwr_share.specs.PayeeTable as payees
use Rattle.cwr_share.specs.PayeeTable.{payee_rules}
use Rattle.cwr_share.specs.Registered.{Registered}
use Rattle.cwr_share.specs.declared.cwr_fault.CwrFault.{CwrFault}
use Rattle.cwr_share.specs.declared.cwr_fault.CwrFault.TheVariants as cwr_fault
use Rattle.cwr_share.specs.declared.payee_fault.PayeeFault.TheVariants as payee_fault
use Rattle.cwr_share.specs.declared.payee_fault.PayeeFault.{PayeeFault}
use Rattle.cwr_share.proofs.CwrReadings.{file_read_whole, first_fault_of_many, first_fault_read}
use Rattle.cwr_share.proofs.OneRegistry as registrations
use Rattle.line_split.specs.UsageLine.{UsageLine}
use Rattle.line_split.specs.UsageTable as usage
use Rattle.line_split.specs.UsageTable.{usage_rules}
use Rattle.line_split.specs.declared.line_fault.LineFault.{LineFault}
use Rattle.line_split.specs.declared.line_fault.LineFault.TheVariants as line_fault
use Rattle.run_inputs.specs.Faults.{fault_of_cwr, fault_of_payees, fault_of_tis, fault_of_usage}
use Rattle.run_inputs.specs.Inputs.{ArePayees, AreRegistrations, HaveNoFault, IsFaultAs, IsFaultOf, IsFaultOfPayees, ThisOrLater}
use Rattle.run_inputs.specs.declared.fault.Fault.{Fault}
use Rattle.run_inputs.specs.declared.fault.Fault.TheVariants.{Room}
use Rattle.run_inputs.specs.declared.inputs.Inputs.{Inputs}
use Rattle.run_inputs.proofs.OnePayees.{one_list}
use Rattle.check_inputs.specs.Found.{ArePayeesWithout, AreRegistrationsWithout, Found, IsFoundIn, is_sound}
use Rattle.explanation_laws.specs.FirstFound.{first_fault, first_of, or_later}
use Rattle.explanation_laws.proofs.LineFaults as lines
use Rattle.explanation_laws.proofs.OneOfSeveral.{none_as, one_as, one_of_table_or_later, one_of_these}
use Rattle.explanation_laws.proofs.RowFaults.{payees_have, territories_have, uses_have}
use Rattle.explanation_laws.proofs.TableFaults.{none_out, of_either, of_table, of_table_not_room, of_table_or_later, one_fault}

-- too many payees are a fault, the last of a file's
some_last : (faults : List (List ℕ × CwrFault)) → ¬ ([] ≡ faults ++ ([], cwr_fault.Accounts) ∷ [])
some_last [] is = cc is
some_last (first ∷ faults) is = cc is

pub is_empty : {X : Type 0} (xs : List X) → (length xs == 0) ≡ true → xs ≡ []
is_empty [] is = refl
is_empty (x ∷ xs) is = absurd (omega (arith, eqb-true (length (x ∷ xs)) 0 is))

-- lack of memory alone is no fault of an input
room_of_tis : (own : TisFault) → fault_of_tis own ≡ Room → own ≡ tis_fault.Memory
room_of_tis tis_fault.Memory is = refl
room_of_tis own is = cc is

room_of_payees : (own : PayeeFault) → fault_of_payees own ≡ Room → own ≡ payee_fault.Memory
room_of_payees payee_fault.Memory is = refl
room_of_payees own is = cc is

room_of_cwr : (own : CwrFault) → fault_of_cwr own ≡ Room → own ≡ cwr_fault.Memory
room_of_cwr cwr_fault.Memory is = refl
room_of_cwr own is = cc is

room_of_usage : (own : LineFault) → fault_of_usage own ≡ Room → own ≡ line_fault.Memory
room_of_usage line_fault.Memory is = refl
room_of_usage own is = cc is

module _ (files : Inputs (List ℕ)) where
  abbrev OfUsage : Fault → Type 0
  OfUsage = IsFaultAs fault_of_usage (usage.IsFaultOf (rows_of files.usage))

  abbrev OfRegistrations : List (List ℕ × List ℕ) → Fault → Type 0
  OfRegistrations rows = ThisOrLater (IsFaultAs fault_of_cwr (cwr.IsFaultOf rows (lines_of files.registrations))) (AreRegistrations rows (lines_of files.registrations)) (λ _. OfUsage)

  abbrev OfPayeesIn : Option (List ℕ) → Fault → Type 0
  OfPayeesIn file = ThisOrLater (IsFaultAs fault_of_payees (IsFaultOfPayees file)) (ArePayees file) OfRegistrations

  -- ---- the first fault is one that a run is refused for

  -- the first line that is left out of the CWR file is what it is refused for
  first_of_lines : (rows : List (List ℕ × List ℕ)) (line : List ℕ) (own : CwrFault) (more : List (List ℕ × CwrFault)) (registered : Option Registered)
      → AreRegistrationsWithout rows (lines_of files.registrations) ((line, own) ∷ more) registered
      → cwr.IsFaultOf rows (lines_of files.registrations) own × ¬ (own ≡ cwr_fault.Memory)
  first_of_lines rows line own more (Some registered) (file, sound) = (
    first_fault_read rows (lines_of files.registrations) line own more registered file,
    lines.not_for_memory (lines_of files.registrations) line own more file.kept file.end file.read,
  )
  first_of_lines rows line own more None many = (
    first_fault_of_many rows (lines_of files.registrations) line own more many,
    lines.not_for_memory_of_many (lines_of files.registrations) rows line own more many,
  )

  registrations_read : (rows : List (List ℕ × List ℕ)) (out : List (List ℕ × CwrFault)) (registered : Option Registered)
      → AreRegistrationsWithout rows (lines_of files.registrations) out registered → out ≡ [] → (one : Registered) × AreRegistrations rows (lines_of files.registrations) one
  registrations_read rows out (Some registered) (file, sound) none =
      let whole = subst (λ (l : List (List ℕ × CwrFault)). reading.IsReadWithout rows (lines_of files.registrations) l registered) none file in
      (registered, (file_read_whole rows (lines_of files.registrations) registered whole, sound))
  registrations_read rows out None many none = absurd (some_last many.faults (sym none ∙ many.last))

  of_registrations : (rows : List (List ℕ × List ℕ)) (out : List (List ℕ × CwrFault)) (registered : Option Registered) (later : Option Fault) (fault : Fault)
      → AreRegistrationsWithout rows (lines_of files.registrations) out registered → (later ≡ Some fault → OfUsage fault)
      → or_later (first_of fault_of_cwr out) later ≡ Some fault → OfRegistrations rows fault
  of_registrations rows [] registered later fault is on says =
      let (one, are) = registrations_read rows [] registered is refl in
      inr (one, are, on says)
  of_registrations rows ((line, own) ∷ more) registered later fault is on says =
      let same : fault_of_cwr own ≡ fault = cc says in
      inl (own, (first_of_lines rows line own more registered is).0, sym same)

  of_payees : (file : Option (List ℕ)) (out : List (List (List ℕ) × PayeeFault)) (rows : List (List ℕ × List ℕ)) (later : Option Fault) (fault : Fault)
      → ArePayeesWithout file out rows → (later ≡ Some fault → OfRegistrations rows fault) → or_later (first_of fault_of_payees out) later ≡ Some fault → OfPayeesIn file fault
  of_payees None out rows later fault (none, empty) on says =
      inr (rows, empty, on (subst (λ (l : List (List (List ℕ) × PayeeFault)). or_later (first_of fault_of_payees l) later ≡ Some fault) none says))
  of_payees (Some file) out rows later fault is on says =
      of_table_or_later payee_rules fault_of_payees (rows_of file) OfRegistrations out rows later fault is (λ none. on) says

  pub first_is_of_run : (found : Found) (fault : Fault) → IsFoundIn files found → first_fault found ≡ Some fault → IsFaultOf files fault
  first_is_of_run found fault is says =
      inr (of_table_or_later territory_rules fault_of_tis (rows_of files.territories) (λ _. OfPayeesIn files.payees) found.of_territories found.table _ fault is.territories
      (λ none. of_payees files.payees found.of_payees found.rows _ fault is.payees
      (of_registrations found.rows found.of_registrations found.registered _ fault is.registrations
      (of_table usage_rules fault_of_usage (rows_of files.usage) found.of_usage found.lines fault is.usage)))
      says)

  -- and no lack of memory
  registrations_not_room : (rows : List (List ℕ × List ℕ)) (out : List (List ℕ × CwrFault)) (registered : Option Registered) (fault : Fault)
      → AreRegistrationsWithout rows (lines_of files.registrations) out registered → first_of fault_of_cwr out ≡ Some fault → ¬ (fault ≡ Room)
  registrations_not_room rows [] registered fault is says room = cc says
  registrations_not_room rows ((line, own) ∷ more) registered fault is says room =
      let same : fault_of_cwr own ≡ fault = cc says in
      (first_of_lines rows line own more registered is).1 (room_of_cwr own (same ∙ room))

  payees_not_room : (file : Option (List ℕ)) (out : List (List (List ℕ) × PayeeFault)) (rows : List (List ℕ × List ℕ)) (fault : Fault) → ArePayeesWithout file out rows
      → first_of fault_of_payees out ≡ Some fault → ¬ (fault ≡ Room)
  payees_not_room None out rows fault (none, empty) says room =
      let nothing : None ≡ Some fault = subst (λ (l : List (List (List ℕ) × PayeeFault)). first_of fault_of_payees l ≡ Some fault) none says in
      cc nothing
  payees_not_room (Some file) out rows fault is says room = of_table_not_room payee_rules fault_of_payees (rows_of file) payees_have Room room_of_payees out rows fault is says room

  first_is_not_room : (found : Found) (fault : Fault) → IsFoundIn files found → first_fault found ≡ Some fault → ¬ (fault ≡ Room)
  first_is_not_room found fault is =
      of_either (¬ (fault ≡ Room)) (first_of fault_of_tis found.of_territories) _ fault
      (of_table_not_room territory_rules fault_of_tis (rows_of files.territories) territories_have Room room_of_tis found.of_territories found.table fault is.territories)
      (of_either (¬ (fault ≡ Room)) (first_of fault_of_payees found.of_payees) _ fault (payees_not_room files.payees found.of_payees found.rows fault is.payees)
      (of_either (¬ (fault ≡ Room)) (first_of fault_of_cwr found.of_registrations) _ fault
      (registrations_not_room found.rows found.of_registrations found.registered fault is.registrations)
      (of_table_not_room usage_rules fault_of_usage (rows_of files.usage) uses_have Room room_of_usage found.of_usage found.lines fault is.usage)))

  -- ---- a report without faults

  payees_read : (file : Option (List ℕ)) (out : List (List (List ℕ) × PayeeFault)) (rows : List (List ℕ × List ℕ)) → ArePayeesWithout file out rows → out ≡ [] → ArePayees file rows
  payees_read None out rows is none = is.1
  payees_read (Some file) out rows is none =
      read_without_faults payee_rules (rows_of file) rows (subst (λ (l : List (List (List ℕ) × PayeeFault)). payees.IsReadWithout (rows_of file) l rows) none is)

  sound_has_no_fault : (found : Found) → IsFoundIn files found → is_sound found ≡ true → HaveNoFault files
  sound_has_no_fault found is sound =
      let but_usage = and_parts ((length found.of_territories == 0) && (length found.of_payees == 0) && (length found.of_registrations == 0)) (length found.of_usage == 0) sound in
      let but_registrations = and_parts ((length found.of_territories == 0) && (length found.of_payees == 0)) (length found.of_registrations == 0) but_usage.0 in
      let first = and_parts (length found.of_territories == 0) (length found.of_payees == 0) but_registrations.0 in
      let registered = registrations_read found.rows found.of_registrations found.registered is.registrations (is_empty found.of_registrations but_registrations.1) in
      record {
        tables = record { territories = found.table; registry = registered.0; usage = found.lines };
        read = record {
          territories =
              read_without_faults territory_rules (rows_of files.territories) found.table
              (subst (λ (l : List (List (List ℕ) × TisFault)). tis.IsReadWithout (rows_of files.territories) l found.table) (is_empty found.of_territories first.0) is.territories);
          rows = found.rows;
          payees = payees_read files.payees found.of_payees found.rows is.payees (is_empty found.of_payees first.1);
          registrations = registered.1.0;
          accounts = registered.1.1;
          uses =
              read_without_faults usage_rules (rows_of files.usage) found.lines
              (subst (λ (l : List (List (List ℕ) × LineFault)). usage.IsReadWithout (rows_of files.usage) l found.lines) (is_empty found.of_usage but_usage.1) is.usage);
        };
      }

  no_payee_out : (file : Option (List ℕ)) (out : List (List (List ℕ) × PayeeFault)) (rows whole : List (List ℕ × List ℕ)) → ArePayeesWithout file out rows → ArePayees file whole → out ≡ []
  no_payee_out None out rows whole is are = is.0
  no_payee_out (Some file) out rows whole is are = none_out payee_rules payees_have (rows_of file) out rows whole is are

  no_line_out : (rows : List (List ℕ × List ℕ)) (out : List (List ℕ × CwrFault)) (found : Option Registered) (registered : Registered)
      → AreRegistrationsWithout rows (lines_of files.registrations) out found → AreRegistrations rows (lines_of files.registrations) registered → out ≡ []
  no_line_out rows [] found registered is are = refl
  no_line_out rows ((line, own) ∷ more) found registered is (file, sound) =
      let (refused, some) = first_of_lines rows line own more found is in
      absurd (some (registrations.no_fault rows (lines_of files.registrations) registered own file sound refused))

  no_fault_is_sound : (found : Found) → IsFoundIn files found → HaveNoFault files → is_sound found ≡ true
  no_fault_is_sound found is none =
      let read = none.read in
      let no_territories = none_out territory_rules territories_have (rows_of files.territories) found.of_territories found.table none.tables.territories is.territories read.territories in
      let no_payees = no_payee_out files.payees found.of_payees found.rows read.rows is.payees read.payees in
      let rows : read.rows ≡ found.rows = one_list files.payees read.rows found.rows read.payees (payees_read files.payees found.of_payees found.rows is.payees no_payees) in
      let registrations : AreRegistrations found.rows (lines_of files.registrations) none.tables.registry =
      (subst (λ (l : List (List ℕ × List ℕ)). cwr.IsFileOf l (lines_of files.registrations) none.tables.registry) rows read.registrations, read.accounts) in
      let no_registrations = no_line_out found.rows found.of_registrations found.registered none.tables.registry is.registrations registrations in
      let no_usage = none_out usage_rules uses_have (rows_of files.usage) found.of_usage found.lines none.tables.usage is.usage read.uses in
      rw (no_territories, no_payees, no_registrations, no_usage) refl

  -- a report is sound exactly where no input has a fault
  pub sound_exactly : (found : Found) → IsFoundIn files found → (is_sound found ≡ true) ↔ HaveNoFault files
  sound_exactly found is = (sound_has_no_fault found is, no_fault_is_sound found is)

  -- ---- one fault

  module _ (a b : Fault) (some : ¬ (a ≡ Room)) (other : ¬ (b ≡ Room)) where
    one_of_usage : OfUsage a → OfUsage b → a ≡ b
    one_of_usage = one_as fault_of_usage line_fault.Memory (usage.IsFaultOf (rows_of files.usage)) (one_fault usage_rules uses_have (rows_of files.usage)) a b some other

    one_of_registrations : (rows : List (List ℕ × List ℕ)) → OfRegistrations rows a → OfRegistrations rows b → a ≡ b
    one_of_registrations rows =
        one_of_these (IsFaultAs fault_of_cwr (cwr.IsFaultOf rows (lines_of files.registrations))) (AreRegistrations rows (lines_of files.registrations)) (λ _. OfUsage) a b
        (one_as fault_of_cwr cwr_fault.Memory (cwr.IsFaultOf rows (lines_of files.registrations)) (lines.one_fault_of_file rows (lines_of files.registrations)) a b some other)
        (none a some) (none b other) (λ read again are were. one_of_usage)
      where
        none : (fault : Fault) → ¬ (fault ≡ Room) → (registered : Registered) → AreRegistrations rows (lines_of files.registrations) registered
            → ¬ IsFaultAs fault_of_cwr (cwr.IsFaultOf rows (lines_of files.registrations)) fault
        none fault is registered (file, sound) =
            none_as fault_of_cwr cwr_fault.Memory (cwr.IsFaultOf rows (lines_of files.registrations))
            (λ own. registrations.no_fault rows (lines_of files.registrations) registered own file sound) fault is

    one_of_payees : (file : Option (List ℕ)) → OfPayeesIn file a → OfPayeesIn file b → a ≡ b
    one_of_payees None =
        one_of_these (IsFaultAs fault_of_payees (IsFaultOfPayees None)) (ArePayees None) OfRegistrations a b
        (λ is. absurd is.1) (λ rows are is. is.1) (λ rows are is. is.1)
        (λ rows again are were is also. one_of_registrations again (subst (λ (l : List (List ℕ × List ℕ)). OfRegistrations l a) (are ∙ sym were) is) also)
    one_of_payees (Some file) = one_of_table_or_later payee_rules payees_have fault_of_payees (rows_of file) OfRegistrations a b some other one_of_registrations

    pub one_first_fault_of_run : IsFaultOf files a → IsFaultOf files b → a ≡ b
    one_first_fault_of_run (inl room) also = absurd (some room)
    one_first_fault_of_run (inr is) (inl room) = absurd (other room)
    one_first_fault_of_run (inr is) (inr also) =
        one_of_table_or_later territory_rules territories_have fault_of_tis (rows_of files.territories) (λ _. OfPayeesIn files.payees) a b some other (λ _. one_of_payees files.payees) is also

  -- so the first fault of a report is the one that a run is refused for
  pub first_is_the_one : (found : Found) (fault other : Fault) → IsFoundIn files found → first_fault found ≡ Some fault → IsFaultOf files other → ¬ (other ≡ Room) → other ≡ fault
  first_is_the_one found fault other is says refused some =
      one_first_fault_of_run other fault some (first_is_not_room found fault is says) refused (first_is_of_run found fault is says)
