-- Inputs that are read are refused for nothing but lack of memory.
use Rattle.std.proofs.Common.{◌≡◌, ◌∙◌, ℕ, List, None, Option, Some, ap, inl, inr, length, subst}
use Rattle.csv_table.specs.Table.{rows_of}
use Rattle.csv_table.proofs.ItemWalks.{no_fault, one_table}
use Rattle.cwr_share.specs.declared.payee_fault.PayeeFault.{PayeeFault}
use Rattle.cwr_share.specs.declared.payee_fault.PayeeFault.TheVariants.{Memory}
use Rattle.line_split.specs.UsageTable.{usage_rules}
use Rattle.line_split.proofs.OneTable as uses
use Rattle.linked_works.specs.Linked.{Link}
use Rattle.linked_works.specs.ManyPayees.{IsFaultOfLinks}
use Rattle.linked_works.specs.SubmitterPayees.{payee_rules}
use Rattle.linked_works.specs.WorksTable.{works_rules}
use Rattle.linked_works.specs.declared.works_fault.WorksFault.{WorksFault}
use Rattle.linked_works.proofs.LinkRows as works
use Rattle.linked_works.proofs.PayeeRows as payees
use Rattle.run_inputs.specs.declared.inputs.Tables.{Tables}
use Rattle.tis_tree.specs.TisRows.{territory_rules}
use Rattle.tis_tree.proofs.OneTable as territories
use Rattle.submitted_inputs.specs.Faults.{fault_of_payees, fault_of_tis, fault_of_usage, fault_of_works}
use Rattle.submitted_inputs.specs.Submitted.{ArePayees, IsFaultOf, IsFaultOfPayees, IsReading, finds_by}
use Rattle.submitted_inputs.specs.declared.fault.SubmittedFault.{SubmittedFault}
use Rattle.submitted_inputs.specs.declared.fault.SubmittedFault.TheVariants.{Room}
use Rattle.submitted_inputs.specs.declared.inputs.SubmittedTables.{SubmittedTables}
use Rattle.submitted_laws.specs.Alike.{HoldsOneText, RefusesNoText}
use Rattle.submitted_laws.proofs.FilesStand.{files_stand}
use Rattle.submitted_laws.proofs.LinksStand.{links_stand}
use Rattle.submitted_laws.proofs.OneReading.{one_list, same_files}

payees_stand : (names : List (List ℕ)) (file : Option (List ℕ)) (rows : List (List ℕ × List ℕ)) (fault : PayeeFault) → ArePayees names file rows → IsFaultOfPayees names file fault → fault ≡ Memory
payees_stand names None rows fault are refused = absurd refused
payees_stand names (Some file) rows fault are refused = no_fault (payee_rules names) (payees.not_refused names) (rows_of file) rows fault are refused

module _ (names : List (List ℕ)) (holds : ℕ → List ℕ → Type 0) (refuses : ℕ → Type 0) (inputs : SubmittedTables (List ℕ)) (one : HoldsOneText holds)
    (apart : RefusesNoText holds refuses) (tables : Tables) (is : IsReading names holds inputs tables) where
  -- what the table of works comes to, by another reading of the same inputs
  registrations_stand : (rows : List (List ℕ × List ℕ)) (links : List Link) (files : List (List ℕ)) (fault : WorksFault) → rows ≡ is.rows → links ≡ is.links → files ≡ is.files
      → IsFaultOfLinks rows (finds_by names files) links fault → fault_of_works fault ≡ Room
  registrations_stand rows links files fault same_rows same_links same refused =
      ap fault_of_works (links_stand is.rows (finds_by names is.files) is.links tables.registry is.registrations.0 is.registrations.1 fault
      (subst (λ (held : List (List ℕ)). IsFaultOfLinks is.rows (finds_by names held) is.links fault) same
      (subst (λ (linked : List Link). IsFaultOfLinks is.rows (finds_by names files) linked fault) same_links
      (subst (λ (paid : List (List ℕ × List ℕ)). IsFaultOfLinks paid (finds_by names files) links fault) same_rows refused))))

  -- each input that was read is refused for nothing but lack of memory, which is no fault of an input
  pub no_fault_of_inputs : (fault : SubmittedFault) → IsFaultOf names holds refuses inputs fault → fault ≡ Room
  no_fault_of_inputs fault (inl room) = room
  no_fault_of_inputs fault (inr (inl (own, refused, its))) =
      its ∙ ap fault_of_tis (no_fault territory_rules territories.not_refused (rows_of inputs.territories) tables.territories own is.territories refused)
  no_fault_of_inputs fault (inr (inr (table, read, inl (own, refused, its)))) =
      its ∙ ap fault_of_payees (payees_stand names inputs.payees is.rows own is.payees_are refused)
  no_fault_of_inputs fault (inr (inr (table, read, inr (rows, paid, inl (own, refused, its))))) =
      its ∙ ap fault_of_works (no_fault (works_rules names) (works.not_refused names) (rows_of inputs.works) is.links own is.works_are refused)
  no_fault_of_inputs fault (inr (inr (table, read, inr (rows, paid, inr (links, linked, inl refused))))) =
      absurd (files_stand holds refuses (length names) is.files one apart is.files_are fault refused)
  no_fault_of_inputs fault (inr (inr (table, read, inr (rows, paid, inr (links, linked, inr (files, held, inl (own, refused, its))))))) =
      its ∙ registrations_stand rows links files own (one_list names inputs.payees rows is.rows paid is.payees_are)
      (one_table (works_rules names) (rows_of inputs.works) links is.links linked is.works_are)
      (same_files holds (length names) files is.files one held is.files_are) refused
  no_fault_of_inputs fault (inr (inr (table, read, inr (rows, paid, inr (links, linked, inr (files, held, inr (registered, registrations, (own, refused, its)))))))) =
      its ∙ ap fault_of_usage (no_fault usage_rules uses.not_refused (rows_of inputs.usage) tables.usage own is.uses refused)
