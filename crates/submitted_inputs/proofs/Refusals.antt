-- Why inputs are refused, where those before them were read.
use Rattle.std.proofs.Common.{ℕ, List, inl, inr, length, refl}
use Rattle.csv_table.specs.Table.{rows_of}
use Rattle.cwr_share.specs.Registered.{Registered}
use Rattle.line_split.specs.UsageTable as usage
use Rattle.line_split.specs.declared.line_fault.LineFault.{LineFault}
use Rattle.linked_works.specs.Linked.{Link}
use Rattle.linked_works.specs.ManyPayees.{IsFaultOfLinks}
use Rattle.linked_works.specs.WorksTable as works
use Rattle.linked_works.specs.declared.works_fault.WorksFault.{WorksFault}
use Rattle.tis_tree.specs.TisRows as tis
use Rattle.submitted_inputs.specs.Faults.{fault_of_usage, fault_of_works}
use Rattle.submitted_inputs.specs.Files.{IsFaultOfFiles}
use Rattle.submitted_inputs.specs.Submitted.{AreFiles, ArePayees, AreRegistrations, IsFaultAs, IsFaultOf, IsFaultOfRegistrations, finds_by}
use Rattle.submitted_inputs.specs.declared.fault.SubmittedFault.{SubmittedFault}
use Rattle.submitted_inputs.specs.declared.inputs.SubmittedTables.{SubmittedTables}

module _ (names : List (List ℕ)) (holds : ℕ → List ℕ → Type 0) (refuses : ℕ → Type 0) (inputs : SubmittedTables (List ℕ)) (table : List (ℕ × List ℕ))
    (territories : tis.IsTableOf (rows_of inputs.territories) table) (rows : List (List ℕ × List ℕ)) (payees : ArePayees names inputs.payees rows) where
  pub works_fault : (fault : WorksFault) → works.IsFaultOf names (rows_of inputs.works) fault → IsFaultOf names holds refuses inputs (fault_of_works fault)
  works_fault fault refused = inr (inr (table, territories, inr (rows, payees, inl (fault, refused, refl))))

  module _ (links : List Link) (are : works.IsTableOf names (rows_of inputs.works) links) where
    pub files_fault : (fault : SubmittedFault) → IsFaultOfFiles holds refuses (length names) fault → IsFaultOf names holds refuses inputs fault
    files_fault fault refused = inr (inr (table, territories, inr (rows, payees, inr (links, are, inl refused))))

    pub links_fault : (files : List (List ℕ)) → AreFiles holds (length names) files → (fault : SubmittedFault)
        → IsFaultAs fault_of_works (IsFaultOfLinks rows (finds_by names files) links) fault → IsFaultOf names holds refuses inputs fault
    links_fault files read fault refused = inr (inr (table, territories, inr (rows, payees, inr (links, are, inr (files, read, inl refused)))))

    pub registrations_fault : (fault : SubmittedFault) → IsFaultOfRegistrations names holds refuses rows links fault → IsFaultOf names holds refuses inputs fault
    registrations_fault fault (inl room) = inl room
    registrations_fault fault (inr (inl refused)) = files_fault fault refused
    registrations_fault fault (inr (inr (files, read, refused))) = links_fault files read fault refused

    pub usage_fault : (files : List (List ℕ)) → AreFiles holds (length names) files → (registered : Registered) → AreRegistrations rows (finds_by names files) links registered
        → (fault : LineFault) → usage.IsFaultOf (rows_of inputs.usage) fault → IsFaultOf names holds refuses inputs (fault_of_usage fault)
    usage_fault files read registered registrations fault refused =
        inr (inr (table, territories, inr (rows, payees, inr (links, are, inr (files, read, inr (registered, registrations, (fault, refused, refl)))))))
