-- The inputs of a run over the files of several submitters are read as one.
use Rattle.std.proofs.Common.{◌≡◌, ◌∙◌, ◌<◌, ℕ, List, [], None, Option, Some, arith, refl, subst, sym}
use Rattle.std.proofs.lemmas.List.{ext_get_or}
use Rattle.csv_table.proofs.ItemWalks.{one_table}
use Rattle.csv_table.specs.Table.{rows_of}
use Rattle.cwr_share.specs.RegistryOf.{IsRegistryOf}
use Rattle.cwr_share.proofs.OneRegistry.{one_parties, one_payees, one_works}
use Rattle.linked_works.specs.Linked.{Link, shares_linked}
use Rattle.linked_works.specs.SubmitterPayees.{payee_rules}
use Rattle.linked_works.specs.WorksTable.{works_rules}
use Rattle.run_inputs.specs.declared.inputs.Tables.{Tables}
use Rattle.settle_run.proofs.OneText.{ReadAlike, one_text}
use Rattle.submitted_inputs.specs.Submitted.{AreFiles, ArePayees, IsReading, finds_by}
use Rattle.submitted_inputs.specs.declared.inputs.SubmittedTables.{SubmittedTables}
use Rattle.submitted_laws.specs.Alike.{HoldsOneText}
use Rattle.submitted_laws.specs.SubmittedStatements.{AreStatementsOf}
use Rattle.submitted_laws.proofs.Alike.{one_territories, one_usage}

-- an input has one list of payees
pub one_list : (names : List (List ℕ)) (file : Option (List ℕ)) (rows other : List (List ℕ × List ℕ)) → ArePayees names file rows → ArePayees names file other → rows ≡ other
one_list names None rows other is of = is ∙ sym of
one_list names (Some file) rows other is of = one_table (payee_rules names) (rows_of file) rows other is of

-- the files are the same, where each has one text
pub same_files : (holds : ℕ → List ℕ → Type 0) (count : ℕ) (files others : List (List ℕ)) → HoldsOneText holds → AreFiles holds count files → AreFiles holds count others → files ≡ others
same_files holds count files others one is of = ext_get_or [] files others (is.all ∙ sym of.all)
    (λ place low. let within : place < count = omega (arith, is.all, low) in one.same place _ _ (is.held place within) (of.held place within))

module _ (names : List (List ℕ)) (holds : ℕ → List ℕ → Type 0) (inputs : SubmittedTables (List ℕ)) (one : HoldsOneText holds) where
  -- so two readings answer alike
  pub read_alike : (tables others : Tables) → IsReading names holds inputs tables → IsReading names holds inputs others → ReadAlike tables others
  read_alike tables others is of =
      let rows : of.rows ≡ is.rows = one_list names inputs.payees of.rows is.rows of.payees_are is.payees_are in
      let links : of.links ≡ is.links = one_table (works_rules names) (rows_of inputs.works) of.links is.links of.works_are is.works_are in
      let files : of.files ≡ is.files = same_files holds _ of.files is.files one of.files_are is.files_are in
      let same : IsRegistryOf is.rows (shares_linked (finds_by names is.files) is.links) others.registry =
      subst (λ (held : List (List ℕ)). IsRegistryOf is.rows (shares_linked (finds_by names held) is.links) others.registry) files
      (subst (λ (linked : List Link). IsRegistryOf is.rows (shares_linked (finds_by names of.files) linked) others.registry) links
      (subst (λ (paid : List (List ℕ × List ℕ)). IsRegistryOf paid (shares_linked (finds_by names of.files) of.links) others.registry) rows of.registrations.0)) in
      let (registry, sound) = is.registrations in (
        one_territories inputs.territories inputs.territories others.territories tables.territories refl of.territories is.territories,
        record {
          works = one_works is.rows (shares_linked (finds_by names is.files) is.links) tables.registry others.registry registry same;
          accounts = one_parties is.rows (shares_linked (finds_by names is.files) is.links) tables.registry others.registry registry same sound of.registrations.1;
          payees = one_payees is.rows (shares_linked (finds_by names is.files) is.links) tables.registry others.registry registry same sound of.registrations.1;
        },
      )

  -- and there is one text
  pub one_text_of_inputs : (text other : List ℕ) → AreStatementsOf names holds inputs text → AreStatementsOf names holds inputs other → text ≡ other
  one_text_of_inputs text other is of =
      one_text is.tables of.tables text other (read_alike is.tables of.tables is.read of.read)
      (one_usage inputs.usage inputs.usage of.tables.usage is.tables.usage refl of.read.uses is.read.uses) is.statements of.statements
