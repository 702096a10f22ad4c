-- Inputs of several submitters that were lent, and what they are refused for.
use Rattle.std.proofs.Common.{Bor, ◌≡◌, [], ◌∙◌, ◌⊎◌, ◌<◌, ℕ, All, List, None, Option, Some, Vec, Global, ap, arith, get_or, inl, inr, length, map, refl, subst, sym}
use Rattle.std.specs.Option.{option_map}
use Rattle.std.proofs.lemmas.List.{length-map}
use Rattle.std.proofs.lemmas.List.Elements.{All-get_or}
use Rattle.cwr_share.specs.CwrFile.{AreSound}
use Rattle.cwr_share.specs.Lines.{lines_of}
use Rattle.run_inputs.specs.declared.inputs.Tables.{Tables}
use Rattle.submitted_inputs.specs.Submitted.{IsFaultOf, IsReading, map_tables}
use Rattle.submitted_inputs.specs.declared.fault.SubmittedFault.{SubmittedFault}
use Rattle.submitted_inputs.specs.declared.fault.SubmittedFault.TheVariants as faults
use Rattle.submitted_inputs.specs.declared.inputs.SubmittedTables.{SubmittedTables}
use Rattle.document_run.specs.Names.{IsUnreadable, names_by_table}

twice : {A B C : Type 0} (f : A → B) (h : B → C) (given : Option A) → option_map (λ x. h (f x)) given ≡ option_map h (option_map f given)
twice f h None = refl
twice f h (Some x) = refl

-- what holds of the tables that were lent holds of the tables
pub of_tables : {I : Type 0} (bytes : I → List ℕ) (lent : SubmittedTables (Bor I)) (tables : SubmittedTables I) (P : SubmittedTables (List ℕ) → Type 0) → map_tables (λ lent. lent.now) lent ≡ tables
    → P (map_tables (λ table. bytes table.now) lent) → P (map_tables bytes tables)
of_tables {I} bytes lent tables P is holds =
    let with_payees = λ (payees : Option (List ℕ)). record (map_tables (λ (table : Bor I). bytes table.now) lent) { payees = payees } in
    subst P (ap with_payees (twice (λ (table : Bor I). table.now) bytes lent.payees) ∙ ap (map_tables bytes) is) holds

-- a table has as many names as there are accounts
pub as_many_by_table : (payees : Option (List ℕ)) (accounts : List (List ℕ)) → length (names_by_table payees accounts) ≡ length accounts
as_many_by_table None accounts = length-map accounts _
as_many_by_table (Some table) accounts = length-map accounts _

-- a file that cannot be read once more is the fault of the inputs, which were read before
pub of_unreadable : (names : List (List ℕ)) (holds : ℕ → List ℕ → Type 0) (refuses : ℕ → Type 0) (inputs : SubmittedTables (List ℕ)) (tables : Tables) (fault : SubmittedFault)
    → IsReading names holds inputs tables → (fault ≡ faults.Room) ⊎ IsUnreadable refuses (length names) fault → IsFaultOf names holds refuses inputs fault
of_unreadable names holds refuses inputs tables fault read (inl room) = inl room
of_unreadable names holds refuses inputs tables (faults.Unreadable place) read (inr (within, refused)) =
    let files = read.files_are in
    inr (inr (
      tables.territories,
      read.territories,
      inr (
        read.rows,
        read.payees_are,
        inr (
          read.links,
          read.works_are,
          inl (record {
            place = place;
            within = within;
            before = λ k low.
                let lower : k < length names = omega (arith, low, within) in
                (get_or read.files k [], files.held k lower, All-get_or (λ bytes. AreSound (lines_of bytes)) read.files k [] (omega (arith, lower, files.all)) files.sound);
            refused = (refl, refused);
          }),
        ),
      ),
    ))
of_unreadable names holds refuses inputs tables (faults.Tis f) read (inr none) = absurd none
of_unreadable names holds refuses inputs tables (faults.Payee f) read (inr none) = absurd none
of_unreadable names holds refuses inputs tables (faults.Works f) read (inr none) = absurd none
of_unreadable names holds refuses inputs tables (faults.Cwr place f) read (inr none) = absurd none
of_unreadable names holds refuses inputs tables (faults.Usage f) read (inr none) = absurd none
of_unreadable names holds refuses inputs tables faults.Room read (inr none) = absurd none
