-- What a run over the files of several submitters fails for.
use Rattle.std.proofs.Common.{◌≡◌, ◌⊎◌, ℕ, List, None, Option, Some, ap, arith, inl, inr, length, refl, subst, sym}
use Rattle.std.specs.Option.{IfSome, IsSome, option_map}
use Rattle.std.specs.Prelude.{String, string_bytes}
use Rattle.std.specs.declared.alloc.Global.{Global}
use Rattle.std.specs.declared.io.ErrorKind.{ErrorKind}
use Rattle.std.specs.declared.io.ErrorKind.TheVariants.{OutOfMemory}
use Rattle.std.proofs.lemmas.Bool.{cases_lt}
use Rattle.check_inputs.specs.SubmittedChecked as checked
use Rattle.royalty_program.specs.Files.{HoldsIfGiven}
use Rattle.royalty_program.specs.Status.{IsFirstTable, IsOfFile, IsOfFiles, IsOfSubmitted, IsOfTables, IsSaidOf, IsSubmittedUnchecked, failure_of_file}
use Rattle.royalty_program.specs.SubmittedFiles.{AreTablesRead, HoldsAt, IsSubmittedFaultOver, IsWithin, RefusesAt, SubmittedPaths}
use Rattle.royalty_program.specs.declared.failure.Failure.{Failure}
use Rattle.royalty_program.specs.declared.failure.Failure.TheVariants as failures
use Rattle.submitted_inputs.specs.Files.{IsFaultOfFiles}
use Rattle.submitted_inputs.specs.Submitted.{map_tables}
use Rattle.submitted_inputs.specs.declared.fault.SubmittedFault.{SubmittedFault}
use Rattle.submitted_inputs.specs.declared.fault.SubmittedFault.TheVariants.{Tis, Payee, Works, Unreadable, Cwr, Usage, Room}
use Rattle.submitted_inputs.specs.declared.inputs.SubmittedTables.{SubmittedTables}

-- whether the place of a fault is one of so many
within_or_not : (count : ℕ) (fault : SubmittedFault) → IsWithin count fault ⊎ (¬ IsWithin count fault)
within_or_not count (Unreadable place) = elim (cases_lt place count) [ inl low ↦ inl low | inr high ↦ inr (λ low. omega (arith, low, high)) ]
within_or_not count (Cwr place fault) = elim (cases_lt place count) [ inl low ↦ inl low | inr high ↦ inr (λ low. omega (arith, low, high)) ]
within_or_not count (Tis fault) = inl tt
within_or_not count (Payee fault) = inl tt
within_or_not count (Works fault) = inl tt
within_or_not count (Usage fault) = inl tt
within_or_not count Room = inl tt

module _ (holds : List ℕ → List ℕ → Type 0) (refuses : List ℕ → ErrorKind → Type 0) (files : List (List ℕ)) (fault : SubmittedFault) (failure : Failure)
    (said : IsWithin (length files) fault → IsSaidOf files fault failure) (beyond : (¬ IsWithin (length files) fault) → failure ≡ failures.Room) where
  -- a fault of an input is why the run fails
  pub of_inputs : (paths : SubmittedPaths) → paths.files ≡ files → IsSubmittedFaultOver holds refuses paths fault → IsOfSubmitted holds refuses paths failure
  of_inputs paths same over = elim (within_or_not (length files) fault) [
    | inl within ↦ inr (inr (fault, over, subst (λ (all : List (List ℕ)). IsSaidOf all fault failure) (sym same) (said within)))
    | inr not_within ↦ inl (beyond not_within)
  ]

  -- one that cannot be read is why there is no report
  pub of_unread : (paths : SubmittedPaths) (tables : SubmittedTables (List ℕ)) → paths.files ≡ files → AreTablesRead holds paths.tables tables
      → (fault ≡ Room) ⊎ checked.IsFirstUnread (HoldsAt holds files) (RefusesAt refuses files) (length paths.names) fault → IsSubmittedUnchecked holds refuses paths failure
  of_unread paths tables same read (inl room) = inl (subst (λ (f : SubmittedFault). IsSaidOf files f failure) room (said (subst (IsWithin (length files)) (sym room) tt)))
  of_unread paths tables same read (inr first) = elim (within_or_not (length files) fault) [
    | inl within ↦ inr (inr (record {
      tables = tables;
      read = read;
      fault = fault;
      first = subst (λ (all : List (List ℕ)). checked.IsFirstUnread (HoldsAt holds all) (RefusesAt refuses all) (length paths.names) fault) (sym same) first;
      said = subst (λ (all : List (List ℕ)). IsSaidOf all fault failure) (sym same) (said within);
    }))
    | inr not_within ↦ inl (beyond not_within)
  ]

  -- and one of a file, or lack of memory, why there is no table
  pub of_files : (names : List (List ℕ)) → (fault ≡ Room) ⊎ IsFaultOfFiles (HoldsAt holds files) (RefusesAt refuses files) (length names) fault → IsOfFiles holds refuses names files failure
  of_files names (inl room) = inl (subst (λ (f : SubmittedFault). IsSaidOf files f failure) room (said (subst (IsWithin (length files)) (sym room) tt)))
  of_files names (inr is) = elim (within_or_not (length files) fault) [
    | inl within ↦ inr (fault, is, said within)
    | inr not_within ↦ inl (beyond not_within)
  ]

-- what tables fail for
abbrev pub IsOfTablesOrRoom : (holds : List ℕ → List ℕ → Type 0) → (refuses : List ℕ → ErrorKind → Type 0) → SubmittedTables (List ℕ) → Failure → Type 0
IsOfTablesOrRoom holds refuses paths failure = (failure ≡ failures.Room) ⊎ IsOfTables holds refuses paths failure

module _ (holds : List ℕ → List ℕ → Type 0) (refuses : List ℕ → ErrorKind → Type 0) (paths : SubmittedTables (List ℕ)) where
  of_kind : (path : String Global) → IsFirstTable holds paths (string_bytes path) → (kind : ErrorKind) → refuses (string_bytes path) kind → IsOfTablesOrRoom holds refuses paths (failure_of_file kind path)
  of_kind path first OutOfMemory refused = inl refl
  of_kind path first kind refused = inr ((kind, refused, λ memory. cc), first)

  of_file : (path : String Global) (failure : Failure) → IsFirstTable holds paths (string_bytes path) → IsOfFile refuses path failure → IsOfTablesOrRoom holds refuses paths failure
  of_file path failure first fails = subst (IsOfTablesOrRoom holds refuses paths) (sym fails.2) (of_kind path first fails.0 fails.1)

module _ (holds : List ℕ → List ℕ → Type 0) (refuses : List ℕ → ErrorKind → Type 0) (tables : SubmittedTables (String Global)) (failure : Failure) where
  abbrev paths : SubmittedTables (List ℕ)
  paths = map_tables string_bytes tables

  -- of the tables the one that is looked at is the first that is not read, where those before it were read
  pub tis_unread : IsOfFile refuses tables.territories failure → IsOfTablesOrRoom holds refuses paths failure
  tis_unread fails = of_file holds refuses paths tables.territories failure (inl refl) fails

  module _ (territories : List ℕ) (read : holds paths.territories territories) where
    pub payees_unread : IsSome tables.payees → IfSome tables.payees (λ path. IsOfFile refuses path failure) → IsOfTablesOrRoom holds refuses paths failure
    payees_unread there fails = by tables.payees refl there fails
      where
        by : (given : Option (String Global)) → tables.payees ≡ given → IsSome given → IfSome given (λ path. IsOfFile refuses path failure) → IsOfTablesOrRoom holds refuses paths failure
        by None is there fails = cc
        by (Some path) is there fails = of_file holds refuses paths path failure (inr (territories, read, inl (ap (option_map string_bytes) (sym is)))) fails

    module _ (payees : Option (List ℕ)) (paid : HoldsIfGiven holds paths.payees payees) where
      pub works_unread : IsOfFile refuses tables.works failure → IsOfTablesOrRoom holds refuses paths failure
      works_unread fails = of_file holds refuses paths tables.works failure (inr (territories, read, inr (payees, paid, inl refl))) fails

      pub usage_unread : (works : List ℕ) → holds paths.works works → IsOfFile refuses tables.usage failure → IsOfTablesOrRoom holds refuses paths failure
      usage_unread works linked fails =
          of_file holds refuses paths tables.usage failure (inr (territories, read, inr (payees, paid, inr (works, linked, refl)))) fails

-- of the files of several submitters a check fails for one that cannot be read alone, or for lack of memory
pub unread_or_room : (holds : List ℕ → List ℕ → Type 0) (refuses : List ℕ → ErrorKind → Type 0) (submitted : SubmittedPaths) (failure : Failure)
    → IsSubmittedUnchecked holds refuses submitted failure → (failure ≡ failures.Room) ⊎ ((name : String Global) × (failure ≡ failures.File name))
unread_or_room holds refuses submitted failure (inl room) = inl room
unread_or_room holds refuses submitted (failures.File name) (inr (inl table)) = inr (name, refl)
unread_or_room holds refuses submitted (failures.Words error) (inr (inl none)) = absurd none
unread_or_room holds refuses submitted failures.NotText (inr (inl none)) = absurd none
unread_or_room holds refuses submitted (failures.Pairs fault) (inr (inl none)) = absurd none
unread_or_room holds refuses submitted (failures.Row row) (inr (inl none)) = absurd none
unread_or_room holds refuses submitted (failures.Input fault) (inr (inl none)) = absurd none
unread_or_room holds refuses submitted (failures.Works fault) (inr (inl none)) = absurd none
unread_or_room holds refuses submitted (failures.Registrations fault path) (inr (inl none)) = absurd none
unread_or_room holds refuses submitted failures.Room (inr (inl none)) = absurd none
unread_or_room holds refuses submitted failures.Output (inr (inl none)) = absurd none
unread_or_room holds refuses submitted (failures.Target path) (inr (inl none)) = absurd none
unread_or_room holds refuses submitted (failures.Statement fault path) (inr (inl none)) = absurd none
unread_or_room holds refuses submitted failures.Many (inr (inl none)) = absurd none
unread_or_room holds refuses submitted failures.ManyMerged (inr (inl none)) = absurd none
unread_or_room holds refuses submitted (failures.Changed path) (inr (inl none)) = absurd none
unread_or_room holds refuses submitted (failures.Replaces path) (inr (inl none)) = absurd none
unread_or_room holds refuses submitted (failures.Names fault) (inr (inl none)) = absurd none
unread_or_room holds refuses submitted (failures.Taken path) (inr (inl none)) = absurd none
unread_or_room holds refuses submitted (failures.Map fault path) (inr (inl none)) = absurd none
unread_or_room holds refuses submitted (failures.Headless path) (inr (inl none)) = absurd none
unread_or_room holds refuses submitted (failures.NoColumn word path) (inr (inl none)) = absurd none
unread_or_room holds refuses submitted (failures.ManyColumns word path) (inr (inl none)) = absurd none
unread_or_room holds refuses submitted (failures.NoHeader word) (inr (inl none)) = absurd none
unread_or_room holds refuses submitted (failures.BothTables path) (inr (inl none)) = absurd none
unread_or_room holds refuses submitted (failures.OtherLines row path) (inr (inl none)) = absurd none
unread_or_room holds refuses submitted failure (inr (inr is)) = by is.fault is.first is.said
  where
    by : (fault : SubmittedFault) → checked.IsFirstUnread (HoldsAt holds submitted.files) (RefusesAt refuses submitted.files) (length submitted.names) fault → IsSaidOf submitted.files fault failure
        → (failure ≡ failures.Room) ⊎ ((name : String Global) × (failure ≡ failures.File name))
    by (Unreadable place) first (name, same, at) = inr (name, same)
    by (Tis fault) none said = absurd none
    by (Payee fault) none said = absurd none
    by (Works fault) none said = absurd none
    by (Cwr place fault) none said = absurd none
    by (Usage fault) none said = absurd none
    by Room none said = absurd none

-- tables are the same one by one
abbrev pub tables_of : (territories : List ℕ) (payees : Option (List ℕ)) (works usage : List ℕ) → SubmittedTables (List ℕ)
tables_of territories payees works usage = record { territories = territories; payees = payees; works = works; usage = usage }

pub same_tables : {tis tis' : List ℕ} {payees payees' : Option (List ℕ)} {works works' usage usage' : List ℕ} → tis ≡ tis' → payees ≡ payees' → works ≡ works' → usage ≡ usage'
    → tables_of tis payees works usage ≡ tables_of tis' payees' works' usage'
same_tables same_tis same_payees same_works same_usage = rw (same_tis, same_payees, same_works, same_usage) refl
