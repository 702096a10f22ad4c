-- Files that were written, one after another.
use Rattle.std.proofs.Common.{◌≡◌, ◌∙◌, ◌+◌, ◌<◌, ◌++◌, ◌∷◌, [], ℕ, zero, suc}
use Rattle.std.proofs.Common.{Ok, Some, List, Option, Result, arith, get_or, flat_map, length, map, ap, refl, subst, sym}
use Rattle.std.proofs.lemmas.List.{get_or-map, length-map}
use Rattle.distribution_documents.specs.Documents.{ArePayeeFiles, File}
use Rattle.distribution_documents.specs.Runs.{Run}
use Rattle.distribution_documents.specs.Slots.{AreAllWritten, AreSlots, IsSlotOf, files_in}
use Rattle.distribution_documents.specs.Written.{AreWritten}
use Rattle.distribution_documents.specs.declared.documents.DocumentFault.{DocumentFault}
use Rattle.distribution_documents.specs.declared.payee_files.PayeeFiles.{PayeeFiles}
use Rattle.page_parts.specs.Facts.{Distribution}

module _ {X : Type 0} (has : X → List ℕ → List ℕ → Type 0) where
  pub none_written : AreWritten has [] []
  none_written = record { whole = refl; each = λ k d lt. absurd (omega (arith, lt)) }

  -- one more, before the others
  pub written_more : (x : X) (xs : List X) (file : File) (files : List File) → has x file.0 file.1 → AreWritten has xs files
      → AreWritten has (x ∷ xs) (file ∷ files)
  written_more x xs file files first later = record { whole = omega (arith, later.whole); each = by }
    where
      by : (k : ℕ) (d : X) → k < length (x ∷ xs) → has (get_or (x ∷ xs) k d) (get_or (file ∷ files) k ([], [])).0 (get_or (file ∷ files) k ([], [])).1
      by zero d lt = first
      by (suc k) d lt = later.each k d (omega (arith, lt))

  -- under an equal name, with equal bytes
  pub same_file : (x : X) (name other bytes more : List ℕ) → name ≡ other → bytes ≡ more → has x name bytes → has x other more
  same_file x name other bytes more named filled is = subst (λ n. has x n more) named (subst (has x name) filled is)

  pub later_written : (x : X) (xs : List X) (file : File) (files : List File) → AreWritten has (x ∷ xs) (file ∷ files) → AreWritten has xs files
  later_written x xs file files all = record { whole = omega (arith, all.whole); each = λ k d lt. all.each (suc k) d (omega (arith, lt)) }

  pub written-append : (xs ys : List X) (files others : List File) → AreWritten has xs files → AreWritten has ys others → AreWritten has (xs ++ ys) (files ++ others)
  written-append [] ys [] others one other = other
  written-append [] ys (file ∷ files) others one other = absurd (omega (arith, one.whole))
  written-append (x ∷ xs) ys [] others one other = absurd (omega (arith, one.whole))
  written-append (x ∷ xs) ys (file ∷ files) others one other =
      written_more x (xs ++ ys) file (files ++ others) (one.each 0 x (omega arith)) (written-append xs ys files others (later_written x xs file files one) other)

  module _ (distribution : Distribution) (run : Run) where
    -- the files of all payees
    pub record Gathered (payees : List ℕ) (written : List (PayeeFiles X)) : Type 0 where
      pub files : List (List File)
      pub whole : length files ≡ length payees
      pub each : (k : ℕ) → k < length files → ArePayeeFiles distribution run (get_or payees k 0) (get_or files k [])
      pub as_written : AreWritten has (flat_map files_in written) (flat_map (λ (all : List File). all) files)

    pub gathered : (payees : List ℕ) (written : List (PayeeFiles X)) → AreAllWritten has distribution run payees written → Gathered payees written
    gathered [] [] all = record { files = []; whole = refl; each = λ k lt. absurd (omega (arith, lt)); as_written = none_written }
    gathered [] (w ∷ ws) all = absurd (omega (arith, all.whole))
    gathered (p ∷ ps) [] all = absurd (omega (arith, all.whole))
    gathered (p ∷ ps) (w ∷ ws) all =
        let first = all.each 0 w (omega arith) in
        let later : Gathered ps ws = gathered ps ws (record { whole = omega (arith, all.whole); each = λ k d lt. all.each (suc k) d (omega (arith, lt)) }) in
        record {
          files = first.files ∷ later.files;
          whole = omega (arith, later.whole);
          each = by first.files later.files first.are later.each;
          as_written = written-append (files_in w) (flat_map files_in ws) first.files (flat_map (λ (all : List File). all) later.files) first.as_written later.as_written;
        }
      where
        by : (first : List File) (later : List (List File)) → ArePayeeFiles distribution run p first
            → ((k : ℕ) → k < length later → ArePayeeFiles distribution run (get_or ps k 0) (get_or later k []))
            → (k : ℕ) → k < length (first ∷ later) → ArePayeeFiles distribution run (get_or (p ∷ ps) k 0) (get_or (first ∷ later) k [])
        by first later one others zero lt = one
        by first later one others (suc k) lt = others k (omega (arith, lt))

    abbrev as_slot : PayeeFiles X → Option (Result (PayeeFiles X) DocumentFault)
    as_slot files = Some (Ok files)

    -- what became of each payee, where all have files
    pub all_written : (payees : List ℕ) (slots : List (Option (Result (PayeeFiles X) DocumentFault))) (written : List (PayeeFiles X))
        → AreSlots has distribution run payees slots → length slots ≡ length payees → slots ≡ map (λ files. Some (Ok files)) written → AreAllWritten has distribution run payees written
    all_written payees slots written are long is =
        let whole : length written ≡ length slots = sym (ap length is ∙ length-map written as_slot) in
        record {
          whole = whole ∙ long;
          each = λ place d lt. subst (λ slot. IsSlotOf has distribution run payees place slot)
              (ap (λ (all : List (Option (Result (PayeeFiles X) DocumentFault))). get_or all place (as_slot d)) is ∙ get_or-map as_slot written place d (as_slot d) lt)
              (are place (as_slot d) (omega (arith, lt, whole)));
        }
