-- A table of the first files, and of one more.
use Rattle.std.proofs.Common.{◌≡◌, ◌∙◌, ◌+◌, ◌<◌, ◌∷◌, ◌++◌, [], ℕ, List, ap, append_assoc, arith, get_or, inl, inr, length, refl, subst, sym, take, zip}
use Rattle.std.specs.List.{flat_map}
use Rattle.std.proofs.lemmas.Bool.{cases_lt}
use Rattle.std.proofs.lemmas.Grind.{flat_map-append}
use Rattle.std.proofs.lemmas.List.{append-nil, get_or_append_left, get_or_push, length-take-le, length_push, take_more}
use Rattle.csv_table.specs.Written.{text_of, text_of_row}
use Rattle.cwr_share.specs.CwrFile.{AreSound}
use Rattle.cwr_share.specs.Lines.{lines_of}
use Rattle.starting_files.specs.Tables.{IsTableOf, header_text, rows_in, rows_of_files}
use Rattle.starting_files.specs.declared.making.StartingTable.{StartingTable}
use Rattle.submitted_inputs.specs.Files.{IsFaultOfFile, IsFaultOfFiles}
use Rattle.submitted_inputs.specs.Submitted.{AreFiles}
use Rattle.submitted_inputs.specs.declared.fault.SubmittedFault.{SubmittedFault}

-- one name and one file more
zip_push : (xs ys : List (List ℕ)) (x y : List ℕ) → length xs ≡ length ys → zip (xs ++ x ∷ []) (ys ++ y ∷ []) ≡ zip xs ys ++ (x, y) ∷ []
zip_push [] [] x y same = refl
zip_push [] (b ∷ ys) x y same = absurd (omega (arith, same))
zip_push (a ∷ xs) [] x y same = absurd (omega (arith, same))
zip_push (a ∷ xs) (b ∷ ys) x y same = ap (λ (l : List (List ℕ × List ℕ)). (a, b) ∷ l) (zip_push xs ys x y (omega (arith, same)))

rows_push : (table : StartingTable) (names files : List (List ℕ)) (name file : List ℕ) → length names ≡ length files
    → rows_of_files table (names ++ name ∷ []) (files ++ file ∷ []) ≡ rows_of_files table names files ++ rows_in table name (lines_of file)
rows_push table names files name file same =
    let rows : List ℕ × List ℕ → List (List (List ℕ)) = λ e. rows_in table e.0 (lines_of e.1) in
    ap (flat_map rows) (zip_push names files name file same)
    ∙ (flat_map-append rows (zip names files) ((name, file) ∷ [])
    ∙ ap (λ (l : List (List (List ℕ))). flat_map rows (zip names files) ++ l) (append-nil (rows_in table name (lines_of file))))

module _ (holds : ℕ → List ℕ → Type 0) where
  files_push : (count : ℕ) (files : List (List ℕ)) (file : List ℕ) → AreFiles holds count files → holds count file → AreSound (lines_of file) → AreFiles holds (count + 1) (files ++ file ∷ [])
  files_push count files file are held sound = record {
    all = omega (arith, length_push files file, are.all);
    held = λ place within. elim (cases_lt place count) [
      | inl low ↦ subst (holds place) (sym (get_or_append_left files (file ∷ []) [] place (omega (arith, low, are.all)))) (are.held place low)
      | inr high ↦
          let here : place ≡ count = omega (arith, high, within) in
          subst (holds place) (sym (get_or_push files file [] place (are.all ∙ sym here))) (subst (λ n. holds n file) (sym here) held)
    ];
    sound = λ k d within. elim (cases_lt k count) [
      | inl low ↦
          subst (λ (bytes : List ℕ). AreSound (lines_of bytes)) (sym (get_or_append_left files (file ∷ []) d k (omega (arith, low, are.all)))) (are.sound k d (omega (arith, low, are.all)))
      | inr high ↦
          let here : k ≡ count = omega (arith, high, within, length_push files file, are.all) in
          subst (λ (bytes : List ℕ). AreSound (lines_of bytes)) (sym (get_or_push files file d k (are.all ∙ sym here))) sound
    ];
  }

  -- the table of the files of one name more
  pub table_more : (table : StartingTable) (names : List (List ℕ)) (i : ℕ) (name file text next : List ℕ) → i < length names → name ≡ get_or names i [] → IsTableOf table (take i names) holds text
      → holds i file → AreSound (lines_of file) → next ≡ text ++ text_of (rows_in table name (lines_of file)) → IsTableOf table (take (i + 1) names) holds next
  table_more table names i name file text next within here before held sound is =
      let few : length (take i names) ≡ i = length-take-le i names (omega (arith, within)) in
      let first = take i names in
      let files = before.files in
      let are : AreFiles holds i files = subst (λ n. AreFiles holds n files) few before.held in
      let more : take (i + 1) names ≡ first ++ name ∷ [] = take_more names i [] within ∙ ap (λ (n : List ℕ). first ++ n ∷ []) (sym here) in
      let long : i + 1 ≡ length (first ++ name ∷ []) = omega (arith, few, length_push first name) in
      let rows = rows_in table name (lines_of file) in
      subst (λ (ns : List (List ℕ)). IsTableOf table ns holds next) (sym more) (record {
        files = files ++ file ∷ [];
        held = subst (λ n. AreFiles holds n (files ++ file ∷ [])) long (files_push i files file are held sound);
        written = is
            ∙ (ap (λ (t : List ℕ). t ++ text_of rows) before.written
            ∙ (append_assoc (header_text table) (text_of (rows_of_files table first files)) (text_of rows)
            ∙ ap (λ (t : List ℕ). header_text table ++ t)
            (sym (flat_map-append text_of_row (rows_of_files table first files) rows) ∙ ap text_of (sym (rows_push table first files name file (few ∙ sym are.all))))));
      })

  -- where the next file is refused, those before it are sound
  pub fault_at : (refuses : ℕ → Type 0) (table : StartingTable) (names : List (List ℕ)) (i : ℕ) (text : List ℕ) (fault : SubmittedFault) → i < length names → IsTableOf table (take i names) holds text
      → IsFaultOfFile holds refuses i fault → IsFaultOfFiles holds refuses (length names) fault
  fault_at refuses table names i text fault within before refused =
      let few : length (take i names) ≡ i = length-take-le i names (omega (arith, within)) in
      let files = before.files in
      let are : AreFiles holds i files = subst (λ n. AreFiles holds n files) few before.held in
      record {
        place = i;
        within = within;
        before = λ k low. (get_or files k [], are.held k low, are.sound k [] (omega (arith, low, are.all)));
        refused = refused;
      }
