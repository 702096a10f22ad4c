-- A list whose rows stand in one file.
use Rattle.std.proofs.Common.{◌≡◌, ◌∙◌, ◌<◌, ◌≤◌, ◌++◌, ◌∷◌, [], ℕ, List, All, drop, flat_map, length, map, ap, sym, subst, arith}
use Rattle.std.proofs.lemmas.List.{length-map, map-append}
use Rattle.std.proofs.lemmas.List.Elements.{All-append, All-nil}
use Rattle.csv_table.specs.Table.{rows_of}
use Rattle.csv_table.proofs.InTurn.{all_sound, each_sound}
use Rattle.line_split.specs.UsageLine.{line_of}
use Rattle.line_split.specs.UsageTable.{IsLine}
use Rattle.merge_statements.specs.Merged.{IsMergeOf}
use Rattle.run_inputs.specs.Inputs.{with_lines, with_usage}
use Rattle.run_inputs.specs.declared.inputs.Inputs.{Inputs}
use Rattle.run_inputs.specs.declared.inputs.Tables.{Tables}
use Rattle.settle_run.specs.Settled.{AreStatementsOf}
use Rattle.merge_laws.specs.WholeList.{AreLinesOf, AreStatementsOfAll, HasRowsOfAll}
use Rattle.merge_laws.proofs.Parts.{merged_list}

-- the rows below the headers of files
abbrev rows_below : List (List ℕ) → List (List (List ℕ))
rows_below files = flat_map (λ file. drop 1 (rows_of file)) files

module _ (inputs : Inputs (List ℕ)) where
  -- each is a line, and together they are those of the list
  lines_below : (files : List (List ℕ)) (tables : Tables) → AreLinesOf inputs files tables
      → All IsLine (rows_below files) × (tables.usage ≡ map line_of (rows_below files))
  lines_below [] tables is = (All-nil IsLine, is)
  lines_below (file ∷ files) tables (first, others, split, read, rest) =
      let uses = read.uses in
      let here : drop 1 (rows_of file) ≡ uses.below = ap (λ (rows : List (List (List ℕ))). drop 1 rows) uses.headed in
      let own : first ≡ map line_of (drop 1 (rows_of file)) = uses.are.same ∙ ap (λ (rows : List (List (List ℕ))). map line_of rows) (sym here) in
      let later = lines_below files (with_lines others tables) rest in (
        All-append IsLine (drop 1 (rows_of file)) (rows_below files)
            (subst (λ (rows : List (List (List ℕ))). All IsLine rows) (sym here) (each_sound IsLine uses.below uses.are.sound)) later.0,
        split ∙ (λ i. own i ++ later.1 i) ∙ sym (map-append line_of (drop 1 (rows_of file)) (rows_below files)),
      )

  pub as_one_file : (files : List (List ℕ)) (whole text : List ℕ) → 0 < length files → HasRowsOfAll files whole → length (rows_of whole) ≤ 1000001
      → AreStatementsOfAll inputs files text → AreStatementsOf (with_usage whole inputs) text
  as_one_file [] whole text some rows few is = absurd (omega (arith, some))
  as_one_file (file ∷ files) whole text some rows few is =
      let all = lines_below (file ∷ files) is.tables is.read in
      let first = is.read.3 in
      record {
        tables = is.tables;
        read = record {
          territories = first.territories;
          rows = first.rows;
          payees = first.payees;
          registrations = first.registrations;
          accounts = first.accounts;
          uses = record {
            below = rows_below (file ∷ files);
            headed = rows;
            are = record {
              few = omega (arith, few, ap length rows);
              sound = all_sound IsLine (rows_below (file ∷ files)) all.0;
              same = all.1;
            };
          };
        };
        statements = is.statements;
      }

  pub merged_as_one_file : (parts : List (List ℕ × List ℕ)) (whole merged : List ℕ) → 0 < length parts → HasRowsOfAll (map (λ part. part.0) parts) whole
      → length (rows_of whole) ≤ 1000001 → All (λ part. AreStatementsOf (with_usage part.0 inputs) part.1) parts
      → IsMergeOf (map (λ part. part.1) parts) merged → AreStatementsOf (with_usage whole inputs) merged
  merged_as_one_file parts whole merged some rows few each of =
      as_one_file (map (λ part. part.0) parts) whole merged (omega (arith, some, length-map parts (λ (part : List ℕ × List ℕ). part.0))) rows few
      (merged_list inputs parts merged some each of)
