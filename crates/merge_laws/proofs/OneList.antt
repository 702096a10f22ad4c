-- A list that is spread over files has one text.
use Rattle.std.proofs.Common.{◌≡◌, ◌∙◌, ◌<◌, ◌++◌, ◌∷◌, [], ℕ, List, length, ap, refl, sym, subst, arith}
use Rattle.std.proofs.lemmas.List.{append-nil}
use Rattle.csv_table.specs.Table.{rows_of}
use Rattle.csv_table.proofs.ItemWalks.{one_table}
use Rattle.line_split.specs.UsageTable.{usage_rules}
use Rattle.line_split.specs.UsageLine.{UsageLine}
use Rattle.run_inputs.specs.Inputs.{with_lines, with_usage}
use Rattle.run_inputs.specs.declared.inputs.Inputs.{Inputs}
use Rattle.run_inputs.specs.declared.inputs.Tables.{Tables}
use Rattle.settle_run.specs.Settled.{AreStatementsFor, AreStatementsOf}
use Rattle.settle_run.proofs.OneText.{one_text, read_alike}
use Rattle.merge_laws.specs.WholeList.{AreLinesOf, AreStatementsOfAll}

module _ (inputs : Inputs (List ℕ)) where
  -- the files have these lines and no others
  one_list : (files : List (List ℕ)) (tables others : Tables) → AreLinesOf inputs files tables → AreLinesOf inputs files others → others.usage ≡ tables.usage
  one_list [] tables others is of = of ∙ sym is
  one_list (file ∷ files) tables others (first, later, split, read, rest) (its_first, its_later, its_split, its_read, its_rest) =
      let here = one_table usage_rules (rows_of file) its_first first its_read.uses read.uses in
      let below = one_list files (with_lines later tables) (with_lines its_later others) rest its_rest in
      its_split ∙ (λ i. here i ++ below i) ∙ sym split

  pub one_text_of_all : (files : List (List ℕ)) (text other : List ℕ) → 0 < length files → AreStatementsOfAll inputs files text → AreStatementsOfAll inputs files other → text ≡ other
  one_text_of_all [] text other some is of = absurd (omega (arith, some))
  one_text_of_all (file ∷ files) text other some is of =
      let alike = read_alike (with_usage file inputs) file (with_lines is.read.0 is.tables) (with_lines of.read.0 of.tables) is.read.3 of.read.3 in
      one_text is.tables of.tables text other alike (one_list (file ∷ files) is.tables of.tables is.read of.read) is.statements of.statements

  -- one file
  pub run_of_one : (file text : List ℕ) → AreStatementsOfAll inputs (file ∷ []) text → AreStatementsOf (with_usage file inputs) text
  run_of_one file text is =
      let same : is.tables.usage ≡ is.read.0 = is.read.2 ∙ ap (λ (l : List UsageLine). is.read.0 ++ l) is.read.4 ∙ append-nil is.read.0 in
      record {
        tables = with_lines is.read.0 is.tables;
        read = is.read.3;
        statements = subst (λ (l : List UsageLine). AreStatementsFor (with_lines l is.tables) text) same is.statements;
      }

  pub one_of_run : (file text : List ℕ) → AreStatementsOf (with_usage file inputs) text → AreStatementsOfAll inputs (file ∷ []) text
  one_of_run file text is = record {
    tables = is.tables;
    read = (is.tables.usage, [], sym (append-nil is.tables.usage), is.read, refl);
    statements = is.statements;
  }
