use Rattle.std.proofs.Common.{◌≡◌, ◌≢◌, ◌⊎◌, ◌∙◌, ℕ, List, Bool, Some, [], refl, drop, inl, inr, map, codes, false, subst, sym, true, rules}
use Rattle.std.proofs.lemmas.Result.{err_from_is_err_and, on_ok_weaker}
use Rattle.std.specs.Option.{option_map}
use Rattle.std.specs.Prelude.{string_bytes}
use Rattle.clap.specs.Words.{kind_of}
use Rattle.clap.specs.declared.error.kind.ErrorKind.TheVariants as kinds
use Rattle.pair_split.specs.Pair.{word_at}
use Rattle.pair_split.specs.PairFault.{IsFaultOf}
use Rattle.pair_split.specs.declared.pair_fault.PairFault.{PairFault}
use Rattle.pair_split.specs.declared.pair_fault.PairFault.TheVariants.{Pair, Name, Share, Many, Memory}
use Rattle.royalty_program.specs.SplitCommand.{split_app}
use Rattle.royalty_program.specs.Answered.{AreAdjustFrom, AreCheckedFrom, AreExplainedFrom, AreMergeFrom, AreReadFrom, AskForOutput, IsAnswerTo, IsAnswered}
use Rattle.royalty_program.specs.Asked.{AskForHelp, IsDivision, check_grammar, explain_grammar, pairs_of}
use Rattle.royalty_program.specs.AdjustAnswered.{IsOfAdjustment}
use Rattle.royalty_program.specs.AdjustCommand.{adjust_app}
use Rattle.royalty_program.specs.AdjustFiles.{IsAdjustmentOver}
use Rattle.royalty_program.specs.MergeCommand.{merge_app}
use Rattle.royalty_program.specs.MergeFiles.{IsMergeOver}
use Rattle.royalty_program.specs.Status.{IsOfDivision, failure_of_fault}
use Rattle.royalty_program.specs.declared.adjust_command.AdjustWords.{AdjustWords}
use Rattle.royalty_program.specs.declared.explain_command.ExplainWords.{ExplainWords}
use Rattle.royalty_program.specs.declared.merge_command.MergeWords.{MergeWords}
use Rattle.royalty_program.specs.declared.run_command.RunWords.{RunWords}
use Rattle.royalty_program.proofs.CommandNames.{differ, no_table}
use Rattle.royalty_program.proofs.RunLemmas.{is_of_one_file}
use Rattle.royalty_program.specs.Answered.{AreStarting}
use Rattle.royalty_program.specs.Asked.{AskForRun, AskForSubmittedRun, AskForTable}
use Rattle.royalty_program.specs.RunInputs.{AreStatementsFrom, IsExplanationFrom, IsReportFrom}
use Rattle.royalty_program.specs.StartingCommand.{starting_app, starting_name}
use Rattle.royalty_program.specs.declared.inputs.RunInputs.{RunInputs}
use Rattle.royalty_program.specs.SubmittedFiles.{HoldsAt}
use Rattle.royalty_program.specs.declared.starting_command.StartingWords.{StartingWords}
use Rattle.starting_files.specs.Tables.{IsTableOf}
use Rattle.starting_files.specs.declared.making.StartingTable.{StartingTable}
use Rattle.royalty_program.proofs.OutputLemmas.{delivered_adjustment, delivered_merge, delivered_out, delivered_run, left_adjustment, left_merge, left_run, silent_adjustment, silent_merge, unused_adjustment, no_check_help_given, no_explain_help_given, no_files_help_given, no_merge_help_given, no_output, no_run_help_given, not_accepted_check, not_accepted_explain, not_accepted_files, not_accepted_run, unmerged_words, unused_merge, unused_run}
use Rattle.royalty_program.proofs.OverLemmas.{adjusted_given, each_has_a_path, explained_given, fails_given, merged_given, no_table_given, over_given, over_in_order, over_submitted, reported_given, table_given, unadjusted_given, unchecked_given, unexplained_given}
use Rattle.royalty_program.proofs.OptionLemmas.{accepted_is_memory, no_help_given}
use Rattle.royalty_program.specs.Answered.{AreDocumentsFrom}
use Rattle.royalty_program.proofs.DocumentLemmas.{answers_documents, documents_given, left_given, no_statements_help_given, not_accepted_statements, nothing_added}
use Rattle.royalty_program.proofs.DocumentLemmas as documents
use Rattle.royalty_program.specs.ImportCommand.{AreImportFrom}
use Rattle.royalty_program.proofs.ImportLemmas.{no_import_help_given, not_accepted_import}
use Rattle.royalty_program.proofs.ImportFileLemmas.{left_import}
use Rattle.royalty_program.proofs.RunWalked.{no_help}
use Rattle.royalty_program.proofs.answering.answer.Goals as goal

fault_stands : (words : List (List ℕ)) (f : PairFault) → IsFaultOf (pairs_of words) f → IsOfDivision words (failure_of_fault f)
fault_stands words (Pair place) stands = stands
fault_stands words (Name place) stands = stands
fault_stands words (Share place) stands = stands
fault_stands words Many stands = stands
fault_stands words Memory stands = tt

pub returns-in-Ok-Division-clause-pairs : goal.returns-in-Ok-Division-clause-pairs
returns-in-Ok-Division-clause-pairs g c asked =
    let stands : IsFaultOf (map string_bytes c.as_slice.result.now) c.in-Err-split_words.fault = c.in-Err-split_words.ensures.fault in
    let of_list : IsFaultOf (map string_bytes c.in-Ok-Division.asked.pairs.items) c.in-Err-split_words.fault = rw c.as_slice.ensures.value at stands in
    let pairs : map string_bytes c.in-Ok-Division.asked.pairs.items ≡ pairs_of (map string_bytes c.args.words.now) = search rules in
    let of_words : IsFaultOf (pairs_of (map string_bytes c.args.words.now)) c.in-Err-split_words.fault = rw pairs at of_list in
    rw c.from.ensures (fault_stands (map string_bytes c.args.words.now) c.in-Err-split_words.fault of_words)

-- words that ask for a division are answered by its rows
answers_division : {holds gives : List ℕ → List ℕ → Type 0} (words : List (List ℕ)) (text : List ℕ) → word_at words 1 ≡ codes "split" → (IsDivision words → IsAnswerTo words text) → IsAnswered holds gives words true text
answers_division words text command division = record {
  division = division;
  run = λ run. absurd (differ (sym command ∙ run.command) refl);
  submitted = λ run. absurd (differ (sym command ∙ run.command) refl);
  explained = λ explain. absurd (differ (sym command ∙ explain.command) refl);
  checked = λ check. absurd (differ (sym command ∙ check.command) refl);
  merged = λ merge. absurd (differ (sym command ∙ merge.command) refl);
  adjusted = λ adjust. absurd (differ (sym command ∙ adjust.command) refl);
  table = λ table asks. absurd (no_table refl refl table (sym command ∙ asks.command));
  others = λ other no_import. refl;
  in_order = λ run. absurd (differ (sym command ∙ run.command) refl);
}

-- those that ask for a run by its statements
answers_run : (holds gives : List ℕ → List ℕ → Type 0) (words : List (List ℕ)) (asked : RunWords) (text : List ℕ) → word_at words 1 ≡ codes "run" → AreReadFrom (drop 1 words) asked
    → AreStatementsFrom holds asked.inputs text → IsAnswered holds gives words true text
answers_run holds gives words asked text command read over = record {
  division = λ division. absurd (differ (sym command ∙ division.command) refl);
  run = λ run. over_given holds (drop 1 words) asked text run.one_file read over;
  submitted = λ run. over_submitted holds (drop 1 words) asked text run.several read over;
  explained = λ explain. absurd (differ (sym command ∙ explain.command) refl);
  checked = λ check. absurd (differ (sym command ∙ check.command) refl);
  merged = λ merge. absurd (differ (sym command ∙ merge.command) refl);
  adjusted = λ adjust. absurd (differ (sym command ∙ adjust.command) refl);
  table = λ table asks. absurd (no_table refl refl table (sym command ∙ asks.command));
  others = λ other no_import. refl;
  in_order = λ run. over_in_order holds (drop 1 words) asked text run.options read over;
}

-- those that ask for a merge by what the texts merge to
answers_merge : (holds gives : List ℕ → List ℕ → Type 0) (words : List (List ℕ)) (asked : MergeWords) (text : List ℕ) → word_at words 1 ≡ codes "merge" → AreMergeFrom (drop 1 words) asked
    → IsMergeOver gives (map string_bytes asked.statements.items) text → IsAnswered holds gives words true text
answers_merge holds gives words asked text command read over = record {
  division = λ division. absurd (differ (sym command ∙ division.command) refl);
  run = λ run. absurd (differ (sym command ∙ run.command) refl);
  submitted = λ run. absurd (differ (sym command ∙ run.command) refl);
  explained = λ explain. absurd (differ (sym command ∙ explain.command) refl);
  checked = λ check. absurd (differ (sym command ∙ check.command) refl);
  merged = λ merge. merged_given gives (drop 1 words) asked text read over;
  adjusted = λ adjust. absurd (differ (sym command ∙ adjust.command) refl);
  table = λ table asks. absurd (no_table refl refl table (sym command ∙ asks.command));
  others = λ other no_import. refl;
  in_order = λ run. absurd (differ (sym command ∙ run.command) refl);
}

-- those that ask for an adjustment by what the texts differ by
answers_adjustment : (holds gives : List ℕ → List ℕ → Type 0) (words : List (List ℕ)) (asked : AdjustWords) (text : List ℕ) → word_at words 1 ≡ codes "adjust" → AreAdjustFrom (drop 1 words) asked
    → IsAdjustmentOver gives (string_bytes asked.paid) (string_bytes asked.right) text → IsAnswered holds gives words true text
answers_adjustment holds gives words asked text command read over = record {
  division = λ division. absurd (differ (sym command ∙ division.command) refl);
  run = λ run. absurd (differ (sym command ∙ run.command) refl);
  submitted = λ run. absurd (differ (sym command ∙ run.command) refl);
  explained = λ explain. absurd (differ (sym command ∙ explain.command) refl);
  checked = λ check. absurd (differ (sym command ∙ check.command) refl);
  merged = λ merge. absurd (differ (sym command ∙ merge.command) refl);
  adjusted = λ adjust. adjusted_given gives (drop 1 words) asked text read over;
  table = λ table asks. absurd (no_table refl refl table (sym command ∙ asks.command));
  others = λ other no_import. refl;
  in_order = λ run. absurd (differ (sym command ∙ run.command) refl);
}

-- and those that ask for an explanation by it
answers_explanation : (holds gives : List ℕ → List ℕ → Type 0) (words : List (List ℕ)) (asked : ExplainWords) (text : List ℕ) → word_at words 1 ≡ codes "explain" → AreExplainedFrom (drop 1 words) asked
    → IsExplanationFrom holds asked.inputs asked.row text → IsAnswered holds gives words true text
answers_explanation holds gives words asked text command read over = record {
  division = λ division. absurd (differ (sym command ∙ division.command) refl);
  run = λ run. absurd (differ (sym command ∙ run.command) refl);
  submitted = λ run. absurd (differ (sym command ∙ run.command) refl);
  explained = λ explain. explained_given holds (drop 1 words) asked text read over;
  checked = λ check. absurd (differ (sym command ∙ check.command) refl);
  merged = λ merge. absurd (differ (sym command ∙ merge.command) refl);
  adjusted = λ adjust. absurd (differ (sym command ∙ adjust.command) refl);
  table = λ table asks. absurd (no_table refl refl table (sym command ∙ asks.command));
  others = λ other no_import. refl;
  in_order = λ run. absurd (differ (sym command ∙ run.command) refl);
}

-- and those that ask for a check by its report
answers_check : (holds gives : List ℕ → List ℕ → Type 0) (words : List (List ℕ)) (inputs : RunInputs) (sound : Bool) (text : List ℕ)
    → word_at words 1 ≡ codes "check" → AreCheckedFrom (drop 1 words) inputs
    → IsReportFrom holds inputs sound text → IsAnswered holds gives words sound text
answers_check holds gives words inputs sound text command read over = record {
  division = λ division. absurd (differ (sym command ∙ division.command) refl);
  run = λ run. absurd (differ (sym command ∙ run.command) refl);
  submitted = λ run. absurd (differ (sym command ∙ run.command) refl);
  explained = λ explain. absurd (differ (sym command ∙ explain.command) refl);
  checked = λ check. reported_given holds (drop 1 words) inputs sound text read over;
  merged = λ merge. absurd (differ (sym command ∙ merge.command) refl);
  adjusted = λ adjust. absurd (differ (sym command ∙ adjust.command) refl);
  table = λ table asks. absurd (no_table refl refl table (sym command ∙ asks.command));
  others = λ other no_import. absurd (other command);
  in_order = λ run. absurd (differ (sym command ∙ run.command) refl);
}

-- and those that ask for a table to begin with by it
answers_table : (holds gives : List ℕ → List ℕ → Type 0) (words : List (List ℕ)) (asked : StartingWords) (text : List ℕ) → word_at words 1 ≡ starting_name asked.table
    → ((table : StartingTable) → word_at words 1 ≡ starting_name table → AreStarting table (drop 1 words) asked)
    → IsTableOf asked.table asked.files.names (HoldsAt holds (map string_bytes asked.files.paths.items)) text → IsAnswered holds gives words true text
answers_table holds gives words asked text command read is = record {
  division = λ division. absurd (no_table refl refl asked.table (sym division.command ∙ command));
  run = λ run. absurd (no_table refl refl asked.table (sym run.command ∙ command));
  submitted = λ run. absurd (no_table refl refl asked.table (sym run.command ∙ command));
  explained = λ explain. absurd (no_table refl refl asked.table (sym explain.command ∙ command));
  checked = λ check. absurd (no_table refl refl asked.table (sym check.command ∙ command));
  merged = λ merge. absurd (no_table refl refl asked.table (sym merge.command ∙ command));
  adjusted = λ adjust. absurd (no_table refl refl asked.table (sym adjust.command ∙ command));
  table = λ table asks. table_given holds (drop 1 words) table asked text (read table asks.command) is;
  others = λ other no_import. refl;
  in_order = λ run. absurd (no_table refl refl asked.table (sym run.command ∙ command));
}

-- words that ask for an import ask for nothing else
answers_import : (holds gives : List ℕ → List ℕ → Type 0) (words : List (List ℕ)) (sound : Bool) (text : List ℕ) → word_at words 1 ≡ codes "import" → IsAnswered holds gives words sound text
answers_import holds gives words sound text command = record {
  division = λ division. absurd (differ (sym command ∙ division.command) refl);
  run = λ run. absurd (differ (sym command ∙ run.command) refl);
  submitted = λ run. absurd (differ (sym command ∙ run.command) refl);
  explained = λ explain. absurd (differ (sym command ∙ explain.command) refl);
  checked = λ check. absurd (differ (sym command ∙ check.command) refl);
  merged = λ merge. absurd (differ (sym command ∙ merge.command) refl);
  adjusted = λ adjust. absurd (differ (sym command ∙ adjust.command) refl);
  table = λ table asks. absurd (no_table refl refl table (sym command ∙ asks.command));
  others = λ other no_import. absurd (no_import command);
  in_order = λ run. absurd (differ (sym command ∙ run.command) refl);
}

pub returns-in-Ok-clause-answered : goal.returns-in-Ok-clause-answered
returns-in-Ok-clause-answered g c =
    let words = map string_bytes c.args.words.now in
    let text = c.as_slice-in-Ok.result.now in
    let command : word_at words 1 ≡ codes "split" = rw (c.in-Ok-Division.is, c.in-Ok-Division.field-0-is) at c.read_words.ensures.named in
    let no_file = no_output (g.T.Target.keeps c.args.target.now) words (λ run. differ (sym command ∙ run) refl) (λ merge. differ (sym command ∙ merge) refl) (λ adjust. differ (sym command ∙ adjust) refl) in
    let rows : IsDivision words → IsAnswerTo words text = search rules in
    let answered : IsAnswered (g.S.Source.holds c.args.files.now) (g.S.Texts.gives c.args.files.now) words true text = answers_division words text command rows in
    on_ok_weaker c.write_all.result (λ wrote. (text, delivered_out _ words _ _ text no_file wrote, answered)) c.write_all.ensures.bytes

pub returns-in-Ok-Run-clause-answered : goal.returns-in-Ok-Run-clause-answered
returns-in-Ok-Run-clause-answered g c =
    let words = map string_bytes c.args.words.now in
    let holds = g.S.Source.holds c.args.files.now in
    let gives = g.S.Texts.gives c.args.files.now in
    let keeps = g.T.Target.keeps c.settle_out.new.target in
    let asked = c.in-Ok-Run.asked in
    let command : word_at words 1 ≡ codes "run" = rw (c.in-Ok-Run.is, c.in-Ok-Run.field-0-is) at c.read_words.ensures.named in
    let read : AreReadFrom (drop 1 words) asked = rw (c.in-Ok-Run.is, c.in-Ok-Run.field-0-is) at (c.read_words.ensures.run command) in
    on_ok_weaker c.in_ok-settle_out-in-Ok-Run.field-0
    (λ wrote. (
      wrote.0,
      delivered_run keeps words asked.inputs (option_map string_bytes asked.output) _ _ wrote.0 command read.inputs read.output
          c.in_ok-settle_out-in-Ok-Run.ensures.apart wrote.1,
      answers_run holds gives words asked wrote.0 command read wrote.2,
    ))
    c.in_ok-settle_out-in-Ok-Run.ensures.statements

pub returns-in-Ok-Merge-clause-answered : goal.returns-in-Ok-Merge-clause-answered
returns-in-Ok-Merge-clause-answered g c =
    let words = map string_bytes c.args.words.now in
    let holds = g.S.Source.holds c.args.files.now in
    let gives = g.S.Texts.gives c.args.files.now in
    let keeps = g.T.Target.keeps c.merge_out.new.target in
    let asked = c.in-Ok-Merge.asked in
    let command : word_at words 1 ≡ codes "merge" = rw (c.in-Ok-Merge.is, c.in-Ok-Merge.field-0-is) at c.read_words.ensures.named in
    let read : AreMergeFrom (drop 1 words) asked = rw (c.in-Ok-Merge.is, c.in-Ok-Merge.field-0-is) at (c.read_words.ensures.merged command) in
    on_ok_weaker c.in_ok-merge_out-in-Ok-Merge.field-0
    (λ wrote. (wrote.0, delivered_merge keeps words (option_map string_bytes asked.output) _ _ wrote.0 command read.output wrote.1, answers_merge holds gives words asked wrote.0 command read wrote.2))
    c.in_ok-merge_out-in-Ok-Merge.ensures.merged

pub returns-in-Ok-format-clause-answered : goal.returns-in-Ok-format-clause-answered
returns-in-Ok-format-clause-answered g c =
    let words = map string_bytes c.args.words.now in
    let no_run_help : AskForRun words ⊎ AskForSubmittedRun words → ⊥ = λ asks.
    let bad : false ≡ true = c.if-use_stderr.ensures.1 (no_run_help_given words c.in-Err.error c.in-Err.ensures.error asks) in cc in
    let no_table_help : (table : StartingTable) → AskForTable table words → ⊥ = λ table asks.
    let bad : false ≡ true = c.if-use_stderr.ensures.1
    (no_files_help_given (starting_app table) (drop 1 words) c.in-Err.error (c.in-Err.ensures.no_table table asks.command) asks.no_help) in cc in
    let no_explain_help : word_at words 1 ≡ codes "explain" → ¬ AskForHelp (explain_grammar (drop 1 words)) (drop 1 words) → ⊥ = λ command none.
    let bad : false ≡ true = c.if-use_stderr.ensures.1 (no_explain_help_given (drop 1 words) c.in-Err.error (c.in-Err.ensures.unexplained command) none) in cc in
    let no_check_help : word_at words 1 ≡ codes "check" → ¬ AskForHelp (check_grammar (drop 1 words)) (drop 1 words) → ⊥ = λ command none.
    let bad : false ≡ true = c.if-use_stderr.ensures.1 (no_check_help_given (drop 1 words) c.in-Err.error (c.in-Err.ensures.unchecked command) none) in cc in
    let no_merge_help : word_at words 1 ≡ codes "merge" → ¬ AskForHelp merge_app (drop 1 words) → ⊥ = λ command none.
    let bad : false ≡ true = c.if-use_stderr.ensures.1 (no_merge_help_given (drop 1 words) c.in-Err.error (c.in-Err.ensures.unmerged command) none) in cc in
    let no_adjust_help : word_at words 1 ≡ codes "adjust" → ¬ AskForHelp adjust_app (drop 1 words) → ⊥ = λ command none.
    let bad : false ≡ true = c.if-use_stderr.ensures.1 (no_help_given adjust_app (drop 1 words) c.in-Err.error (c.in-Err.ensures.unadjusted command) none) in cc in
    let no_file : (path : List ℕ) → ¬ AskForOutput words path = λ path asks. elim asks [
      | inl (run, named) ↦ no_run_help run
      | inr others ↦ elim others [
        | inl (merge, named) ↦ no_merge_help merge.command merge.no_help
        | inr (adjust, named) ↦ no_adjust_help adjust.command adjust.no_help
      ]
    ] in
    let answered : IsAnswered (g.S.Source.holds c.args.files.now) (g.S.Texts.gives c.args.files.now) words true c.as_bytes.result.now = record {
      division = λ asked. let bad : false ≡ true = c.if-use_stderr.ensures.1 (c.in-Err.ensures.no_help asked) in cc;
      run = λ asked. absurd (no_run_help (inl asked));
      submitted = λ asked. absurd (no_run_help (inr asked));
      explained = λ asked. absurd (no_explain_help asked.command asked.no_help);
      checked = λ asked. absurd (no_check_help asked.command asked.no_help);
      merged = λ asked. absurd (no_merge_help asked.command asked.no_help);
      adjusted = λ asked. absurd (no_adjust_help asked.command asked.no_help);
      table = λ table asked. absurd (no_table_help table asked);
      others = λ other no_import. refl;
      in_order = λ asked. absurd (no_run_help (inl (record {
        command = asked.command;
        one_file = is_of_one_file (drop 1 words) asked.options;
        no_help = no_help (drop 1 words) asked.options;
      })));
    } in
    on_ok_weaker c.write_all-in-Ok-format.result (λ wrote. (c.as_bytes.result.now, delivered_out (g.T.Target.keeps c.args.target.now) words _ _ c.as_bytes.result.now no_file wrote, answered)) c.write_all-in-Ok-format.ensures.bytes

pub returns-in-Err-2-clause-run : goal.returns-in-Err-2-clause-run
returns-in-Err-2-clause-run g c command =
    let words = map string_bytes c.args.words.now in
    let not_memory : kind_of c.in-Err-2.error ≢ kinds.OutOfMemory = search rules in
    not_accepted_run (drop 1 words) c.in-Err-2.error not_memory (c.in-Err-2.ensures.error command)

pub returns-in-Err-2-clause-table : goal.returns-in-Err-2-clause-table
returns-in-Err-2-clause-table g c table command =
    let words = map string_bytes c.args.words.now in
    let not_memory : kind_of c.in-Err-2.error ≢ kinds.OutOfMemory = search rules in
    not_accepted_files (starting_app table) (drop 1 words) c.in-Err-2.error not_memory (c.in-Err-2.ensures.no_table table command)

pub returns-in-Err-2-clause-explanation : goal.returns-in-Err-2-clause-explanation
returns-in-Err-2-clause-explanation g c command =
    let words = map string_bytes c.args.words.now in
    let not_memory : kind_of c.in-Err-2.error ≢ kinds.OutOfMemory = search rules in
    not_accepted_explain (drop 1 words) c.in-Err-2.error not_memory (c.in-Err-2.ensures.unexplained command)

pub returns-in-Err-2-clause-pairs : goal.returns-in-Err-2-clause-pairs
returns-in-Err-2-clause-pairs g c division accepted =
    let words = map string_bytes c.args.words.now in
    let not_memory : kind_of c.in-Err-2.error ≢ kinds.OutOfMemory = search rules in
    not_memory (accepted_is_memory split_app (drop 1 words) c.in-Err-2.error (c.in-Err-2.ensures.undivided division.command) accepted)

pub returns-in-Err-2-clause-checked : goal.returns-in-Err-2-clause-checked
returns-in-Err-2-clause-checked g c command =
    let words = map string_bytes c.args.words.now in
    let not_memory : kind_of c.in-Err-2.error ≢ kinds.OutOfMemory = search rules in
    not_accepted_check (drop 1 words) c.in-Err-2.error not_memory (c.in-Err-2.ensures.unchecked command)

pub returns-in-Err-2-clause-merge : goal.returns-in-Err-2-clause-merge
returns-in-Err-2-clause-merge g c command =
    let words = map string_bytes c.args.words.now in
    let not_memory : kind_of c.in-Err.error ≢ kinds.OutOfMemory = search rules in
    unmerged_words (g.S.Texts.gives c.args.files.now) (drop 1 words) c.in-Err.error not_memory (c.in-Err.ensures.unmerged command)

pub returns-in-Err-2-clause-adjustment : goal.returns-in-Err-2-clause-adjustment
returns-in-Err-2-clause-adjustment g c command accepted =
    let words = map string_bytes c.args.words.now in
    let not_memory : kind_of c.in-Err-2.error ≢ kinds.OutOfMemory = search rules in
    not_memory (accepted_is_memory adjust_app (drop 1 words) c.in-Err-2.error (c.in-Err-2.ensures.unadjusted command) accepted)

pub returns-in-Ok-Run-clause-pairs : goal.returns-in-Ok-Run-clause-pairs
returns-in-Ok-Run-clause-pairs g c division =
    let none : ⊥ = rw (c.in-Ok-Run.is, c.in-Ok-Run.field-0-is) at (c.read_words.ensures.division division) in
    absurd none

pub returns-in-Ok-Starting-clause-answered : goal.returns-in-Ok-Starting-clause-answered
returns-in-Ok-Starting-clause-answered g c =
    let words = map string_bytes c.args.words.now in
    let holds = g.S.Source.holds c.args.files.now in
    let gives = g.S.Texts.gives c.args.files.now in
    let asked = c.in-Ok-Starting.asked in
    let text = c.in_ok-text-in-Ok-Starting.text.items in
    let command : word_at words 1 ≡ starting_name asked.table = rw (c.in-Ok-Starting.is, c.in-Ok-Starting.field-0-is) at c.read_words.ensures.named in
    let read : (table : StartingTable) → word_at words 1 ≡ starting_name table → AreStarting table (drop 1 words) asked = λ table named.
    rw (c.in-Ok-Starting.is, c.in-Ok-Starting.field-0-is) at (c.read_words.ensures.table table named) in
    let no_file = no_output (g.T.Target.keeps c.args.target.now) words (λ run. no_table refl refl asked.table (sym run ∙ command)) (λ merge. no_table refl refl asked.table (sym merge ∙ command)) (λ adjust. no_table refl refl asked.table (sym adjust ∙ command)) in
    let answered : IsAnswered holds gives words true text = answers_table holds gives words asked text command read c.in_ok-text-in-Ok-Starting.ensures.table in
    on_ok_weaker c.write_all-in-Ok-Starting.result (λ wrote. (text, delivered_out (g.T.Target.keeps c.args.target.now) words _ _ text no_file wrote, answered)) (rw c.as_slice-in-Ok-Starting.ensures.value at c.write_all-in-Ok-Starting.ensures.bytes)

pub returns-in-Ok-Explanation-clause-answered : goal.returns-in-Ok-Explanation-clause-answered
returns-in-Ok-Explanation-clause-answered g c =
    let words = map string_bytes c.args.words.now in
    let holds = g.S.Source.holds c.args.files.now in
    let gives = g.S.Texts.gives c.args.files.now in
    let asked = c.in-Ok-Explanation.asked in
    let text = c.in_ok-text-in-Ok-Explanation.text.items in
    let command : word_at words 1 ≡ codes "explain" = rw (c.in-Ok-Explanation.is, c.in-Ok-Explanation.field-0-is) at c.read_words.ensures.named in
    let read : AreExplainedFrom (drop 1 words) asked = rw (c.in-Ok-Explanation.is, c.in-Ok-Explanation.field-0-is) at (c.read_words.ensures.explanation command) in
    let no_file = no_output (g.T.Target.keeps c.args.target.now) words (λ run. differ (sym command ∙ run) refl) (λ merge. differ (sym command ∙ merge) refl) (λ adjust. differ (sym command ∙ adjust) refl) in
    let answered : IsAnswered holds gives words true text = answers_explanation holds gives words asked text command read c.in_ok-text-in-Ok-Explanation.ensures.explanation in
    on_ok_weaker c.write_all-in-Ok-Explanation.result (λ wrote. (text, delivered_out (g.T.Target.keeps c.args.target.now) words _ _ text no_file wrote, answered)) (rw c.as_slice-in-Ok-Explanation.ensures.value at c.write_all-in-Ok-Explanation.ensures.bytes)

pub check_files-requires : goal.check_files-requires
check_files-requires g c =
    let words = map string_bytes c.args.words.now in
    let command : word_at words 1 ≡ codes "check" = rw (c.in-Ok-Check.is, c.in-Ok-Check.field-0-is) at c.read_words.ensures.named in
    let read : AreCheckedFrom (drop 1 words) c.in-Ok-Check.inputs = rw (c.in-Ok-Check.is, c.in-Ok-Check.field-0-is) at (c.read_words.ensures.checked command) in
    each_has_a_path (drop 1 words) c.in-Ok-Check.inputs read

pub returns-in-Ok-Check-clause-answered : goal.returns-in-Ok-Check-clause-answered
returns-in-Ok-Check-clause-answered g c =
    let words = map string_bytes c.args.words.now in
    let holds = g.S.Source.holds c.args.files.now in
    let gives = g.S.Texts.gives c.args.files.now in
    let inputs = c.in-Ok-Check.inputs in
    let checked = c.in_ok-checked-in-Ok-Check.checked in
    let command : word_at words 1 ≡ codes "check" = rw (c.in-Ok-Check.is, c.in-Ok-Check.field-0-is) at c.read_words.ensures.named in
    let read : AreCheckedFrom (drop 1 words) inputs = rw (c.in-Ok-Check.is, c.in-Ok-Check.field-0-is) at (c.read_words.ensures.checked command) in
    let no_file = no_output (g.T.Target.keeps c.args.target.now) words (λ run. differ (sym command ∙ run) refl) (λ merge. differ (sym command ∙ merge) refl) (λ adjust. differ (sym command ∙ adjust) refl) in
    let answered : IsAnswered holds gives words checked.is_sound checked.text.items = answers_check holds gives words inputs checked.is_sound checked.text.items command read c.in_ok-checked-in-Ok-Check.ensures.report in
    on_ok_weaker c.write_all-in-Ok-Check.result (λ wrote. (checked.text.items, delivered_out (g.T.Target.keeps c.args.target.now) words _ _ checked.text.items no_file wrote, answered)) (rw c.as_slice-in-Ok-Check.ensures.value at c.write_all-in-Ok-Check.ensures.bytes)

pub returns-in_err-checked-in-Ok-Check-clause-checked : goal.returns-in_err-checked-in-Ok-Check-clause-checked
returns-in_err-checked-in-Ok-Check-clause-checked g c command =
    let words = map string_bytes c.args.words.now in
    let inputs = c.in-Ok-Check.inputs in
    let failed = c.in_err-checked-in-Ok-Check in
    let read : AreCheckedFrom (drop 1 words) inputs = rw (c.in-Ok-Check.is, c.in-Ok-Check.field-0-is) at (c.read_words.ensures.checked command) in
    let exit = err_from_is_err_and c.from_residual-in_err-checked-in-Ok-Check.result c.from_residual-in_err-checked-in-Ok-Check.ensures.1 in
    rw (exit.1, exit.2)
    (unchecked_given (g.S.Source.holds c.args.files.now) (g.S.Source.refuses c.args.files.now) (drop 1 words) inputs read failed.field-0.0 failed.ensures.files)

pub returns-in_err-settle_out-in-Ok-Run-clause-left : goal.returns-in_err-settle_out-in-Ok-Run-clause-left
returns-in_err-settle_out-in-Ok-Run-clause-left g c path named =
    let words = map string_bytes c.args.words.now in
    let asked = c.in-Ok-Run.asked in
    let command : word_at words 1 ≡ codes "run" = rw (c.in-Ok-Run.is, c.in-Ok-Run.field-0-is) at c.read_words.ensures.named in
    let read : AreReadFrom (drop 1 words) asked = rw (c.in-Ok-Run.is, c.in-Ok-Run.field-0-is) at (c.read_words.ensures.run command) in
    left_run (g.T.Target.keeps c.args.target.now) (g.T.Target.keeps c.settle_out.new.target) words asked.output _ _ command read.output
    (λ text over. answers_run (g.S.Source.holds c.args.files.now) (g.S.Texts.gives c.args.files.now) words asked text command read over) c.settle_out.ensures.left path named

pub returns-in-Ok-Run-clause-left : goal.returns-in-Ok-Run-clause-left
returns-in-Ok-Run-clause-left g c path named =
    let words = map string_bytes c.args.words.now in
    let asked = c.in-Ok-Run.asked in
    let command : word_at words 1 ≡ codes "run" = rw (c.in-Ok-Run.is, c.in-Ok-Run.field-0-is) at c.read_words.ensures.named in
    let read : AreReadFrom (drop 1 words) asked = rw (c.in-Ok-Run.is, c.in-Ok-Run.field-0-is) at (c.read_words.ensures.run command) in
    left_run (g.T.Target.keeps c.args.target.now) (g.T.Target.keeps c.settle_out.new.target) words asked.output _ _ command read.output
    (λ text over. answers_run (g.S.Source.holds c.args.files.now) (g.S.Texts.gives c.args.files.now) words asked text command read over) c.settle_out.ensures.left path named

pub returns-in_err-merge_out-in-Ok-Merge-clause-left : goal.returns-in_err-merge_out-in-Ok-Merge-clause-left
returns-in_err-merge_out-in-Ok-Merge-clause-left g c path named =
    let words = map string_bytes c.args.words.now in
    let asked = c.in-Ok-Merge.asked in
    let command : word_at words 1 ≡ codes "merge" = rw (c.in-Ok-Merge.is, c.in-Ok-Merge.field-0-is) at c.read_words.ensures.named in
    let read : AreMergeFrom (drop 1 words) asked = rw (c.in-Ok-Merge.is, c.in-Ok-Merge.field-0-is) at (c.read_words.ensures.merged command) in
    left_merge (g.T.Target.keeps c.args.target.now) (g.T.Target.keeps c.merge_out.new.target) words asked.output _ _ command read.output
    (λ text over. answers_merge (g.S.Source.holds c.args.files.now) (g.S.Texts.gives c.args.files.now) words asked text command read over) c.merge_out.ensures.left path named

pub returns-in-Ok-Merge-clause-left : goal.returns-in-Ok-Merge-clause-left
returns-in-Ok-Merge-clause-left g c path named =
    let words = map string_bytes c.args.words.now in
    let asked = c.in-Ok-Merge.asked in
    let command : word_at words 1 ≡ codes "merge" = rw (c.in-Ok-Merge.is, c.in-Ok-Merge.field-0-is) at c.read_words.ensures.named in
    let read : AreMergeFrom (drop 1 words) asked = rw (c.in-Ok-Merge.is, c.in-Ok-Merge.field-0-is) at (c.read_words.ensures.merged command) in
    left_merge (g.T.Target.keeps c.args.target.now) (g.T.Target.keeps c.merge_out.new.target) words asked.output _ _ command read.output
    (λ text over. answers_merge (g.S.Source.holds c.args.files.now) (g.S.Texts.gives c.args.files.now) words asked text command read over) c.merge_out.ensures.left path named

pub returns-in_err-settle_out-in-Ok-Run-clause-unused : goal.returns-in_err-settle_out-in-Ok-Run-clause-unused
returns-in_err-settle_out-in-Ok-Run-clause-unused g c none other no_import =
    let words = map string_bytes c.args.words.now in
    let command : word_at words 1 ≡ codes "run" = rw (c.in-Ok-Run.is, c.in-Ok-Run.field-0-is) at c.read_words.ensures.named in
    let read : AreReadFrom (drop 1 words) c.in-Ok-Run.asked = rw (c.in-Ok-Run.is, c.in-Ok-Run.field-0-is) at (c.read_words.ensures.run command) in
    unused_run words c.in-Ok-Run.asked.output _ command read.output c.settle_out.ensures.unused none

pub returns-in-Ok-Run-clause-unused : goal.returns-in-Ok-Run-clause-unused
returns-in-Ok-Run-clause-unused g c none other no_import =
    let words = map string_bytes c.args.words.now in
    let command : word_at words 1 ≡ codes "run" = rw (c.in-Ok-Run.is, c.in-Ok-Run.field-0-is) at c.read_words.ensures.named in
    let read : AreReadFrom (drop 1 words) c.in-Ok-Run.asked = rw (c.in-Ok-Run.is, c.in-Ok-Run.field-0-is) at (c.read_words.ensures.run command) in
    unused_run words c.in-Ok-Run.asked.output _ command read.output c.settle_out.ensures.unused none

pub returns-in_err-merge_out-in-Ok-Merge-clause-unused : goal.returns-in_err-merge_out-in-Ok-Merge-clause-unused
returns-in_err-merge_out-in-Ok-Merge-clause-unused g c none other no_import =
    let words = map string_bytes c.args.words.now in
    let command : word_at words 1 ≡ codes "merge" = rw (c.in-Ok-Merge.is, c.in-Ok-Merge.field-0-is) at c.read_words.ensures.named in
    let read : AreMergeFrom (drop 1 words) c.in-Ok-Merge.asked = rw (c.in-Ok-Merge.is, c.in-Ok-Merge.field-0-is) at (c.read_words.ensures.merged command) in
    unused_merge words c.in-Ok-Merge.asked.output _ command read.output c.merge_out.ensures.unused none

pub returns-in-Ok-Merge-clause-unused : goal.returns-in-Ok-Merge-clause-unused
returns-in-Ok-Merge-clause-unused g c none other no_import =
    let words = map string_bytes c.args.words.now in
    let command : word_at words 1 ≡ codes "merge" = rw (c.in-Ok-Merge.is, c.in-Ok-Merge.field-0-is) at c.read_words.ensures.named in
    let read : AreMergeFrom (drop 1 words) c.in-Ok-Merge.asked = rw (c.in-Ok-Merge.is, c.in-Ok-Merge.field-0-is) at (c.read_words.ensures.merged command) in
    unused_merge words c.in-Ok-Merge.asked.output _ command read.output c.merge_out.ensures.unused none

pub returns-in_err-settle_out-in-Ok-Run-clause-run : goal.returns-in_err-settle_out-in-Ok-Run-clause-run
returns-in_err-settle_out-in-Ok-Run-clause-run g c command =
    let words = map string_bytes c.args.words.now in
    let asked = c.in-Ok-Run.asked in
    let failed = c.in_err-settle_out-in-Ok-Run in
    let read : AreReadFrom (drop 1 words) asked = rw (c.in-Ok-Run.is, c.in-Ok-Run.field-0-is) at (c.read_words.ensures.run command) in
    let exit = err_from_is_err_and c.from_residual.result c.from_residual.ensures.1 in
    rw (exit.1, exit.2)
    (fails_given (g.S.Source.holds c.args.files.now) (g.S.Source.refuses c.args.files.now) (drop 1 words) asked read failed.field-0.0 failed.ensures.files)

pub returns-in_err-text-in-Ok-Explanation-clause-explanation : goal.returns-in_err-text-in-Ok-Explanation-clause-explanation
returns-in_err-text-in-Ok-Explanation-clause-explanation g c command =
    let words = map string_bytes c.args.words.now in
    let asked = c.in-Ok-Explanation.asked in
    let failed = c.in_err-text-in-Ok-Explanation in
    let read : AreExplainedFrom (drop 1 words) asked = rw (c.in-Ok-Explanation.is, c.in-Ok-Explanation.field-0-is) at (c.read_words.ensures.explanation command) in
    let exit = err_from_is_err_and c.from_residual-in_err-text-in-Ok-Explanation.result c.from_residual-in_err-text-in-Ok-Explanation.ensures.1 in
    rw (exit.1, exit.2)
    (unexplained_given (g.S.Source.holds c.args.files.now) (g.S.Source.refuses c.args.files.now) (drop 1 words) asked read failed.field-0.0 failed.ensures.files)

pub returns-in_err-text-in-Ok-Starting-clause-table : goal.returns-in_err-text-in-Ok-Starting-clause-table
returns-in_err-text-in-Ok-Starting-clause-table g c table named =
    let words = map string_bytes c.args.words.now in
    let asked = c.in-Ok-Starting.asked in
    let failed = c.in_err-text-in-Ok-Starting in
    let read : AreStarting table (drop 1 words) asked = rw (c.in-Ok-Starting.is, c.in-Ok-Starting.field-0-is) at (c.read_words.ensures.table table named) in
    let exit = err_from_is_err_and c.from_residual-in_err-text-in-Ok-Starting.result c.from_residual-in_err-text-in-Ok-Starting.ensures.1 in
    rw (exit.1, exit.2)
    (no_table_given (g.S.Source.holds c.args.files.now) (g.S.Source.refuses c.args.files.now) (drop 1 words) table asked read failed.field-0.0 failed.ensures.files)

pub returns-in-Ok-Statements-clause-answered : goal.returns-in-Ok-Statements-clause-answered
returns-in-Ok-Statements-clause-answered g c =
    let words = map string_bytes c.args.words.now in
    let holds = g.S.Source.holds c.args.files.now in
    let gives = g.S.Texts.gives c.args.files.now in
    let command : word_at words 1 ≡ codes "statements" = rw (c.in-Ok-Statements.is, c.in-Ok-Statements.field-0-is) at c.read_words.ensures.named in
    let no_file = no_output (g.T.Target.keeps c.document_out.new.target) words (λ run. differ (sym command ∙ run) refl) (λ merge. differ (sym command ∙ merge) refl) (λ adjust. differ (sym command ∙ adjust) refl) in
    ([], delivered_out (g.T.Target.keeps c.document_out.new.target) words _ _ [] no_file (nothing_added _), answers_documents holds gives words [] command)

pub returns-in-Ok-Statements-clause-documents : goal.returns-in-Ok-Statements-clause-documents
returns-in-Ok-Statements-clause-documents g c asks =
    let words = map string_bytes c.args.words.now in
    let asked = c.in-Ok-Statements.asked in
    let read : AreDocumentsFrom (drop 1 words) asked = rw (c.in-Ok-Statements.is, c.in-Ok-Statements.field-0-is) at (c.read_words.ensures.documents asks.command) in
    let made = c.in_ok-document_out-in-Ok-Statements.ensures.documents in (
      made.0,
      subst (λ (path : List ℕ). g.T.Folders.keeps_folder c.document_out.new.target path (Some made.0)) read.chosen.to made.1,
      documents_given (g.S.Source.holds c.args.files.now) (drop 1 words) asked read made.0 made.2,
    )

pub returns-in_err-document_out-in-Ok-Statements-clause-undocumented : goal.returns-in_err-document_out-in-Ok-Statements-clause-undocumented
returns-in_err-document_out-in-Ok-Statements-clause-undocumented g c command =
    let words = map string_bytes c.args.words.now in
    let asked = c.in-Ok-Statements.asked in
    let failed = c.in_err-document_out-in-Ok-Statements in
    let read : AreDocumentsFrom (drop 1 words) asked = rw (c.in-Ok-Statements.is, c.in-Ok-Statements.field-0-is) at (c.read_words.ensures.documents command) in
    let exit = err_from_is_err_and c.from_residual-in_err-document_out-in-Ok-Statements.result c.from_residual-in_err-document_out-in-Ok-Statements.ensures.1 in
    rw (exit.1, exit.2)
    (documents.fails_given (g.S.Source.holds c.args.files.now) (drop 1 words) asked read (g.S.Source.refuses c.args.files.now) failed.field-0.0 failed.ensures.files)

pub returns-in-Err-2-clause-undocumented : goal.returns-in-Err-2-clause-undocumented
returns-in-Err-2-clause-undocumented g c command =
    let words = map string_bytes c.args.words.now in
    let not_memory : kind_of c.in-Err-2.error ≢ kinds.OutOfMemory = search rules in
    not_accepted_statements (drop 1 words) c.in-Err-2.error not_memory (c.in-Err-2.ensures.no_documents command)

pub returns-in-Ok-Statements-clause-left_folder : goal.returns-in-Ok-Statements-clause-left_folder
returns-in-Ok-Statements-clause-left_folder g c command =
    let words = map string_bytes c.args.words.now in
    let asked = c.in-Ok-Statements.asked in
    let read : AreDocumentsFrom (drop 1 words) asked = rw (c.in-Ok-Statements.is, c.in-Ok-Statements.field-0-is) at (c.read_words.ensures.documents command) in
    let made = c.in_ok-document_out-in-Ok-Statements.ensures.documents in
    left_given (g.S.Source.holds c.args.files.now) (drop 1 words) asked read (g.T.Folders.keeps_folder c.args.target.now) (g.T.Folders.keeps_folder c.document_out.new.target) (inr made)

pub returns-in_err-document_out-in-Ok-Statements-clause-left_folder : goal.returns-in_err-document_out-in-Ok-Statements-clause-left_folder
returns-in_err-document_out-in-Ok-Statements-clause-left_folder g c command =
    let words = map string_bytes c.args.words.now in
    let asked = c.in-Ok-Statements.asked in
    let read : AreDocumentsFrom (drop 1 words) asked = rw (c.in-Ok-Statements.is, c.in-Ok-Statements.field-0-is) at (c.read_words.ensures.documents command) in
    left_given (g.S.Source.holds c.args.files.now) (drop 1 words) asked read (g.T.Folders.keeps_folder c.args.target.now) (g.T.Folders.keeps_folder c.document_out.new.target)
    c.in_err-document_out-in-Ok-Statements.ensures.left

pub returns-in_err-settle_out-in-Ok-Run-clause-left_folder : goal.returns-in_err-settle_out-in-Ok-Run-clause-left_folder
returns-in_err-settle_out-in-Ok-Run-clause-left_folder g c statements =
    let command : word_at (map string_bytes c.args.words.now) 1 ≡ codes "run" = rw (c.in-Ok-Run.is, c.in-Ok-Run.field-0-is) at c.read_words.ensures.named in
    absurd (differ (sym command ∙ statements) refl)

pub returns-in-Ok-Run-clause-left_folder : goal.returns-in-Ok-Run-clause-left_folder
returns-in-Ok-Run-clause-left_folder g c statements =
    let command : word_at (map string_bytes c.args.words.now) 1 ≡ codes "run" = rw (c.in-Ok-Run.is, c.in-Ok-Run.field-0-is) at c.read_words.ensures.named in
    absurd (differ (sym command ∙ statements) refl)

pub returns-in_err-merge_out-in-Ok-Merge-clause-left_folder : goal.returns-in_err-merge_out-in-Ok-Merge-clause-left_folder
returns-in_err-merge_out-in-Ok-Merge-clause-left_folder g c statements =
    let command : word_at (map string_bytes c.args.words.now) 1 ≡ codes "merge" = rw (c.in-Ok-Merge.is, c.in-Ok-Merge.field-0-is) at c.read_words.ensures.named in
    absurd (differ (sym command ∙ statements) refl)

pub returns-in-Ok-Merge-clause-left_folder : goal.returns-in-Ok-Merge-clause-left_folder
returns-in-Ok-Merge-clause-left_folder g c statements =
    let command : word_at (map string_bytes c.args.words.now) 1 ≡ codes "merge" = rw (c.in-Ok-Merge.is, c.in-Ok-Merge.field-0-is) at c.read_words.ensures.named in
    absurd (differ (sym command ∙ statements) refl)

pub returns-in-Ok-format-clause-documents : goal.returns-in-Ok-format-clause-documents
returns-in-Ok-format-clause-documents g c asks =
    let words = map string_bytes c.args.words.now in
    let none : ⊥ = (let bad : false ≡ true = c.if-use_stderr.ensures.1
    (no_statements_help_given (drop 1 words) c.in-Err.error (c.in-Err.ensures.no_documents asks.command) asks.no_help) in cc) in
    absurd none

pub returns-in-Ok-Import-clause-answered : goal.returns-in-Ok-Import-clause-answered
returns-in-Ok-Import-clause-answered g c =
    let words = map string_bytes c.args.words.now in
    let keeps = g.T.Target.keeps c.import_out.new.target in
    let imported = c.in_ok-imported-in-Ok-Import.imported in
    let command : word_at words 1 ≡ codes "import" = rw (c.in-Ok-Import.is, c.in-Ok-Import.field-0-is) at c.read_words.ensures.named in
    let no_file = no_output keeps words (λ run. differ (sym command ∙ run) refl) (λ merge. differ (sym command ∙ merge) refl) (λ adjust. differ (sym command ∙ adjust) refl) in
    let answered = answers_import (g.S.Source.holds c.args.files.now) (g.S.Texts.gives c.args.files.now) words imported.is_whole imported.text.items command in
    on_ok_weaker c.write_all-in-Ok-Import.result (λ wrote. (imported.text.items, delivered_out keeps words _ _ imported.text.items no_file wrote, answered))
    (rw c.as_slice-in-Ok-Import.ensures.value at c.write_all-in-Ok-Import.ensures.bytes)

pub returns-in-Ok-Import-clause-imported : goal.returns-in-Ok-Import-clause-imported
returns-in-Ok-Import-clause-imported g c named = λ which.
    let words = map string_bytes c.args.words.now in
    let asked = c.in-Ok-Import.asked in
    let imported = c.in_ok-imported-in-Ok-Import in
    let read : AreImportFrom (drop 1 words) asked = rw (c.in-Ok-Import.is, c.in-Ok-Import.field-0-is) at (c.read_words.ensures.imported named) in
    on_ok_weaker c.write_all-in-Ok-Import.result (λ wrote. (imported.imported.text.items, wrote, record { asked = asked; are = read; over = imported.ensures.imported }))
    (rw c.as_slice-in-Ok-Import.ensures.value at c.write_all-in-Ok-Import.ensures.bytes)

pub returns-in_err-imported-in-Ok-Import-clause-unimported : goal.returns-in_err-imported-in-Ok-Import-clause-unimported
returns-in_err-imported-in-Ok-Import-clause-unimported g c named =
    let words = map string_bytes c.args.words.now in
    let asked = c.in-Ok-Import.asked in
    let failed = c.in_err-imported-in-Ok-Import in
    let read : AreImportFrom (drop 1 words) asked = rw (c.in-Ok-Import.is, c.in-Ok-Import.field-0-is) at (c.read_words.ensures.imported named) in
    let exit = err_from_is_err_and c.from_residual-in_err-imported-in-Ok-Import.result c.from_residual-in_err-imported-in-Ok-Import.ensures.1 in
    rw (exit.1, exit.2) (inr (inr (record { asked = asked; are = read; of = failed.ensures.files })))

pub returns-in-Ok-Import-clause-left_by_import : goal.returns-in-Ok-Import-clause-left_by_import
returns-in-Ok-Import-clause-left_by_import g c named =
    let read : AreImportFrom (drop 1 (map string_bytes c.args.words.now)) c.in-Ok-Import.asked = rw (c.in-Ok-Import.is, c.in-Ok-Import.field-0-is) at (c.read_words.ensures.imported named) in
    left_import _ _ (g.S.Texts.gives c.args.files.now) (map string_bytes c.args.words.now) c.in-Ok-Import.asked read c.import_out.ensures.left

pub returns-in_err-imported-in-Ok-Import-clause-left_by_import : goal.returns-in_err-imported-in-Ok-Import-clause-left_by_import
returns-in_err-imported-in-Ok-Import-clause-left_by_import g c named =
    let read : AreImportFrom (drop 1 (map string_bytes c.args.words.now)) c.in-Ok-Import.asked = rw (c.in-Ok-Import.is, c.in-Ok-Import.field-0-is) at (c.read_words.ensures.imported named) in
    left_import _ _ (g.S.Texts.gives c.args.files.now) (map string_bytes c.args.words.now) c.in-Ok-Import.asked read c.import_out.ensures.left

pub returns-in-Ok-format-clause-imported : goal.returns-in-Ok-format-clause-imported
returns-in-Ok-format-clause-imported g c named = λ which. elim which [
  | inl asks ↦
      let none : ⊥ = (let bad : false ≡ true = c.if-use_stderr.ensures.1
      (no_import_help_given (drop 1 (map string_bytes c.args.words.now)) c.in-Err.error (c.in-Err.ensures.unimported named) asks.no_help) in cc) in
      absurd none
  | inr unsound ↦ cc
]

pub returns-in-Err-2-clause-unimported : goal.returns-in-Err-2-clause-unimported
returns-in-Err-2-clause-unimported g c named =
    let words = map string_bytes c.args.words.now in
    let not_memory : kind_of c.in-Err.error ≢ kinds.OutOfMemory = search rules in
    inr (inl (c.in-Err.error, refl, not_accepted_import (drop 1 words) c.in-Err.error not_memory (c.in-Err.ensures.unimported named)))

pub returns-in-Ok-Adjustment-clause-answered : goal.returns-in-Ok-Adjustment-clause-answered
returns-in-Ok-Adjustment-clause-answered g c =
    let words = map string_bytes c.args.words.now in
    let holds = g.S.Source.holds c.args.files.now in
    let gives = g.S.Texts.gives c.args.files.now in
    let keeps = g.T.Target.keeps c.adjust_out.new.target in
    let asked = c.in-Ok-Adjustment.asked in
    let command : word_at words 1 ≡ codes "adjust" = rw (c.in-Ok-Adjustment.is, c.in-Ok-Adjustment.field-0-is) at c.read_words.ensures.named in
    let read : AreAdjustFrom (drop 1 words) asked = rw (c.in-Ok-Adjustment.is, c.in-Ok-Adjustment.field-0-is) at (c.read_words.ensures.adjusted command) in
    on_ok_weaker c.in_ok-adjust_out-in-Ok-Adjustment.field-0
    (λ wrote. (
      wrote.0,
      delivered_adjustment keeps words (string_bytes asked.paid) (string_bytes asked.right) (option_map string_bytes asked.output) _ _ wrote.0 command read.paid read.right read.output
          c.in_ok-adjust_out-in-Ok-Adjustment.ensures.apart wrote.1,
      answers_adjustment holds gives words asked wrote.0 command read wrote.2,
    ))
    c.in_ok-adjust_out-in-Ok-Adjustment.ensures.adjusted

pub returns-in_err-adjust_out-in-Ok-Adjustment-clause-left : goal.returns-in_err-adjust_out-in-Ok-Adjustment-clause-left
returns-in_err-adjust_out-in-Ok-Adjustment-clause-left g c path named =
    let words = map string_bytes c.args.words.now in
    let asked = c.in-Ok-Adjustment.asked in
    let command : word_at words 1 ≡ codes "adjust" = rw (c.in-Ok-Adjustment.is, c.in-Ok-Adjustment.field-0-is) at c.read_words.ensures.named in
    let read : AreAdjustFrom (drop 1 words) asked = rw (c.in-Ok-Adjustment.is, c.in-Ok-Adjustment.field-0-is) at (c.read_words.ensures.adjusted command) in
    left_adjustment (g.T.Target.keeps c.args.target.now) (g.T.Target.keeps c.adjust_out.new.target) words asked.output _ _ command read.output
    (λ text over. answers_adjustment (g.S.Source.holds c.args.files.now) (g.S.Texts.gives c.args.files.now) words asked text command read over) c.adjust_out.ensures.left path named

pub returns-in_err-adjust_out-in-Ok-Adjustment-clause-unused : goal.returns-in_err-adjust_out-in-Ok-Adjustment-clause-unused
returns-in_err-adjust_out-in-Ok-Adjustment-clause-unused g c none other no_import =
    let words = map string_bytes c.args.words.now in
    let command : word_at words 1 ≡ codes "adjust" = rw (c.in-Ok-Adjustment.is, c.in-Ok-Adjustment.field-0-is) at c.read_words.ensures.named in
    let read : AreAdjustFrom (drop 1 words) c.in-Ok-Adjustment.asked = rw (c.in-Ok-Adjustment.is, c.in-Ok-Adjustment.field-0-is) at (c.read_words.ensures.adjusted command) in
    unused_adjustment words c.in-Ok-Adjustment.asked.output _ command read.output c.adjust_out.ensures.unused none

pub returns-in_err-adjust_out-in-Ok-Adjustment-clause-left_folder : goal.returns-in_err-adjust_out-in-Ok-Adjustment-clause-left_folder
returns-in_err-adjust_out-in-Ok-Adjustment-clause-left_folder g c statements =
    let command : word_at (map string_bytes c.args.words.now) 1 ≡ codes "adjust" = rw (c.in-Ok-Adjustment.is, c.in-Ok-Adjustment.field-0-is) at c.read_words.ensures.named in
    absurd (differ (sym command ∙ statements) refl)

pub returns-in-Ok-Adjustment-clause-left : goal.returns-in-Ok-Adjustment-clause-left
returns-in-Ok-Adjustment-clause-left g c path named =
    let words = map string_bytes c.args.words.now in
    let asked = c.in-Ok-Adjustment.asked in
    let command : word_at words 1 ≡ codes "adjust" = rw (c.in-Ok-Adjustment.is, c.in-Ok-Adjustment.field-0-is) at c.read_words.ensures.named in
    let read : AreAdjustFrom (drop 1 words) asked = rw (c.in-Ok-Adjustment.is, c.in-Ok-Adjustment.field-0-is) at (c.read_words.ensures.adjusted command) in
    left_adjustment (g.T.Target.keeps c.args.target.now) (g.T.Target.keeps c.adjust_out.new.target) words asked.output _ _ command read.output
    (λ text over. answers_adjustment (g.S.Source.holds c.args.files.now) (g.S.Texts.gives c.args.files.now) words asked text command read over) c.adjust_out.ensures.left path named

pub returns-in-Ok-Adjustment-clause-unused : goal.returns-in-Ok-Adjustment-clause-unused
returns-in-Ok-Adjustment-clause-unused g c none other no_import =
    let words = map string_bytes c.args.words.now in
    let command : word_at words 1 ≡ codes "adjust" = rw (c.in-Ok-Adjustment.is, c.in-Ok-Adjustment.field-0-is) at c.read_words.ensures.named in
    let read : AreAdjustFrom (drop 1 words) c.in-Ok-Adjustment.asked = rw (c.in-Ok-Adjustment.is, c.in-Ok-Adjustment.field-0-is) at (c.read_words.ensures.adjusted command) in
    unused_adjustment words c.in-Ok-Adjustment.asked.output _ command read.output c.adjust_out.ensures.unused none

pub returns-in-Ok-Adjustment-clause-left_folder : goal.returns-in-Ok-Adjustment-clause-left_folder
returns-in-Ok-Adjustment-clause-left_folder g c statements =
    let command : word_at (map string_bytes c.args.words.now) 1 ≡ codes "adjust" = rw (c.in-Ok-Adjustment.is, c.in-Ok-Adjustment.field-0-is) at c.read_words.ensures.named in
    absurd (differ (sym command ∙ statements) refl)

pub returns-in_err-adjust_out-in-Ok-Adjustment-clause-adjustment : goal.returns-in_err-adjust_out-in-Ok-Adjustment-clause-adjustment
returns-in_err-adjust_out-in-Ok-Adjustment-clause-adjustment g c command =
    let words = map string_bytes c.args.words.now in
    let asked = c.in-Ok-Adjustment.asked in
    let failed = c.in_err-adjust_out-in-Ok-Adjustment in
    let read : AreAdjustFrom (drop 1 words) asked = rw (c.in-Ok-Adjustment.is, c.in-Ok-Adjustment.field-0-is) at (c.read_words.ensures.adjusted command) in
    let exit = err_from_is_err_and c.from_residual-in_err-adjust_out-in-Ok-Adjustment.result c.from_residual-in_err-adjust_out-in-Ok-Adjustment.ensures.1 in
    rw (exit.1, exit.2)
    (unadjusted_given (g.S.Texts.gives c.args.files.now) (drop 1 words) asked read failed.field-0.0 failed.ensures.files)

pub returns-in_err-merge_out-in-Ok-Merge-clause-silent : goal.returns-in_err-merge_out-in-Ok-Merge-clause-silent
returns-in_err-merge_out-in-Ok-Merge-clause-silent g c =
    let words = map string_bytes c.args.words.now in
    let asked = c.in-Ok-Merge.asked in
    let failed = c.in_err-merge_out-in-Ok-Merge in
    let command : word_at words 1 ≡ codes "merge" = rw (c.in-Ok-Merge.is, c.in-Ok-Merge.field-0-is) at c.read_words.ensures.named in
    let read : AreMergeFrom (drop 1 words) asked = rw (c.in-Ok-Merge.is, c.in-Ok-Merge.field-0-is) at (c.read_words.ensures.merged command) in
    let exit = err_from_is_err_and c.from_residual-in_err-merge_out-in-Ok-Merge.result c.from_residual-in_err-merge_out-in-Ok-Merge.ensures.1 in
    rw (exit.1, exit.2) (λ which. silent_merge words asked.output _ _ command read.output failed.ensures.silent c.merge_out.ensures.unprinted which)

pub returns-in_err-adjust_out-in-Ok-Adjustment-clause-silent : goal.returns-in_err-adjust_out-in-Ok-Adjustment-clause-silent
returns-in_err-adjust_out-in-Ok-Adjustment-clause-silent g c =
    let words = map string_bytes c.args.words.now in
    let asked = c.in-Ok-Adjustment.asked in
    let failed = c.in_err-adjust_out-in-Ok-Adjustment in
    let command : word_at words 1 ≡ codes "adjust" = rw (c.in-Ok-Adjustment.is, c.in-Ok-Adjustment.field-0-is) at c.read_words.ensures.named in
    let read : AreAdjustFrom (drop 1 words) asked = rw (c.in-Ok-Adjustment.is, c.in-Ok-Adjustment.field-0-is) at (c.read_words.ensures.adjusted command) in
    let exit = err_from_is_err_and c.from_residual-in_err-adjust_out-in-Ok-Adjustment.result c.from_residual-in_err-adjust_out-in-Ok-Adjustment.ensures.1 in
    rw (exit.1, exit.2) (λ which. silent_adjustment words asked.output _ _ command read.output failed.ensures.silent c.adjust_out.ensures.unprinted which)
