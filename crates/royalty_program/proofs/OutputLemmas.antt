-- Where a text went: to standard output, or into the file that the words name.
use Rattle.std.proofs.Common.{◌≡◌, ◌≢◌, ◌⊎◌, ◌∙◌, ℕ, Bool, true, false, cond, Err, Ok, Result, List, Option, None, Some, codes, drop, inl, inr, refl, subst, sym}
use Rattle.std.specs.Io.KnownBytes.{Appends, Keeps}
use Rattle.std.specs.Option.{IfNone, IfSome, option_map}
use Rattle.std.specs.Result.{IfErr}
use Rattle.std.specs.Prelude.{String, string_bytes}
use Rattle.std.specs.declared.alloc.Global.{Global}
use Rattle.clap.specs.Words.{kind_of}
use Rattle.clap.specs.declared.error.Error.{Error}
use Rattle.clap.specs.declared.error.kind.ErrorKind.TheVariants as kinds
use Rattle.pair_split.specs.Pair.{word_at}
use Rattle.royalty_program.specs.Answered.{AreOneFile, AreSubmitted, AskForOutput, IsDelivered, NameOutput}
use Rattle.royalty_program.specs.Asked.{AskForHelp, AskForRun, AskForSubmittedRun, EitherRun, IsErrorOf, IsExplainError, IsMergeError, IsSubmittedError}
use Rattle.royalty_program.specs.Asked.{inputs_given, name_works, path_if_given, run_output, submitted_given}
use Rattle.royalty_program.specs.OutputPath.{IsNoInput}
use Rattle.royalty_program.specs.RunInputs.{IsNoInputOf}
use Rattle.royalty_program.specs.SubmittedFiles.{IsNoneOf}
use Rattle.royalty_program.specs.declared.inputs.RunInputs.{RunInputs}
use Rattle.royalty_program.proofs.EitherLemmas.{by_inputs, of_one_file, of_several}
use Rattle.clap.specs.Words.{App}
use Rattle.royalty_program.specs.Asked.{AreAccepted, AreCheckAccepted, AreExplainAccepted, AreFilesAccepted, AreRunAccepted, IsCheckError, IsRunError, check_grammar, explain_grammar}
use Rattle.royalty_program.specs.CheckCommand.{check_app}
use Rattle.royalty_program.specs.ExplainCommand.{explain_app}
use Rattle.royalty_program.specs.SubmittedCommand.{submitted_app, submitted_check_app, submitted_explain_app}
use Rattle.royalty_program.specs.AdjustFiles.{IsNeither}
use Rattle.royalty_program.specs.Asked.{adjust_output, paid_given, right_given}
use Rattle.royalty_program.specs.MergeCommand.{merge_app}
use Rattle.royalty_program.specs.RunCommand.{run_app}
use Rattle.royalty_program.specs.Status.{IsOfMerge, MayHaveBegun}
use Rattle.royalty_program.specs.Targets.{IsLeftOrHas, IsPut}
use Rattle.royalty_program.specs.declared.failure.Failure.{Failure}
use Rattle.royalty_program.specs.declared.failure.Failure.TheVariants.{Replaces, Target, Words}
use Rattle.royalty_program.proofs.CommandNames.{differ}
use Rattle.royalty_program.proofs.EndLemmas.{sent_on}
use Rattle.royalty_program.proofs.OptionLemmas.{accepted_is_memory, no_help_given}

kept_on : (old mid new : Option (List ℕ)) → Keeps old mid → Keeps mid new → Keeps old new
kept_on None mid new first second = tt
kept_on (Some xs) None new first second = absurd first
kept_on (Some xs) (Some ys) None first second = absurd second
kept_on (Some xs) (Some ys) (Some zs) first second = second ∙ first

-- an error of a merge that asks for no help is none of help
pub no_merge_help_given : (words : List (List ℕ)) (error : Error) → IsMergeError words error → ¬ AskForHelp merge_app words → (kind_of error ≢ kinds.DisplayHelp) × (kind_of error ≢ kinds.DisplayVersion)
no_merge_help_given words error (inl is) none = no_help_given merge_app words error is none
no_merge_help_given words error (inr wrong) none = (
  λ help. let bad : kinds.ValueValidation ≡ kinds.DisplayHelp = sym wrong.kind ∙ help in cc,
  λ version. let bad : kinds.ValueValidation ≡ kinds.DisplayVersion = sym wrong.kind ∙ version in cc,
)

-- nor is one of words that name files of submitters
pub no_files_help_given : (app : App) (words : List (List ℕ)) (error : Error) → IsSubmittedError app words error → ¬ AskForHelp app words → (kind_of error ≢ kinds.DisplayHelp) × (kind_of error ≢ kinds.DisplayVersion)
no_files_help_given app words error (inl is) none = no_help_given app words error is none
no_files_help_given app words error (inr wrong) none = (
  λ help. let bad : kinds.ValueValidation ≡ kinds.DisplayHelp = sym wrong.kind ∙ help in cc,
  λ version. let bad : kinds.ValueValidation ≡ kinds.DisplayVersion = sym wrong.kind ∙ version in cc,
)

-- which are refused since clap does not accept them, or for the files
pub not_accepted_files : (app : App) (words : List (List ℕ)) (error : Error) → kind_of error ≢ kinds.OutOfMemory → IsSubmittedError app words error → ¬ AreFilesAccepted app words
not_accepted_files app words error not_memory (inl is) accepted = not_memory (accepted_is_memory app words error is accepted.0)
not_accepted_files app words error not_memory (inr wrong) accepted = wrong.files accepted.1

-- so are those of a run
pub not_accepted_run : (words : List (List ℕ)) (error : Error) → kind_of error ≢ kinds.OutOfMemory → IsRunError words error → ¬ AreRunAccepted words
not_accepted_run words error not_memory = by (name_works words)
  where
    by : (several : Bool) → EitherRun several (IsErrorOf run_app words error) (IsSubmittedError submitted_app words error)
        → ¬ EitherRun several (AreAccepted run_app words) (AreFilesAccepted submitted_app words)
    by false is accepted = not_memory (accepted_is_memory run_app words error is accepted)
    by true is accepted = not_accepted_files submitted_app words error not_memory is accepted

-- and those of an explanation
pub not_accepted_explain : (words : List (List ℕ)) (error : Error) → kind_of error ≢ kinds.OutOfMemory → IsExplainError words error → ¬ AreExplainAccepted words
not_accepted_explain words error not_memory = by (name_works words)
  where
    by : (several : Bool) → EitherRun several (IsErrorOf explain_app words error) (IsSubmittedError submitted_explain_app words error)
        → ¬ EitherRun several (AreAccepted explain_app words) (AreFilesAccepted submitted_explain_app words)
    by false is accepted = not_memory (accepted_is_memory explain_app words error is accepted)
    by true is accepted = not_accepted_files submitted_explain_app words error not_memory is accepted

-- words that ask for an explanation and for no help have no error of help
pub no_explain_help_given : (words : List (List ℕ)) (error : Error) → IsExplainError words error → ¬ AskForHelp (explain_grammar words) words
    → (kind_of error ≢ kinds.DisplayHelp) × (kind_of error ≢ kinds.DisplayVersion)
no_explain_help_given words error = by (name_works words)
  where
    by : (several : Bool) → EitherRun several (IsErrorOf explain_app words error) (IsSubmittedError submitted_explain_app words error)
        → ¬ AskForHelp (cond several submitted_explain_app explain_app) words → (kind_of error ≢ kinds.DisplayHelp) × (kind_of error ≢ kinds.DisplayVersion)
    by false is none = no_help_given explain_app words error is none
    by true is none = no_files_help_given submitted_explain_app words error is none

-- so with a check
pub not_accepted_check : (words : List (List ℕ)) (error : Error) → kind_of error ≢ kinds.OutOfMemory → IsCheckError words error → ¬ AreCheckAccepted words
not_accepted_check words error not_memory = by (name_works words)
  where
    by : (several : Bool) → EitherRun several (IsErrorOf check_app words error) (IsSubmittedError submitted_check_app words error)
        → ¬ EitherRun several (AreAccepted check_app words) (AreFilesAccepted submitted_check_app words)
    by false is accepted = not_memory (accepted_is_memory check_app words error is accepted)
    by true is accepted = not_accepted_files submitted_check_app words error not_memory is accepted

pub no_check_help_given : (words : List (List ℕ)) (error : Error) → IsCheckError words error → ¬ AskForHelp (check_grammar words) words
    → (kind_of error ≢ kinds.DisplayHelp) × (kind_of error ≢ kinds.DisplayVersion)
no_check_help_given words error = by (name_works words)
  where
    by : (several : Bool) → EitherRun several (IsErrorOf check_app words error) (IsSubmittedError submitted_check_app words error)
        → ¬ AskForHelp (cond several submitted_check_app check_app) words → (kind_of error ≢ kinds.DisplayHelp) × (kind_of error ≢ kinds.DisplayVersion)
    by false is none = no_help_given check_app words error is none
    by true is none = no_files_help_given submitted_check_app words error is none

-- and so do those that ask for a run
pub no_run_help_given : (words : List (List ℕ)) (error : Error) → (word_at words 1 ≡ codes "run" → IsRunError (drop 1 words) error) → AskForRun words ⊎ AskForSubmittedRun words
    → (kind_of error ≢ kinds.DisplayHelp) × (kind_of error ≢ kinds.DisplayVersion)
no_run_help_given words error is (inl run) = no_help_given run_app (drop 1 words) error (of_one_file _ _ _ run.one_file (is run.command)) run.no_help
no_run_help_given words error is (inr run) = no_files_help_given submitted_app (drop 1 words) error (of_several _ _ _ run.several (is run.command)) run.no_help

-- the words of a merge are refused for their paths, or since clap does not accept them
pub unmerged_words : (gives : List ℕ → List ℕ → Type 0) (words : List (List ℕ)) (error : Error) → kind_of error ≢ kinds.OutOfMemory → IsMergeError words error → IsOfMerge gives words (Words error)
unmerged_words gives words error not_memory (inl is) = inr (λ accepted. not_memory (accepted_is_memory merge_app words error is accepted))
unmerged_words gives words error not_memory (inr wrong) = inl wrong

-- where no output is named, anything holds of the one that is
if_none : (P : List ℕ → Type 0) (output : Option (List ℕ)) → ((path : List ℕ) → ¬ (output ≡ Some path)) → IfSome output P
if_none P None none = tt
if_none P (Some path) none = absurd (none path refl)

-- words that ask for a run are those of the command
of_run : (words : List (List ℕ)) → AskForRun words ⊎ AskForSubmittedRun words → word_at words 1 ≡ codes "run"
of_run words (inl run) = run.command
of_run words (inr run) = run.command

module _ (keeps : List ℕ → Option (List ℕ) → Type 0) (words : List (List ℕ)) where
  -- what is kept under the path of an output is kept under the one that is named
  kept_there : (output : List ℕ) (named : Option (List ℕ)) (path : List ℕ) (Kept : Type 0) (text : List ℕ) → Some output ≡ named → named ≡ Some path → keeps output (Some text) × Kept → keeps path (Some text) × Kept
  kept_there output named path Kept text is there put =
      let both : Some output ≡ Some path = is ∙ there in
      let same : output ≡ path = cc both in
      (subst (λ (p : List ℕ). keeps p (Some text)) same put.0, put.1)

  -- a text stays where it went as the output is seen through
  pub delivered_on : (old mid new : Option (List ℕ)) (text : List ℕ) → IsDelivered keeps words old mid text → Keeps mid new → IsDelivered keeps words old new text
  delivered_on old mid new text went kept = record {
    printed_or_kept = elim went.printed_or_kept [
      | inl added ↦ inl (sent_on old mid new text added kept)
      | inr (path, named, has, same) ↦ inr (path, named, has, kept_on old mid new same kept)
    ];
    kept_if_named = λ path asks. ((went.kept_if_named path asks).0, kept_on old mid new (went.kept_if_named path asks).1 kept);
    apart = went.apart;
    apart_from_all = went.apart_from_all;
    apart_from_both = went.apart_from_both;
  }

  -- words that ask for no output file are answered on standard output
  pub delivered_out : (old new : Option (List ℕ)) (text : List ℕ) → ((path : List ℕ) → ¬ AskForOutput words path) → Appends old new text → IsDelivered keeps words old new text
  delivered_out old new text none added = record {
    printed_or_kept = inl added;
    kept_if_named = λ path asks. absurd (none path asks);
    apart = λ run. if_none (IsNoInput (inputs_given run_app (drop 1 words))) (run_output (drop 1 words)) (λ path named. none path (inl (inl run, named)));
    apart_from_all = λ run. if_none (IsNoneOf (submitted_given submitted_app (drop 1 words))) (run_output (drop 1 words)) (λ path named. none path (inl (inr run, named)));
    apart_from_both = λ adjust. if_none (IsNeither (paid_given (drop 1 words)) (right_given (drop 1 words))) (adjust_output (drop 1 words)) (λ path named. none path (inr (inr (adjust, named))));
  }

  -- no other words do
  pub no_output : ¬ (word_at words 1 ≡ codes "run") → ¬ (word_at words 1 ≡ codes "merge") → ¬ (word_at words 1 ≡ codes "adjust") → (path : List ℕ) → ¬ AskForOutput words path
  no_output no_run no_merge no_adjust path asks = elim asks [
    | inl (run, named) ↦ no_run (of_run words run)
    | inr others ↦ elim others [
      | inl (merge, named) ↦ no_merge merge.command
      | inr (adjust, named) ↦ no_adjust adjust.command
    ]
  ]

  -- words of a run ask for the output of nothing else, and so do those of a merge and of an adjustment
  output_of_run : word_at words 1 ≡ codes "run" → (path : List ℕ) → AskForOutput words path → run_output (drop 1 words) ≡ Some path
  output_of_run command path asks = elim asks [
    | inl (run, named) ↦ named
    | inr others ↦ elim others [
      | inl (merge, named) ↦ absurd (differ (sym command ∙ merge.command) refl)
      | inr (adjust, named) ↦ absurd (differ (sym command ∙ adjust.command) refl)
    ]
  ]

  output_of_merge : word_at words 1 ≡ codes "merge" → (path : List ℕ) → AskForOutput words path → path_if_given merge_app (codes "output") (drop 1 words) ≡ Some path
  output_of_merge command path asks = elim asks [
    | inl (run, named) ↦ absurd (differ (sym command ∙ of_run words run) refl)
    | inr others ↦ elim others [
      | inl (merge, named) ↦ named
      | inr (adjust, named) ↦ absurd (differ (sym command ∙ adjust.command) refl)
    ]
  ]

  output_of_adjustment : word_at words 1 ≡ codes "adjust" → (path : List ℕ) → AskForOutput words path → adjust_output (drop 1 words) ≡ Some path
  output_of_adjustment command path asks = elim asks [
    | inl (run, named) ↦ absurd (differ (sym command ∙ of_run words run) refl)
    | inr others ↦ elim others [
      | inl (merge, named) ↦ absurd (differ (sym command ∙ merge.command) refl)
      | inr (adjust, named) ↦ named
    ]
  ]

  -- a run goes where its option says
  pub delivered_run : (inputs : RunInputs) (output : Option (List ℕ)) (old new : Option (List ℕ)) (text : List ℕ) → word_at words 1 ≡ codes "run"
      → EitherRun (name_works (drop 1 words)) (AreOneFile (inputs_given run_app (drop 1 words)) inputs) (AreSubmitted (submitted_given submitted_app (drop 1 words)) inputs)
      → output ≡ run_output (drop 1 words) → IfSome output (IsNoInputOf inputs) → IsPut output keeps old new text → IsDelivered keeps words old new text
  delivered_run inputs None old new text command of_words is apart put = delivered_out old new text
      (λ path asks. let named : run_output (drop 1 words) ≡ Some path = output_of_run command path asks in let bad : None ≡ Some path = is ∙ named in cc)
      put
  delivered_run inputs (Some output) old new text command of_words is apart put = record {
    printed_or_kept = inr (output, inl (command, sym is), put.0, put.1);
    kept_if_named = λ path asks. kept_there output (run_output (drop 1 words)) path _ text is (output_of_run command path asks) put;
    apart = λ run. subst (λ (o : Option (List ℕ)). IfSome o (IsNoInput (inputs_given run_app (drop 1 words)))) is (of_one_file _ _ _ run.one_file from_all);
    apart_from_all = λ run. subst (λ (o : Option (List ℕ)). IfSome o (IsNoneOf (submitted_given submitted_app (drop 1 words)))) is (of_several _ _ _ run.several from_all);
    apart_from_both = λ adjust. absurd (differ (sym command ∙ adjust.command) refl);
  }
    where
      from_all : EitherRun (name_works (drop 1 words)) (IsNoInput (inputs_given run_app (drop 1 words)) output) (IsNoneOf (submitted_given submitted_app (drop 1 words)) output)
      from_all = by_inputs (λ paths. IsNoInput paths output) (λ paths. IsNoneOf paths output) (name_works (drop 1 words)) (inputs_given run_app (drop 1 words))
          (submitted_given submitted_app (drop 1 words)) inputs of_words apart

  -- and so does a merge
  pub delivered_merge : (output : Option (List ℕ)) (old new : Option (List ℕ)) (text : List ℕ) → word_at words 1 ≡ codes "merge" → output ≡ path_if_given merge_app (codes "output") (drop 1 words)
      → IsPut output keeps old new text → IsDelivered keeps words old new text
  delivered_merge None old new text command is put = delivered_out old new text
      (λ path asks. let named : path_if_given merge_app (codes "output") (drop 1 words) ≡ Some path = output_of_merge command path asks in let bad : None ≡ Some path = is ∙ named in cc)
      put
  delivered_merge (Some output) old new text command is put = record {
    printed_or_kept = inr (output, inr (inl (command, sym is)), put.0, put.1);
    kept_if_named = λ path asks. kept_there output (path_if_given merge_app (codes "output") (drop 1 words)) path _ text is (output_of_merge command path asks) put;
    apart = λ run. absurd (differ (sym command ∙ run.command) refl);
    apart_from_all = λ run. absurd (differ (sym command ∙ run.command) refl);
    apart_from_both = λ adjust. absurd (differ (sym command ∙ adjust.command) refl);
  }

  -- and an adjustment
  pub delivered_adjustment : (paid right : List ℕ) (output : Option (List ℕ)) (old new : Option (List ℕ)) (text : List ℕ) → word_at words 1 ≡ codes "adjust" → paid ≡ paid_given (drop 1 words)
      → right ≡ right_given (drop 1 words) → output ≡ adjust_output (drop 1 words) → IfSome output (IsNeither paid right) → IsPut output keeps old new text → IsDelivered keeps words old new text
  delivered_adjustment paid right None old new text command paid_is right_is is apart put = delivered_out old new text
      (λ path asks. let named : adjust_output (drop 1 words) ≡ Some path = output_of_adjustment command path asks in let bad : None ≡ Some path = is ∙ named in cc)
      put
  delivered_adjustment paid right (Some output) old new text command paid_is right_is is apart put = record {
    printed_or_kept = inr (output, inr (inr (command, sym is)), put.0, put.1);
    kept_if_named = λ path asks. kept_there output (adjust_output (drop 1 words)) path _ text is (output_of_adjustment command path asks) put;
    apart = λ run. absurd (differ (sym command ∙ run.command) refl);
    apart_from_all = λ run. absurd (differ (sym command ∙ run.command) refl);
    apart_from_both = λ adjust.
        let there : IsNeither (paid_given (drop 1 words)) (right_given (drop 1 words)) output = subst (λ (p : List ℕ). IsNeither p (right_given (drop 1 words)) output) paid_is
        (subst (λ (r : List ℕ). IsNeither paid r output) right_is apart) in
        subst (λ (o : Option (List ℕ)). IfSome o (IsNeither (paid_given (drop 1 words)) (right_given (drop 1 words)))) is there;
  }

  -- a report goes to standard output
  pub printed_check : (old new : Option (List ℕ)) (Answers : List ℕ → Type 0) → word_at words 1 ≡ codes "check" → (text : List ℕ) × IsDelivered keeps words old new text × Answers text
      → (text : List ℕ) × Appends old new text × Answers text
  printed_check old new Answers command (text, went, answers) = elim went.printed_or_kept [
    | inl added ↦ (text, added, answers)
    | inr (path, named, has, same) ↦ elim named [
      | inl (run, is) ↦ absurd (differ (sym command ∙ run) refl)
      | inr others ↦ elim others [
        | inl (merge, is) ↦ absurd (differ (sym command ∙ merge) refl)
        | inr (adjust, is) ↦ absurd (differ (sym command ∙ adjust) refl)
      ]
    ]
  ]

-- what the path of an option has is what the path of its value has
left_named : (old new : List ℕ → Option (List ℕ) → Type 0) (output : Option (String Global)) (named : Option (List ℕ)) (path : List ℕ) (P Q : List ℕ → Type 0) → option_map string_bytes output ≡ named → named ≡ Some path
    → ((text : List ℕ) → P text → Q text) → IfSome output (λ value. IsLeftOrHas (old (string_bytes value)) (new (string_bytes value)) P) → IsLeftOrHas (old path) (new path) Q
left_named old new None named path P Q is there weaker left = let bad : None ≡ Some path = is ∙ there in cc
left_named old new (Some value) named path P Q is there weaker left =
    let both : Some (string_bytes value) ≡ Some path = is ∙ there in
    let same : string_bytes value ≡ path = cc both in
    subst (λ (p : List ℕ). IsLeftOrHas (old p) (new p) Q) same (elim left [
      | inl as_before ↦ inl as_before
      | inr (text, has, is_text) ↦ inr (text, has, weaker text is_text)
    ])

module _ (old new : List ℕ → Option (List ℕ) → Type 0) (words : List (List ℕ)) (output : Option (String Global)) (P Q : List ℕ → Type 0) where
  -- the path that a run names has what it had, or the whole text
  pub left_run : word_at words 1 ≡ codes "run" → option_map string_bytes output ≡ run_output (drop 1 words) → ((text : List ℕ) → P text → Q text)
      → IfSome output (λ value. IsLeftOrHas (old (string_bytes value)) (new (string_bytes value)) P) → (path : List ℕ) → NameOutput words path → IsLeftOrHas (old path) (new path) Q
  left_run command is weaker left path named = elim named [
    | inl (run, there) ↦ left_named old new output (run_output (drop 1 words)) path P Q is there weaker left
    | inr others ↦ elim others [
      | inl (merge, there) ↦ absurd (differ (sym command ∙ merge) refl)
      | inr (adjust, there) ↦ absurd (differ (sym command ∙ adjust) refl)
    ]
  ]

  -- and so has that of a merge
  pub left_merge : word_at words 1 ≡ codes "merge" → option_map string_bytes output ≡ path_if_given merge_app (codes "output") (drop 1 words) → ((text : List ℕ) → P text → Q text)
      → IfSome output (λ value. IsLeftOrHas (old (string_bytes value)) (new (string_bytes value)) P) → (path : List ℕ) → NameOutput words path → IsLeftOrHas (old path) (new path) Q
  left_merge command is weaker left path named = elim named [
    | inl (run, there) ↦ absurd (differ (sym command ∙ run) refl)
    | inr others ↦ elim others [
      | inl (merge, there) ↦ left_named old new output (path_if_given merge_app (codes "output") (drop 1 words)) path P Q is there weaker left
      | inr (adjust, there) ↦ absurd (differ (sym command ∙ adjust) refl)
    ]
  ]

  -- and that of an adjustment
  pub left_adjustment : word_at words 1 ≡ codes "adjust" → option_map string_bytes output ≡ adjust_output (drop 1 words) → ((text : List ℕ) → P text → Q text)
      → IfSome output (λ value. IsLeftOrHas (old (string_bytes value)) (new (string_bytes value)) P) → (path : List ℕ) → NameOutput words path → IsLeftOrHas (old path) (new path) Q
  left_adjustment command is weaker left path named = elim named [
    | inl (run, there) ↦ absurd (differ (sym command ∙ run) refl)
    | inr others ↦ elim others [
      | inl (merge, there) ↦ absurd (differ (sym command ∙ merge) refl)
      | inr (adjust, there) ↦ left_named old new output (adjust_output (drop 1 words)) path P Q is there weaker left
    ]
  ]

-- where a run names no path, nothing is kept
pub unused_run : (words : List (List ℕ)) (output : Option (String Global)) (Same : Type 0) → word_at words 1 ≡ codes "run" → option_map string_bytes output ≡ run_output (drop 1 words)
    → IfNone output Same → ((path : List ℕ) → ¬ NameOutput words path) → Same
unused_run words None Same command is same none = same
unused_run words (Some value) Same command is same none = absurd (none (string_bytes value) (inl (command, sym is)))

pub unused_merge : (words : List (List ℕ)) (output : Option (String Global)) (Same : Type 0) → word_at words 1 ≡ codes "merge" → option_map string_bytes output ≡ path_if_given merge_app (codes "output") (drop 1 words)
    → IfNone output Same → ((path : List ℕ) → ¬ NameOutput words path) → Same
unused_merge words None Same command is same none = same
unused_merge words (Some value) Same command is same none = absurd (none (string_bytes value) (inr (inl (command, sym is))))

pub unused_adjustment : (words : List (List ℕ)) (output : Option (String Global)) (Same : Type 0) → word_at words 1 ≡ codes "adjust" → option_map string_bytes output ≡ adjust_output (drop 1 words)
    → IfNone output Same → ((path : List ℕ) → ¬ NameOutput words path) → Same
unused_adjustment words None Same command is same none = same
unused_adjustment words (Some value) Same command is same none = absurd (none (string_bytes value) (inr (inr (command, sym is))))

-- nothing is printed of a merge or of an adjustment into a file
pub silent_merge : (words : List (List ℕ)) (output : Option (String Global)) (Few Same : Type 0) → word_at words 1 ≡ codes "merge" → option_map string_bytes output ≡ path_if_given merge_app (codes "output") (drop 1 words)
    → (Few → Same) → IfSome output (λ _. Same) → Few ⊎ (¬ MayHaveBegun words) → Same
silent_merge words output Few Same command is silent unprinted (inl few) = silent few
silent_merge words (Some path) Few Same command is silent unprinted (inr not_begun) = unprinted
silent_merge words None Few Same command is silent unprinted (inr not_begun) = absurd (not_begun (inl (command, sym is)))

pub silent_adjustment : (words : List (List ℕ)) (output : Option (String Global)) (Few Same : Type 0) → word_at words 1 ≡ codes "adjust" → option_map string_bytes output ≡ adjust_output (drop 1 words)
    → (Few → Same) → IfSome output (λ _. Same) → Few ⊎ (¬ MayHaveBegun words) → Same
silent_adjustment words output Few Same command is silent unprinted (inl few) = silent few
silent_adjustment words (Some path) Few Same command is silent unprinted (inr not_begun) = unprinted
silent_adjustment words None Few Same command is silent unprinted (inr not_begun) = absurd (not_begun (inr (command, sym is)))

-- what is seen to its path is said to replace nothing, where that was not said before
pub nothing_replaced : {X Y : Type 0} (result : Result X Failure) (written : Result Y Failure) (path : String Global) (IsOf : Failure → Type 0) (Q : String Global → Type 0) (IsDone : Type 0)
    → IfErr result (λ failure. (written ≡ Err failure) ⊎ ((failure ≡ Target path) × IsDone)) → IfErr written IsOf → ((at : String Global) → ¬ IsOf (Replaces at))
    → IfErr result (λ failure. (at : String Global) → failure ≡ Replaces at → Q at)
nothing_replaced (Ok x) written path IsOf Q IsDone from of none = tt
nothing_replaced {X} {Y} (Err failure) written path IsOf Q IsDone (inl same) of none = λ at is.
    let here : IsOf failure = subst (λ (w : Result Y Failure). IfErr w IsOf) same of in
    absurd (none at (subst IsOf is here))
nothing_replaced (Err failure) written path IsOf Q IsDone (inr (target, done)) of none = λ at is. let bad : Target path ≡ Replaces at = sym target ∙ is in cc

-- what was printed where no file is named went to where it was to go
pub put_printed : (output : Option (String Global)) (keeps : List ℕ → Option (List ℕ) → Type 0) (old new : Option (List ℕ)) (text : List ℕ) → output ≡ None → Appends old new text
    → IsPut (option_map string_bytes output) keeps old new text
put_printed None keeps old new text none added = added
put_printed (Some path) keeps old new text none added = cc none
