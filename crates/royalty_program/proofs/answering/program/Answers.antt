use Rattle.std.proofs.Common.{◌≡◌, ◌≤◌, ◌⊎◌, ℕ, List, Some, inl, inr, codes, drop, false, map, true}
use Rattle.std.specs.Io.KnownBytes.{Appends}
use Rattle.std.proofs.lemmas.Result.{IfErr-weaker, IfOk-weaker}
use Rattle.std.specs.Prelude.{string_bytes}
use Rattle.distribution_documents.specs.Documents.{File}
use Rattle.pair_split.specs.Pair.{word_at}
use Rattle.royalty_program.specs.Answered.{IsAnswered, IsDelivered}
use Rattle.royalty_program.specs.DocumentsAnswered.{AreDocumentsAnswered, AskForDocuments, folder_given}
use Rattle.royalty_program.specs.ImportAnswered.{IsImportAnswered, IsOfImport, NameImport}
use Rattle.royalty_program.specs.Status.{IsStatusOfSilence, MayHaveBegun, status_of}
use Rattle.royalty_program.specs.declared.failure.Failure.{Failure}
use Rattle.royalty_program.proofs.EndLemmas.{check_fails_with, fails_with, left_alone, printed_whole, quiet_then, rejected_then, sent_on, silent_then}
use Rattle.royalty_program.proofs.OutputLemmas.{delivered_on, printed_check}
use Rattle.royalty_program.proofs.OverLemmas.{ends_with}
use Rattle.royalty_program.proofs.answering.program.Goals as goal

pub returns-clause-failed : goal.returns-clause-failed
returns-clause-failed g c = ends_with c.answer-printed.result c.end.result (g.S.Source.holds c.args.files.now) (g.S.Texts.gives c.args.files.now) (g.S.Source.refuses c.args.files.now) (map string_bytes c.args.words.now) _ _
    c.end.ensures.failed c.end.ensures.answered c.answer-printed.ensures.others c.answer-printed.ensures.failure c.answer-printed.ensures.pairs c.answer-printed.ensures.run c.answer-printed.ensures.explanation
    c.answer-printed.ensures.checked c.answer-printed.ensures.merge c.answer-printed.ensures.adjustment c.answer-printed.ensures.table c.answer-printed.ensures.undocumented c.answer-printed.ensures.unimported

pub returns-clause-printed : goal.returns-clause-printed
returns-clause-printed g c same =
    let words = map string_bytes c.args.words.now in
    printed_whole c.answer-printed.result c.end.result true (IsDelivered (g.T.Target.keeps c.answer-printed.new.target) words (g.W.Write.contents c.args.out.now)) (IsAnswered (g.S.Source.holds c.args.files.now) (g.S.Texts.gives c.args.files.now) words) _ _
    (λ text put kept. delivered_on (g.T.Target.keeps c.answer-printed.new.target) words (g.W.Write.contents c.args.out.now) _ _ text put kept) c.answer-printed.ensures.answered c.end.ensures.answered c.end.ensures.failed
    (IfErr-weaker c.answer-printed.result _ _ (λ failure _. fails_with failure) c.answer-printed.ensures.failure) same

pub returns-clause-reported : goal.returns-clause-reported
returns-clause-reported g c same command =
    let words = map string_bytes c.args.words.now in
    printed_check (g.T.Target.keeps c.answer-printed.new.target) words (g.W.Write.contents c.args.out.now) _ (IsAnswered (g.S.Source.holds c.args.files.now) (g.S.Texts.gives c.args.files.now) words false) command
    (printed_whole c.answer-printed.result c.end.result false (IsDelivered (g.T.Target.keeps c.answer-printed.new.target) words (g.W.Write.contents c.args.out.now)) (IsAnswered (g.S.Source.holds c.args.files.now) (g.S.Texts.gives c.args.files.now) words) _ _
    (λ text put kept. delivered_on (g.T.Target.keeps c.answer-printed.new.target) words (g.W.Write.contents c.args.out.now) _ _ text put kept) c.answer-printed.ensures.answered c.end.ensures.answered c.end.ensures.failed
    (IfErr-weaker c.answer-printed.result _ _ (check_fails_with (g.S.Source.holds c.args.files.now) (g.S.Source.refuses c.args.files.now) (drop 1 words)) (c.answer-printed.ensures.checked command)) same)

pub returns-clause-quiet : goal.returns-clause-quiet
returns-clause-quiet g c which = elim which [
  | inl none ↦
      quiet_then c.answer-printed.result c.end.result true _ c.end.ensures.quiet c.end.ensures.failed
      (IfErr-weaker c.answer-printed.result _ _ (λ failure _. fails_with failure) c.answer-printed.ensures.failure) none
  | inr (one, command) ↦
      quiet_then c.answer-printed.result c.end.result false _ c.end.ensures.quiet c.end.ensures.failed
      (IfErr-weaker c.answer-printed.result _ _ (check_fails_with (g.S.Source.holds c.args.files.now) (g.S.Source.refuses c.args.files.now) (drop 1 (map string_bytes c.args.words.now))) (c.answer-printed.ensures.checked command)) one
]

-- the status says that nothing was printed, where neither a report nor an import was asked for, or whatever was
silence_of : (words : List (List ℕ)) (status : ℕ) → IsStatusOfSilence status words
    → ((status ≡ 1) × ¬ ((word_at words 1 ≡ codes "check") ⊎ NameImport words)) ⊎ ((status ≡ 2) ⊎ ((status ≡ 3) × ¬ MayHaveBegun words))
silence_of words status (inl (one, no_check, no_import)) = inl (one, λ either. elim either [ inl check ↦ no_check check | inr named ↦ no_import named ])
silence_of words status (inr other) = inr other

pub returns-clause-silent : goal.returns-clause-silent
returns-clause-silent g c which =
    let words = map string_bytes c.args.words.now in
    silent_then c.answer-printed.result c.end.result ((word_at words 1 ≡ codes "check") ⊎ NameImport words) (MayHaveBegun words) _ _ _ c.end.ensures.answered
    (IfOk-weaker c.answer-printed.result _ _ (λ done sound none. sound (λ check. none (inl check)) (λ named. none (inr named))) c.answer-printed.ensures.others) c.end.ensures.failed
    (left_alone c.answer-printed.result (λ (failure : Failure). (status_of failure ≤ 2) ⊎ (¬ MayHaveBegun words)) _ _ _ c.end.ensures.silent c.answer-printed.ensures.silent) (silence_of words c.end.result which)

pub returns-clause-documents : goal.returns-clause-documents
returns-clause-documents g c same asks =
    let words = map string_bytes c.args.words.now in
    quiet_then c.answer-printed.result c.end.result true
    (AskForDocuments words → (documents : List File) × g.T.Folders.keeps_folder c.answer-printed.new.target (folder_given (drop 1 words)) (Some documents)
    × AreDocumentsAnswered (g.S.Source.holds c.args.files.now) (drop 1 words) documents)
    (IfOk-weaker c.answer-printed.result _ _ (λ done made _. made) c.answer-printed.ensures.documents) c.end.ensures.failed
    (IfErr-weaker c.answer-printed.result _ _ (λ failure _. fails_with failure) c.answer-printed.ensures.failure) same asks

pub returns-clause-imported : goal.returns-clause-imported
returns-clause-imported g c same asks =
    let words = map string_bytes c.args.words.now in
    printed_whole c.answer-printed.result c.end.result true (Appends (g.W.Write.contents c.args.out.now))
    (IsImportAnswered (g.T.Target.keeps c.answer-printed.new.target) (g.S.Source.holds c.args.files.now) (g.S.Texts.gives c.args.files.now) words) _ _
    (λ text added kept. sent_on (g.W.Write.contents c.args.out.now) _ _ text added kept)
    (IfOk-weaker c.answer-printed.result _ _ (λ done given. given (inl asks)) (c.answer-printed.ensures.imported asks.command)) c.end.ensures.answered c.end.ensures.failed
    (IfErr-weaker c.answer-printed.result _ _ (λ failure _. fails_with failure) c.answer-printed.ensures.failure) same

pub returns-clause-rejected : goal.returns-clause-rejected
returns-clause-rejected g c same named =
    let words = map string_bytes c.args.words.now in
    rejected_then c.answer-printed.result c.end.result (Appends (g.W.Write.contents c.args.out.now))
    (IsImportAnswered (g.T.Target.keeps c.answer-printed.new.target) (g.S.Source.holds c.args.files.now) (g.S.Texts.gives c.args.files.now) words)
    (IsOfImport (g.S.Source.holds c.args.files.now) (g.S.Texts.gives c.args.files.now) (g.S.Source.refuses c.args.files.now) (drop 1 words)) _ _ _ _
    (λ text added kept. sent_on (g.W.Write.contents c.args.out.now) _ _ text added kept)
    (IfOk-weaker c.answer-printed.result _ _ (λ done given unsound. given (inr unsound)) (c.answer-printed.ensures.imported named)) c.end.ensures.answered c.end.ensures.quiet c.end.ensures.failed
    (IfErr-weaker c.answer-printed.result _ _ (λ failure alone few. alone (inl few))
    (left_alone c.answer-printed.result (λ (failure : Failure). (status_of failure ≤ 2) ⊎ (¬ MayHaveBegun words)) _ _ _ c.end.ensures.silent c.answer-printed.ensures.silent))
    (c.answer-printed.ensures.unimported named) same
