use Rattle.std.proofs.Common.{◌⊎◌, List, Some, Vec, Global, inl, inr}
use Rattle.std.proofs.lemmas.Result.{IfErr-weaker, IfOk-weaker, on_err_weaker}
use Rattle.std.proofs.lemmas.Option.{IfSome_then}
use Rattle.std.specs.Prelude.{IfErr, IfOk, IfSome, option_map, string_bytes}
use Rattle.distribution_documents.specs.Documents.{File}
use Rattle.distribution_documents.specs.Written.{AreWritten}
use Rattle.royalty_program.specs.DocumentFiles.{AreDocumentsAsked, IsOfNames}
use Rattle.royalty_program.specs.Folders.{IsFolderLeft}
use Rattle.royalty_program.specs.RunInputs.{IsOfInputs}
use Rattle.royalty_program.specs.declared.failure.Failure.{Failure}
use Rattle.royalty_program.proofs.NamesLemmas.{kept_documents, left_or_documents, since_begun, unfinished}
use Rattle.royalty_program.proofs.document_files.document_out.Goals.{in-Ok-territories_of, in-Err-territories_of}
use Rattle.royalty_program.proofs.document_files.document_out.Goals as goal

-- what was written are the documents that were asked for
pub returns-clause-documents : goal.returns-clause-documents
returns-clause-documents g c =
    let asked = c.args.asked in
    let holds = g.S.Source.holds c.args.files.now in
    let has = g.T.Draft.Folder.has in
    let made : IfOk c.match-territories_of.written (λ all. IfSome all (λ (pages : Vec g.row.T-Draft-Stored.Denot Global). (documents : List File) × AreDocumentsAsked holds asked documents
    × AreWritten has pages.items documents)) =
    elim c.match-territories_of.branch [
      | in-Ok-territories_of w ↦ rw w.written-is (IfOk-weaker w.documents_of-written.result _ _
          (λ all some. IfSome_then all some (λ pages found. (
            found.0,
            record { lands = w.in-Ok-territories_of.territories; lands_are = w.in-Ok-territories_of.ensures.names; documents_from = found.1 },
            found.2,
          )))
          (rw (w.as_bytes.ensures.value, w.as_bytes-in-Ok-territories_of.ensures.value) at w.documents_of-written.ensures.documents))
      | in-Err-territories_of w ↦ rw w.written-is tt
    ] in
    IfOk-weaker c.finish_folder.result _ _
    (λ done kept. kept_documents has (AreDocumentsAsked holds asked) (λ documents. g.T.Folders.keeps_folder c.finish_folder.new.target (string_bytes asked.to) (Some documents))
    c.match-territories_of.written made kept) c.finish_folder.ensures.kept

pub returns-clause-left : goal.returns-clause-left
returns-clause-left g c =
    let asked = c.args.asked in
    let holds = g.S.Source.holds c.args.files.now in
    let has = g.T.Draft.Folder.has in
    let made : IfOk c.match-territories_of.written (λ all. IfSome all (λ (pages : Vec g.row.T-Draft-Stored.Denot Global). (documents : List File) × AreDocumentsAsked holds asked documents
    × AreWritten has pages.items documents)) =
    elim c.match-territories_of.branch [
      | in-Ok-territories_of w ↦ rw w.written-is (IfOk-weaker w.documents_of-written.result _ _
          (λ all some. IfSome_then all some (λ pages found. (
            found.0,
            record { lands = w.in-Ok-territories_of.territories; lands_are = w.in-Ok-territories_of.ensures.names; documents_from = found.1 },
            found.2,
          )))
          (rw (w.as_bytes.ensures.value, w.as_bytes-in-Ok-territories_of.ensures.value) at w.documents_of-written.ensures.documents))
      | in-Err-territories_of w ↦ rw w.written-is tt
    ] in
    let begun : IsFolderLeft (g.T.Folders.keeps_folder c.args.target.now (string_bytes asked.to)) (g.T.Folders.keeps_folder c.begin_folder.new.self (string_bytes asked.to)) =
    rw c.as_str.ensures.value at c.begin_folder.ensures.left in
    on_err_weaker c.finish_folder.result (λ left. since_begun (AreDocumentsAsked holds asked) _ _ _ begun
    (left_or_documents has (AreDocumentsAsked holds asked) _ _ c.match-territories_of.written made left)) c.finish_folder.ensures.left

pub returns-clause-files : goal.returns-clause-files
returns-clause-files g c =
    let asked = c.args.asked in
    let holds = g.S.Source.holds c.args.files.now in
    let refuses = g.S.Source.refuses c.args.files.now in
    let fails : IfErr c.match-territories_of.written (λ failure. IsOfNames holds refuses (option_map string_bytes asked.names) failure ⊎ IsOfInputs holds refuses asked.inputs failure) =
    elim c.match-territories_of.branch [
      | in-Ok-territories_of w ↦ rw w.written-is (IfErr-weaker w.documents_of-written.result _ _ (λ failure of_inputs. inr of_inputs) w.documents_of-written.ensures.files)
      | in-Err-territories_of w ↦ rw w.written-is (inl w.in-Err-territories_of.ensures.files)
    ] in
    IfErr-weaker c.finish_folder.result _ _
    (λ failure of_folder. unfinished asked.to (λ (failure : Failure). IsOfNames holds refuses (option_map string_bytes asked.names) failure ⊎ IsOfInputs holds refuses asked.inputs failure)
    c.match-territories_of.written failure fails of_folder) c.finish_folder.ensures.failure
