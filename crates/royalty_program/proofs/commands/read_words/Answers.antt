use Rattle.std.proofs.Common.{All, List, map, drop, ap, subst, sym, ℕ, ◌∙◌}
use Rattle.std.specs.Prelude.{string_bytes}
use Rattle.royalty_program.specs.Asked.{IsValue, number_in}
use Rattle.royalty_program.specs.Answered.{AreAdjustFrom, AreCheckedFrom, AreDocumentsFrom, AreExplainedFrom, AreMergeFrom, AreReadFrom}
use Rattle.royalty_program.specs.Asked.{files_given}
use Rattle.royalty_program.specs.ImportCommand.{AreImportFrom}
use Rattle.royalty_program.specs.NamedFiles.{AreNamedBy}
use Rattle.royalty_program.specs.StartingCommand.{starting_app}
use Rattle.starting_files.specs.declared.making.StartingTable.TheVariants.{Works, Parties}
use Rattle.royalty_program.proofs.CommandNames.{starting_given}
use Rattle.royalty_program.proofs.RunLemmas.{read_in_order}
use Rattle.royalty_program.proofs.Shifted.{mapped_others, one_on, others, third, two_on}
use Rattle.royalty_program.proofs.commands.read_words.Goals as goal

pub returns-in_ok-read_split-in-split-clause-division : goal.returns-in_ok-read_split-in-split-clause-division
returns-in_ok-read_split-in-split-clause-division c asked =
    let words = c.args.words.now in
    let values : All IsValue (drop 1 (map string_bytes (others words))) = rw (one_on string_bytes words) asked.values in (
      c.in_ok-read_split-in-split.ensures.amount values ∙ ap number_in (third string_bytes words),
      c.in_ok-read_split-in-split.ensures.pairs values ∙ two_on string_bytes words,
    )

pub returns-in_ok-read_run-in-run-clause-run : goal.returns-in_ok-read_run-in-run-clause-run
returns-in_ok-read_run-in-run-clause-run c command =
    let words = c.args.words.now in
    let read : AreReadFrom (map string_bytes (others words)) c.in_ok-read_run-in-run.field-0 = c.in_ok-read_run-in-run.ensures.read in
    rw (mapped_others string_bytes words) at read

pub returns-in_ok-read_run-in-run-clause-in_order : goal.returns-in_ok-read_run-in-run-clause-in_order
returns-in_ok-read_run-in-run-clause-in_order c asked =
    let words = c.args.words.now in
    let read : AreReadFrom (map string_bytes (others words)) c.in_ok-read_run-in-run.field-0 = c.in_ok-read_run-in-run.ensures.read in
    read_in_order (drop 1 (map string_bytes words)) c.in_ok-read_run-in-run.field-0 asked.options (rw (mapped_others string_bytes words) at read)

pub returns-in_ok-read_statements-in-statements-clause-documents : goal.returns-in_ok-read_statements-in-statements-clause-documents
returns-in_ok-read_statements-in-statements-clause-documents c command =
    let words = c.args.words.now in
    let read : AreDocumentsFrom (map string_bytes (others words)) c.in_ok-read_statements-in-statements.field-0 = c.in_ok-read_statements-in-statements.ensures.read in
    rw (mapped_others string_bytes words) at read

pub returns-in_ok-read_explain-in-explain-clause-explanation : goal.returns-in_ok-read_explain-in-explain-clause-explanation
returns-in_ok-read_explain-in-explain-clause-explanation c command =
    let words = c.args.words.now in
    let read : AreExplainedFrom (map string_bytes (others words)) c.in_ok-read_explain-in-explain.field-0 = c.in_ok-read_explain-in-explain.ensures.read in
    rw (mapped_others string_bytes words) at read

pub returns-in_ok-read_check-in-check-clause-checked : goal.returns-in_ok-read_check-in-check-clause-checked
returns-in_ok-read_check-in-check-clause-checked c command =
    let words = c.args.words.now in
    let read : AreCheckedFrom (map string_bytes (others words)) c.in_ok-read_check-in-check.field-0 = c.in_ok-read_check-in-check.ensures.read in
    rw (mapped_others string_bytes words) at read

pub returns-in_ok-read_merge-in-merge-clause-merged : goal.returns-in_ok-read_merge-in-merge-clause-merged
returns-in_ok-read_merge-in-merge-clause-merged c command =
    let words = c.args.words.now in
    let read : AreMergeFrom (map string_bytes (others words)) c.in_ok-read_merge-in-merge.field-0 = c.in_ok-read_merge-in-merge.ensures.read in
    rw (mapped_others string_bytes words) at read

pub returns-in_ok-read_adjust-in-adjust-clause-adjusted : goal.returns-in_ok-read_adjust-in-adjust-clause-adjusted
returns-in_ok-read_adjust-in-adjust-clause-adjusted c command =
    let words = c.args.words.now in
    let read : AreAdjustFrom (map string_bytes (others words)) c.in_ok-read_adjust-in-adjust.field-0 = c.in_ok-read_adjust-in-adjust.ensures.read in
    rw (mapped_others string_bytes words) at read

pub returns-in_ok-read_starting-in-works-clause-table : goal.returns-in_ok-read_starting-in-works-clause-table
returns-in_ok-read_starting-in-works-clause-table c =
    let words = c.args.words.now in
    let read : AreNamedBy (files_given (starting_app Works) (map string_bytes (others words))) c.in_ok-read_starting-in-works.field-0.files = c.in_ok-read_starting-in-works.ensures.files in
    starting_given (map string_bytes words) Works c.in_ok-read_starting-in-works.field-0 (sym c.word.ensures ∙ c.in-works.is) c.in_ok-read_starting-in-works.ensures.table
    (rw (mapped_others string_bytes words) at read)

pub returns-in_ok-read_starting-in-parties-clause-table : goal.returns-in_ok-read_starting-in-parties-clause-table
returns-in_ok-read_starting-in-parties-clause-table c =
    let words = c.args.words.now in
    let read : AreNamedBy (files_given (starting_app Parties) (map string_bytes (others words))) c.in_ok-read_starting-in-parties.field-0.files = c.in_ok-read_starting-in-parties.ensures.files in
    starting_given (map string_bytes words) Parties c.in_ok-read_starting-in-parties.field-0 (sym c.word.ensures ∙ c.in-parties.is) c.in_ok-read_starting-in-parties.ensures.table
    (rw (mapped_others string_bytes words) at read)

pub returns-in_ok-read_import-in-import-clause-imported : goal.returns-in_ok-read_import-in-import-clause-imported
returns-in_ok-read_import-in-import-clause-imported c named =
    let words = c.args.words.now in
    let asked = c.in_ok-read_import-in-import.field-0 in
    let read : AreImportFrom (map string_bytes (others words)) asked = c.in_ok-read_import-in-import.ensures.read in
    subst (λ (given : List (List ℕ)). AreImportFrom given asked) (mapped_others string_bytes words) read
