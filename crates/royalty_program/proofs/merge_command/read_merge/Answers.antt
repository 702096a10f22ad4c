use Rattle.std.proofs.Common.{◌≡◌, ◌∙◌, ◌<◌, ap, arith, codes, inl, length, map}
use Rattle.std.specs.Prelude.{string_bytes}
use Rattle.std.proofs.lemmas.List.{length-map}
use Rattle.clap.proofs.TakesLemmas.{passed_up}
use Rattle.royalty_program.specs.Asked.{IsMergeError, paths_given}
use Rattle.royalty_program.specs.MergeCommand.{IsPathError, merge_app}
use Rattle.royalty_program.proofs.OptionLemmas.{error_is, path_if_is, rows_are}
use Rattle.royalty_program.proofs.MergeLemmas.{accepted_is, error_of_paths, memory_of_merge, merge_free, merge_names, merge_options, merge_simple, statements_are, statements_some, statements_there}
use Rattle.royalty_program.proofs.merge_command.read_merge.Goals as goal

pub returns-in_err-merge_command-clause-error : goal.returns-in_err-merge_command-clause-error
returns-in_err-merge_command-clause-error c = memory_of_merge (map string_bytes c.args.words.now) c.from_residual.result c.from_residual.ensures.1

pub returns-in_err-matches-clause-error : goal.returns-in_err-matches-clause-error
returns-in_err-matches-clause-error c =
    let words = map string_bytes c.args.words.now in
    let command = c.in_ok-merge_command.field-0 in
    let is = error_is command merge_names merge_app words c.in_err-matches.field-0.0 (merge_options command c.in_ok-merge_command.ensures) merge_free c.in_err-matches.ensures.kinds in
    passed_up c.from_residual-in_err-matches.result c.in_err-matches.field-0.0 (IsMergeError words) c.from_residual-in_err-matches.ensures.1 (inl is)

pub returns-in_err-output-clause-error : goal.returns-in_err-output-clause-error
returns-in_err-output-clause-error c = memory_of_merge (map string_bytes c.args.words.now) c.from_residual-in_err-output.result c.from_residual-in_err-output.ensures.1

pub unwrap-requires : goal.unwrap-requires
unwrap-requires c = statements_there _ c.in_ok-merge_command.field-0 c.in_ok-matches.matches c.get_strs.result
    c.in_ok-merge_command.ensures c.in_ok-matches.ensures.parsed c.get_strs.ensures

pub returns-in_err-statements-clause-error : goal.returns-in_err-statements-clause-error
returns-in_err-statements-clause-error c = memory_of_merge (map string_bytes c.args.words.now) c.from_residual-in_err-statements.result c.from_residual-in_err-statements.ensures.1

pub returns-in_err-look_at-clause-error : goal.returns-in_err-look_at-clause-error
returns-in_err-look_at-clause-error c =
    let words = map string_bytes c.args.words.now in
    let command = c.in_ok-merge_command.field-0 in
    let m = c.in_ok-matches.matches in
    let s = c.in_ok-merge_command.ensures in
    let rows = rows_are command merge_names merge_app m words (merge_options command s) merge_simple c.in_ok-matches.ensures.matches in
    let given : map string_bytes c.in_ok-statements.statements.items ≡ paths_given merge_app (codes "statements") words =
    c.in_ok-statements.ensures ∙ statements_are _ m words c.get_strs.result c.unwrap.result rows c.get_strs.ensures c.unwrap.ensures in
    let error : IsPathError (map string_bytes c.as_slice.result.now) c.in_err-look_at.field-0.0 = c.in_err-look_at.ensures.error in
    let is = error_of_paths words _ c.in_err-look_at.field-0.0 (accepted_is command words s c.in_ok-matches.ensures.kinds) given (rw c.as_slice.ensures.value at error) in
    passed_up c.from_residual-in_err-look_at.result c.in_err-look_at.field-0.0 (IsMergeError words) c.from_residual-in_err-look_at.ensures.1 is

pub returns-clause-read : goal.returns-clause-read
returns-clause-read c =
    let words = map string_bytes c.args.words.now in
    let command = c.in_ok-merge_command.field-0 in
    let m = c.in_ok-matches.matches in
    let s = c.in_ok-merge_command.ensures in
    let p = c.in_ok-matches.ensures.parsed in
    let rows = rows_are command merge_names merge_app m words (merge_options command s) merge_simple c.in_ok-matches.ensures.matches in
    let given : map string_bytes c.in_ok-statements.statements.items ≡ paths_given merge_app (codes "statements") words =
    c.in_ok-statements.ensures ∙ statements_are _ m words c.get_strs.result c.unwrap.result rows c.get_strs.ensures c.unwrap.ensures in
    let some : 0 < length (paths_given merge_app (codes "statements") words) = statements_some command m words s p rows in
    record {
      accepted = accepted_is command words s c.in_ok-matches.ensures.kinds;
      output = c.in_ok-output.ensures ∙ path_if_is merge_app m words (codes "output") c.get_str.result rows c.get_str.ensures;
      statements = given;
      some = omega (arith, some, ap length given, length-map c.in_ok-statements.statements.items string_bytes);
      different = rw c.as_slice.ensures.value at c.in_ok-look_at.ensures.sound;
    }
