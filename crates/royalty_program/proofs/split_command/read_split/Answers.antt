use Rattle.std.proofs.Common.{◌≢◌, ◌∙◌, map}
use Rattle.std.specs.Prelude.{string_bytes}
use Rattle.clap.specs.Words.{kind_of}
use Rattle.clap.specs.declared.error.kind.ErrorKind.TheVariants as kinds
use Rattle.clap.proofs.TakesLemmas.{passed_up}
use Rattle.royalty_program.specs.Asked.{IsErrorOf}
use Rattle.royalty_program.specs.SplitCommand.{split_app}
use Rattle.royalty_program.proofs.OptionLemmas.{memory_is}
use Rattle.royalty_program.proofs.SplitLemmas.{amount_given, amount_read, error_given, error_is_split, pairs_given, pairs_read}
use Rattle.royalty_program.proofs.split_command.read_split.Goals as goal

pub unwrap-amount-requires : goal.unwrap-amount-requires
unwrap-amount-requires c = (amount_read c.in_ok-split_command.field-0 c.in_ok-matches.matches c.get_one.result
    c.in_ok-split_command.ensures c.in_ok-matches.ensures.parsed c.get_one.ensures.value).0

pub unwrap-requires : goal.unwrap-requires
unwrap-requires c = pairs_read _ c.in_ok-split_command.field-0 c.in_ok-matches.matches c.get_strs.result
    c.in_ok-split_command.ensures c.in_ok-matches.ensures.parsed c.get_strs.ensures

pub returns-clause-in_range : goal.returns-clause-in_range
returns-clause-in_range c =
    let read = amount_read c.in_ok-split_command.field-0 c.in_ok-matches.matches c.get_one.result
    c.in_ok-split_command.ensures c.in_ok-matches.ensures.parsed c.get_one.ensures.value in
    rw c.unwrap-amount.ensures at read.1

pub returns-clause-amount : goal.returns-clause-amount
returns-clause-amount c are = amount_given c.in_ok-split_command.field-0 c.in_ok-matches.matches _ c.get_one.result _
    c.in_ok-split_command.ensures c.in_ok-matches.ensures.parsed c.in_ok-matches.ensures.matches are c.get_one.ensures.value c.unwrap-amount.ensures

pub returns-clause-pairs : goal.returns-clause-pairs
returns-clause-pairs c are = c.in_ok-pairs.ensures ∙ pairs_given _ c.in_ok-split_command.field-0 c.in_ok-matches.matches _ c.get_strs.result _
    c.in_ok-split_command.ensures c.in_ok-matches.ensures.matches are c.get_strs.ensures c.unwrap.ensures

pub returns-in_err-matches-clause-no_help : goal.returns-in_err-matches-clause-no_help
returns-in_err-matches-clause-no_help c are =
    let asks = error_given c.in_ok-split_command.field-0 _ c.in_err-matches.field-0.0 c.in_ok-split_command.ensures c.in_err-matches.ensures.kinds are in
    passed_up c.from_residual-in_err-matches.result c.in_err-matches.field-0.0 (λ e. (kind_of e ≢ kinds.DisplayHelp) × (kind_of e ≢ kinds.DisplayVersion))
    c.from_residual-in_err-matches.ensures.1 asks

pub returns-in_err-matches-clause-error : goal.returns-in_err-matches-clause-error
returns-in_err-matches-clause-error c =
    let words = map string_bytes c.args.words.now in
    let is = error_is_split c.in_ok-split_command.field-0 words c.in_err-matches.field-0.0 c.in_ok-split_command.ensures c.in_err-matches.ensures.kinds in
    passed_up c.from_residual-in_err-matches.result c.in_err-matches.field-0.0 (IsErrorOf split_app words) c.from_residual-in_err-matches.ensures.1 is

pub returns-in_err-split_command-clause-error : goal.returns-in_err-split_command-clause-error
returns-in_err-split_command-clause-error c = memory_is split_app (map string_bytes c.args.words.now) c.from_residual.result c.from_residual.ensures.1

pub returns-in_err-pairs-clause-error : goal.returns-in_err-pairs-clause-error
returns-in_err-pairs-clause-error c = memory_is split_app (map string_bytes c.args.words.now) c.from_residual-in_err-pairs.result c.from_residual-in_err-pairs.ensures.1
