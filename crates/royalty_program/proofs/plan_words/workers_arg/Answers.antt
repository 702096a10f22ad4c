use Rattle.std.proofs.Common.{◌≡◌}
use Rattle.clap.specs.declared.builder.value_parser.ValueParser.TheVariants as vp
use Rattle.split_run.specs.declared.TheConstants.{MOST_THREADS}
use Rattle.royalty_program.proofs.OptionLemmas.{narrowed}
use Rattle.royalty_program.proofs.plan_words.workers_arg.Goals as goal

-- the range of the number
within : (c : goal.After-number_arg) → c.range-range.result ≡ vp.Unsigned 1 MOST_THREADS
within c = narrowed c.value_parser.result c.range-range.result _ _ MOST_THREADS c.value_parser.ensures c.range-range.ensures c.new.ensures.start c.new.ensures.end

pub returns-clause-few : goal.returns-clause-few
returns-clause-few c = rw (within c) at c.number_arg.ensures.in_range

pub returns-clause-rule : goal.returns-clause-rule
returns-clause-rule c = rw (within c) at c.number_arg.ensures.rule
