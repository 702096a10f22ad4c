use Rattle.std.proofs.Common.{◌∙◌, arith, codes}
use Rattle.split_run.specs.Plans.{MOST_NODES}
use Rattle.split_run.specs.declared.TheConstants.{MOST_THREADS}
use Rattle.royalty_program.proofs.OptionLemmas.{some_by}
use Rattle.royalty_program.proofs.OptionalLemmas.{number_in_range, number_or_is}
use Rattle.royalty_program.proofs.RunLemmas.{same_plan}
use Rattle.royalty_program.proofs.plan_words.read_plan_or_usual.Goals as goal

pub unwrap-requires : goal.unwrap-requires
unwrap-requires c =
    let m = c.args.matches.now in
    some_by c.new.result c.new.ensures.none (record {
      workers = rw c.unwrap_or-workers.ensures (number_in_range 1 MOST_THREADS 4 m (codes "workers") c.get_one.result c.requires.workers c.get_one.ensures.none c.get_one.ensures.value
          (omega arith) (omega arith));
      readers = rw c.unwrap_or-readers.ensures (number_in_range 1 MOST_THREADS 2 m (codes "readers") c.get_one-2.result c.requires.readers c.get_one-2.ensures.none c.get_one-2.ensures.value
          (omega arith) (omega arith));
      nodes = rw c.unwrap_or-nodes.ensures (number_in_range 1 MOST_NODES 64 m (codes "nodes") c.get_one-3.result c.requires.nodes c.get_one-3.ensures.none c.get_one-3.ensures.value
          (omega arith) (omega arith));
    })

pub returns : goal.returns
returns c = λ app words rows.
    let m = c.args.matches.now in
    let plan = (rw c.unwrap.ensures at c.new.ensures.some).0 in
    same_plan c.unwrap.result _ _ _ _ _ _ plan
    (c.unwrap_or-workers.ensures ∙ number_or_is 4 1 MOST_THREADS app m words (codes "workers") c.get_one.result rows c.requires.workers c.get_one.ensures.none c.get_one.ensures.value)
    (c.unwrap_or-readers.ensures ∙ number_or_is 2 1 MOST_THREADS app m words (codes "readers") c.get_one-2.result rows c.requires.readers c.get_one-2.ensures.none c.get_one-2.ensures.value)
    (c.unwrap_or-nodes.ensures ∙ number_or_is 64 1 MOST_NODES app m words (codes "nodes") c.get_one-3.result rows c.requires.nodes c.get_one-3.ensures.none c.get_one-3.ensures.value)
