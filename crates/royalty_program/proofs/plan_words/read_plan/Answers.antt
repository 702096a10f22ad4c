use Rattle.std.proofs.Common.{codes}
use Rattle.split_run.specs.Plans.{MOST_NODES}
use Rattle.split_run.specs.declared.TheConstants.{MOST_THREADS}
use Rattle.royalty_program.proofs.OptionLemmas.{number_is, number_read, some_by}
use Rattle.royalty_program.proofs.RunLemmas.{same_plan}
use Rattle.royalty_program.proofs.plan_words.read_plan.Goals as goal

pub unwrap-workers-requires : goal.unwrap-workers-requires
unwrap-workers-requires c = (number_read c.args.matches.now (codes "workers") MOST_THREADS c.get_one.result c.requires.workers c.get_one.ensures.value).0

pub unwrap-readers-requires : goal.unwrap-readers-requires
unwrap-readers-requires c = (number_read c.args.matches.now (codes "readers") MOST_THREADS c.get_one-2.result c.requires.readers c.get_one-2.ensures.value).0

pub unwrap-nodes-requires : goal.unwrap-nodes-requires
unwrap-nodes-requires c = (number_read c.args.matches.now (codes "nodes") MOST_NODES c.get_one-3.result c.requires.nodes c.get_one-3.ensures.value).0

pub unwrap-requires : goal.unwrap-requires
unwrap-requires c =
    let m = c.args.matches.now in
    let workers = number_read m (codes "workers") MOST_THREADS c.get_one.result c.requires.workers c.get_one.ensures.value in
    let readers = number_read m (codes "readers") MOST_THREADS c.get_one-2.result c.requires.readers c.get_one-2.ensures.value in
    let nodes = number_read m (codes "nodes") MOST_NODES c.get_one-3.result c.requires.nodes c.get_one-3.ensures.value in
    some_by c.new.result c.new.ensures.none (record {
      workers = (rw c.unwrap-workers.ensures at workers.1, rw c.unwrap-workers.ensures at workers.2);
      readers = (rw c.unwrap-readers.ensures at readers.1, rw c.unwrap-readers.ensures at readers.2);
      nodes = (rw c.unwrap-nodes.ensures at nodes.1, rw c.unwrap-nodes.ensures at nodes.2);
    })

pub returns : goal.returns
returns c = λ app words rows.
    let m = c.args.matches.now in
    let plan = (rw c.unwrap.ensures at c.new.ensures.some).0 in
    same_plan c.unwrap.result _ _ _ _ _ _ plan
    (number_is app m words (codes "workers") MOST_THREADS c.get_one.result c.unwrap-workers.result rows c.requires.workers c.get_one.ensures.value c.unwrap-workers.ensures)
    (number_is app m words (codes "readers") MOST_THREADS c.get_one-2.result c.unwrap-readers.result rows c.requires.readers c.get_one-2.ensures.value c.unwrap-readers.ensures)
    (number_is app m words (codes "nodes") MOST_NODES c.get_one-3.result c.unwrap-nodes.result rows c.requires.nodes c.get_one-3.ensures.value c.unwrap-nodes.ensures)
