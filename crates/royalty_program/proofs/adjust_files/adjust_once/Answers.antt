use Rattle.royalty_program.proofs.AdjustFileLemmas.{both_of_reading}
use Rattle.royalty_program.proofs.adjust_files.adjust_once.Goals as goal

pub returns-in_ok-check_both-in-Err-clause-files : goal.returns-in_ok-check_both-in-Err-clause-files
returns-in_ok-check_both-in-Err-clause-files g c =
    both_of_reading (g.S.Texts.gives c.args.files.now) c.args.paid.now c.args.right.now c.in-Err.failure c.in_ok-check_both-in-Err.ensures.alike c.in-Err.ensures.reading
