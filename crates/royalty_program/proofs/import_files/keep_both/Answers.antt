use Rattle.royalty_program.proofs.ImportFileLemmas.{kept_then_failed}
use Rattle.royalty_program.proofs.import_files.keep_both.Goals as goal

pub returns-in_err-finish-clause-left : goal.returns-in_err-finish-clause-left
returns-in_err-finish-clause-left g c =
    kept_then_failed (g.T.Target.keeps c.args.target.now) (g.T.Target.keeps c.finish.new.target) (g.T.Target.keeps c.finish-2.new.target) c.args.tables _ _ _ _
    c.requires c.finish.ensures.others c.in_default-finish.ensures.kept c.finish-2.ensures.others c.in_err-finish.ensures.left
