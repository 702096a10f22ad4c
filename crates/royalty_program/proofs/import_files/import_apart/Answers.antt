use Rattle.std.proofs.Common.{inr}
use Rattle.royalty_program.proofs.ImportFileLemmas.{export_unread, left_or_made, left_then, lines_unkept, made_over, of_fault, rejected_unkept}
use Rattle.royalty_program.proofs.import_files.import_apart.Goals as goal

pub returns-in-Err-clause-files : goal.returns-in-Err-clause-files
returns-in-Err-clause-files g c = rw c.unread.ensures (export_unread (g.S.Texts.gives c.args.files.now) c.args.tables c.args.mapping.now _)

pub returns-in-Err-begin-clause-files : goal.returns-in-Err-begin-clause-files
returns-in-Err-begin-clause-files g c = rw c.unkept.ensures (lines_unkept (g.S.Texts.gives c.args.files.now) c.args.tables c.args.mapping.now _)

pub returns-in-Err-begin-2-clause-files : goal.returns-in-Err-begin-2-clause-files
returns-in-Err-begin-2-clause-files g c = rw c.unkept-in-Err-begin-2.ensures (rejected_unkept (g.S.Texts.gives c.args.files.now) c.args.tables c.args.mapping.now _)

pub returns-in-Ok-import_export-clause-imported : goal.returns-in-Ok-import_export-clause-imported
returns-in-Ok-import_export-clause-imported g c =
    let keeps = g.T.Target.keeps in
    made_over (keeps c.args.target.now) (keeps c.begin-2.new.self) (keeps c.keep_both.new.target) (g.S.Texts.gives c.args.files.now) c.args.tables c.args.mapping.now c.args.maps
    c.in-Ok-import_export.summary _ _ _ c.keep_both.result _ (rw c.as_str.ensures.value at c.in-Ok.ensures.text)
    (rw (c.in-Ok-begin.ensures.blank, c.in-Ok-begin-2.ensures.blank) at c.in-Ok-import_export.ensures.imported)
    c.keep_both.ensures.kept c.keep_both.ensures.text c.keep_both.ensures.whole

pub returns-in-Ok-import_export-clause-left : goal.returns-in-Ok-import_export-clause-left
returns-in-Ok-import_export-clause-left g c =
    let keeps = g.T.Target.keeps in
    inr (left_or_made (keeps c.args.target.now) (keeps c.begin-2.new.self) (keeps c.keep_both.new.target) (g.S.Texts.gives c.args.files.now) c.args.tables c.args.mapping.now c.args.maps
    c.in-Ok-import_export.summary _ _ _ _ (rw c.as_str.ensures.value at c.in-Ok.ensures.text)
    (rw (c.in-Ok-begin.ensures.blank, c.in-Ok-begin-2.ensures.blank) at c.in-Ok-import_export.ensures.imported)
    (λ path. left_then (keeps c.args.target.now path) (keeps c.begin.new.self path) (keeps c.begin-2.new.self path) (c.begin.ensures.left path) (c.begin-2.ensures.left path))
    c.keep_both.ensures.left c.keep_both.ensures.others)

pub returns-in-Err-import_export-clause-files : goal.returns-in-Err-import_export-clause-files
returns-in-Err-import_export-clause-files g c =
    of_fault (g.S.Texts.gives c.args.files.now) c.args.tables c.args.mapping.now _ c.in-Err-import_export.fault c.told.result (rw c.as_str.ensures.value at c.in-Ok.ensures.text)
    c.told.ensures.told c.in-Err-import_export.ensures.fault
