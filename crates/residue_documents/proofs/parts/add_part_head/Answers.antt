use Rattle.std.proofs.lemmas.Result.{IfOk-equal}
use Rattle.residue_documents.proofs.parts.add_part_head.Goals as goal

pub returns : goal.returns
returns c =
    IfOk-equal c.add.result _ _ _ c.add.ensures
    (rw (c.word-word.ensures, c.name_of.ensures, c.meaning_of.ensures, c.todo_of.ensures))
