use Rattle.royalty_program.proofs.MergeFileLemmas.{refused_text}
use Rattle.royalty_program.proofs.merge_files.check_text.Goals as goal

pub returns-in-Err-check-clause-refused : goal.returns-in-Err-check-clause-refused
returns-in-Err-check-clause-refused g c =
    refused_text (g.S.Texts.gives c.args.files.now) c.args.path.now (g.S.Reader.Read.remaining c.in-Ok.reader) c.in-Err-check.refusal c.refused.result
    c.in-Ok.ensures.text c.in-Err-check.ensures.refused c.refused.ensures.refused
