use Rattle.std.proofs.Common.{map}
use Rattle.std.specs.Prelude.{string_bytes}
use Rattle.royalty_program.proofs.MergeFileLemmas.{merged_over, one_of_place}
use Rattle.royalty_program.proofs.merge_files.merge_opened.Goals as goal

pub returns-in-Ok-clause-merged : goal.returns-in-Ok-clause-merged
returns-in-Ok-clause-merged g c =
    merged_over (g.S.Texts.gives c.args.files.now) (map string_bytes c.args.paths.now) (map g.S.Reader.Read.remaining c.in_ok-readers.readers.items) _ _ c.in_ok-readers.ensures.opened c.in-Ok.ensures.merged

pub returns-in_default-clause-one : goal.returns-in_default-clause-one
returns-in_default-clause-one g c =
    one_of_place (g.S.Texts.gives c.args.files.now) (map string_bytes c.args.paths.now) (map g.S.Reader.Read.remaining c.in_ok-readers.readers.items) c.in-Err.field-0.place c.in-Err.field-0.refusal c.changed.result
    c.in_ok-readers.ensures.opened c.in-Err.ensures.refused c.changed.ensures.one
