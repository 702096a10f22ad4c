use Rattle.std.proofs.Common.{map}
use Rattle.std.specs.Prelude.{string_bytes}
use Rattle.royalty_program.proofs.MergeFileLemmas.{among_mapped, opened_there, unopened_one}
use Rattle.royalty_program.proofs.merge_files.open_all.Goals as goal

pub returns-in-Err-clause-files : goal.returns-in-Err-clause-files
returns-in-Err-clause-files g c =
    unopened_one (g.S.Texts.gives c.args.files.now) (map string_bytes c.args.paths.now) (string_bytes c.path-item.result) c.unopened.result
    (among_mapped string_bytes c.args.paths.now c.loop-path.path-index c.path-item.result c.loop-path-test.true c.path-item.is)
    (rw c.as_str-in-Err.ensures.value at c.unopened.ensures.file)

pub loop-path-preserved : goal.loop-path-preserved
loop-path-preserved g c =
    opened_there (g.S.Texts.gives c.args.files.now) g.S.Reader.Read.remaining c.args.paths.now c.loop-path.path-index c.path-item.result c.loop-path.readers.items c.push.new.self.items c.in-Ok.reader
    c.loop-path-test.true c.path-item.is c.loop-path.invariant (rw c.as_str.ensures.value at c.in-Ok.ensures.text) c.in-Ok-push.ensures.items
