use Rattle.std.proofs.Common.{length, map, arith}
use Rattle.std.proofs.lemmas.Bool.{iff_false}
use Rattle.std.proofs.lemmas.List.{length-map}
use Rattle.std.specs.Prelude.{string_bytes}
use Rattle.line_split.proofs.FirstPlaces.{none_more, none_all}
use Rattle.royalty_program.specs.MergeCommand.{IsNamedBefore}
use Rattle.royalty_program.proofs.merge_command.first_named_before.Goals as goal

pub loop-place-preserved : goal.loop-place-preserved
loop-place-preserved c =
    none_more (IsNamedBefore (map string_bytes c.args.paths.now)) c.loop-place.place c.loop-place.invariant (iff_false c.is_named_before.ensures c.if-is_named_before.false)

pub returns-clause-none : goal.returns-clause-none
returns-clause-none c =
    none_all (IsNamedBefore (map string_bytes c.args.paths.now)) c.loop-place.place c.loop-place.invariant (length c.args.paths.now) c.loop-place-test.false
    (λ i holds. let here = holds.0 in omega (arith, here, length-map c.args.paths.now string_bytes))
