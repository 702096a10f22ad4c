use Rattle.std.proofs.Common.{◌<◌, [], map, below_more, subst, arith}
use Rattle.std.proofs.lemmas.List.{get_or_default, length-map}
use Rattle.std.specs.Prelude.{string_bytes}
use Rattle.pair_split.specs.Pair.{IsPair, word_at}
use Rattle.pair_split.proofs.division.first_malformed.Goals as goal

pub loop-place-preserved : goal.loop-place-preserved
loop-place-preserved c =
    below_more (λ i. IsPair (word_at (map string_bytes c.args.words.now) i)) c.loop-place.place c.loop-place.invariant
    (subst IsPair c.word.ensures (c.is_pair.ensures.0 c.if-not-is_pair.false))

pub returns-clause-none : goal.returns-clause-none
returns-clause-none c = λ k d lt.
    let below : k < c.loop-place.place = omega (arith, lt, length-map c.args.words.now string_bytes, c.loop-place-test.false) in
    rw (get_or_default (map string_bytes c.args.words.now) k d [] lt) (c.loop-place.invariant k below)
