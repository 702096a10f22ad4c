use Rattle.std.proofs.Common.{◌≡◌, ◌∙◌, ◌+◌, ◌*◌, ◌%◌, ◌<◌, ◌^◌, ◌++◌, ◌∷◌, [], ap, arith, length, map, sym}
use Rattle.std.specs.List.{range_with_len}
use Rattle.std.proofs.lemmas.List.FromFn.{map-range_with_len_more}
use Rattle.std.proofs.lemmas.Option.{get_or_from_slice_get}
use Rattle.line_split.specs.UsageLine.{usage_line_of}
use Rattle.usage_totals.specs.RepeatsSoFar.{hash_of, hashed_at}
use Rattle.usage_totals.specs.SoFar.{some_line}
use Rattle.usage_totals.proofs.RepeatLemmas.{ordered}
use Rattle.usage_totals.proofs.repeats.in_order_of_hash.Goals as goal

pub loop-place-preserved : goal.loop-place-preserved
loop-place-preserved c =
    let usage = c.args.usage.now in
    let place = c.loop-place.place in
    let at = get_or_from_slice_get usage place (usage_line_of c.line.result) some_line c.line.ensures.line in
    let hash = c.hash_of_line.ensures ∙ ap hash_of (sym at) in
    let small : c.hash_of_line.result < 2 ^ 32 = omega arith in
    let whole : (c.from.result * 2 ^ 32) % 2 ^ 64 + place ≡ c.hash_of_line.result * 2 ^ 32 + place = omega (arith, small, c.from.ensures) in
    let one : (c.from.result * 2 ^ 32) % 2 ^ 64 + place ≡ hashed_at usage place = whole ∙ ap (λ n. n * 2 ^ 32 + place) hash in
    c.in_ok-push.ensures.items
    ∙ (λ i. c.loop-place.invariant i ++ one i ∷ [])
    ∙ sym (map-range_with_len_more (hashed_at usage) 0 place place (omega arith))

pub returns : goal.returns
returns c =
    let usage = c.args.usage.now in
    let all : c.loop-place.place ≡ length usage = omega (arith, c.loop-place-test.false, c.loop-place.auto.place-end, c.len-place-end.ensures.lines) in
    let made = c.loop-place.invariant ∙ ap (λ n. map (hashed_at usage) (range_with_len 0 n)) all in
    ordered usage (omega (arith, c.len.ensures.lines, c.len.ensures.few)) c.sort_unstable.new.self.items
    (rw made at c.sort_unstable.ensures.permutation) c.sort_unstable.ensures.sorted
