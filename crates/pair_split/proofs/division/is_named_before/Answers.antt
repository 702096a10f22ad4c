use Rattle.std.proofs.Common.{refl, sym, ap, ◌∙◌, arith}
use Rattle.std.proofs.lemmas.List.{length-map}
use Rattle.std.proofs.lemmas.Slice.Eq.{bytes_eq-Decides}
use Rattle.std.specs.Prelude.{string_bytes}
use Rattle.pair_split.specs.Pair.{party_of}
use Rattle.pair_split.proofs.division.is_named_before.Goals as goal

pub returns-then-eq : goal.returns-then-eq
returns-then-eq c =
    let same = (bytes_eq-Decides c.party_of.result.now c.party_of-in-loop-earlier.result.now).0 (sym c.eq.ensures ∙ c.if-eq.true) in
    let parties = ap party_of (sym c.word.ensures) ∙ (sym c.party_of.ensures ∙ (same ∙ (c.party_of-in-loop-earlier.ensures ∙ ap party_of c.word-in-loop-earlier.ensures))) in
    (λ _. (omega (arith, c.requires.place, length-map c.args.words.now string_bytes), (c.loop-earlier.earlier, c.loop-earlier-test.true, parties)), λ _. refl)
