use Rattle.std.proofs.Common.{◌∙◌, arith, refl, sym}
use Rattle.std.proofs.lemmas.List.{length-map}
use Rattle.std.proofs.lemmas.Slice.Eq.{bytes_eq-Decides}
use Rattle.std.specs.Prelude.{string_bytes}
use Rattle.royalty_program.proofs.merge_command.is_named_before.Goals as goal

pub returns-then-eq : goal.returns-then-eq
returns-then-eq c =
    let same = (bytes_eq-Decides c.word.result.now c.word-in-loop-earlier.result.now).0 (sym c.eq.ensures ∙ c.if-eq.true) in
    let paths = sym c.word.ensures ∙ (same ∙ c.word-in-loop-earlier.ensures) in
    (λ _. (omega (arith, c.requires, length-map c.args.paths.now string_bytes), (c.loop-earlier.earlier, c.loop-earlier-test.true, paths)), λ _. refl)
