use Rattle.std.proofs.Common.{◌<◌, arith, length, map}
use Rattle.std.proofs.lemmas.List.{get_or-map, length-map}
use Rattle.std.specs.Borrow.{Bor}
use Rattle.std.proofs.Common.{List, ℕ, [], sym}
use Rattle.royalty_program.proofs.NamedLemmas.{named_more, not_named}
use Rattle.royalty_program.proofs.named_files.named_files.Goals as goal

abbrev text_of : Bor (List ℕ) → List ℕ
text_of value = value.now

pub returns-then-not-branch-clause-wrong : goal.returns-then-not-branch-clause-wrong
returns-then-not-branch-clause-wrong c =
    let values = c.args.values.now in
    let k = c.loop-value.value-index in
    let within : k < length (map text_of values) = omega (arith, c.loop-value-test.true, length-map values text_of) in
    not_named (map text_of values) k _ within (sym (get_or-map text_of values k _ [] (omega (arith, c.loop-value-test.true)))) _ _ c.loop-value.invariant
    (c.in_ok-add.ensures.refused c.if-not-branch.true)

pub loop-value-preserved : goal.loop-value-preserved
loop-value-preserved c =
    let values = c.args.values.now in
    let k = c.loop-value.value-index in
    let within : k < length (map text_of values) = omega (arith, c.loop-value-test.true, length-map values text_of) in
    let is = c.if-not-branch.false in
    let (submitter, new) = c.in_ok-add.ensures.sound is in
    named_more (map text_of values) k _ within (sym (get_or-map text_of values k _ [] (omega (arith, c.loop-value-test.true)))) _ _ c.loop-value.invariant _ _
    (c.in_ok-add.ensures.names is) (c.in_ok-add.ensures.paths is) submitter new (c.in_ok-add.ensures.path is)
