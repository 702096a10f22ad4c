use Rattle.std.proofs.Common.{sym, ◌∙◌, arith}
use Rattle.std.proofs.lemmas.List.{take_rest}
use Rattle.cwr_share.proofs.FieldLemmas.{all_spaces, spaces_go}
use Rattle.cwr_share.proofs.share_line.without_spaces_before.Goals as goal

pub returns-then-text-place-ne32 : goal.returns-then-text-place-ne32
returns-then-text-place-ne32 c =
    take_rest c.args.text.now c.loop-place.place
    ∙ sym (spaces_go c.args.text.now c.loop-place.place c.loop-place-test.true c.loop-place.invariant c.if-text-place-ne32.true)

pub returns : goal.returns
returns c = sym (all_spaces c.args.text.now (λ k lt. c.loop-place.invariant k (omega (arith, lt))))
