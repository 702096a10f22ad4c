use Rattle.std.proofs.Common.{◌∙◌, map, string_bytes, arith}
use Rattle.std.proofs.lemmas.List.{length-map, take_all}
use Rattle.royalty_program.proofs.SplitLemmas.{copied_more}
use Rattle.royalty_program.proofs.options.owned_all.Goals as goal

pub returns : goal.returns
returns c =
    let all = take_all c.loop-text.text-index (map (λ text. text.now) c.args.texts.now)
    (omega (arith, c.loop-text-test.false, length-map c.args.texts.now (λ text. text.now))) in
    c.loop-text.invariant ∙ all

pub loop-text-preserved : goal.loop-text-preserved
loop-text-preserved c = copied_more string_bytes c.args.texts.now c.loop-text.own.items c.push.new.self.items c.loop-text.text-index
    c.in_ok-from_str.field-0 _ c.loop-text-test.true c.in_ok-push.ensures.items c.in_ok-from_str.ensures.ok c.loop-text.invariant
