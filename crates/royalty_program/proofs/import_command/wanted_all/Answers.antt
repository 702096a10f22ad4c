use Rattle.std.proofs.Common.{List, arith, map, subst, ℕ}
use Rattle.std.specs.Borrow.{Bor}
use Rattle.std.proofs.lemmas.List.{length-map, take_all}
use Rattle.royalty_program.specs.ImportCommand.{AreWanted}
use Rattle.royalty_program.proofs.ImportLemmas.{wanted_more}
use Rattle.royalty_program.proofs.import_command.wanted_all.Goals as goal

pub loop-value-preserved : goal.loop-value-preserved
loop-value-preserved c = wanted_more c.args.values.now c.loop-value.wanted.items c.push.new.self.items c.loop-value.value-index
    c.in_ok-wanted_by.field-0 _ c.loop-value-test.true c.in_ok-push.ensures.items c.in_ok-wanted_by.ensures c.loop-value.invariant

pub returns : goal.returns
returns c =
    let all = take_all c.loop-value.value-index (map (λ (value : Bor (List ℕ)). value.now) c.args.values.now)
    (omega (arith, c.loop-value-test.false, length-map c.args.values.now (λ (value : Bor (List ℕ)). value.now))) in
    subst (λ (shows : List (List ℕ)). AreWanted shows c.loop-value.wanted.items) all c.loop-value.invariant
