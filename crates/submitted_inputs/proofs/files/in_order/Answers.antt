use Rattle.std.proofs.Common.{◌≡◌, ◌∙◌, ◌∷◌, ◌++◌, List, Option, Result, Some, Err, ap, drop, drop-cons, inr, length, map, map-id, rules, suc, sym, take, take-append-drop}
use Rattle.std.specs.Prelude.{vec_len}
use Rattle.std.proofs.lemmas.Iterator.Adapters.{YieldsList-from_vec}
use Rattle.std.proofs.lemmas.Iterator.Consumers.{YieldsList-so_far, YieldsList-turn}
use Rattle.cwr_share.specs.declared.in_force.InForce.{InForce}
use Rattle.submitted_inputs.specs.Outcomes.{read_as}
use Rattle.submitted_inputs.specs.declared.fault.SubmittedFault.{SubmittedFault}
use Rattle.submitted_inputs.proofs.files.in_order.Goals as goal

abbrev Outcome : Type 0
Outcome = Option (Result InForce SubmittedFault)

pub returns-in-Some-Err-clause-fault : goal.returns-in-Some-Err-clause-fault
returns-in-Some-Err-clause-fault c =
    let all : List Outcome = c.args.outcomes.items in
    let l = c.loop-outcome in
    let n = length l.yielded in
    let it : Outcome = c.in-Some.outcome in
    let gives = c.into_iter-outcome-iterator.ensures.into_iter_gives in
    let long : vec_len c.args.outcomes ≡ length all = search rules in
    let road = YieldsList-from_vec {s = c.into_iter-outcome-iterator.result} all gives.0 (gives.1 ∙ long) in
    let turn = YieldsList-turn road l.yielded l.outcome-iterator l.yielded_by c.next.result c.next.new.self it c.in-Some.is c.next.ensures.steps in
    let so_far : l.yielded ≡ take n all = sym (map-id l.yielded) ∙ YieldsList-so_far road l.yielded l.outcome-iterator l.yielded_by in
    let refused : it ≡ Some (Err c.in-Some-Err.fault) = c.in-Some-Err.is ∙ ap Some c.in-Some-Err.field-0-is in
    inr (record {
      read = l.read.items;
      later = drop (suc n) all;
      split = sym (take-append-drop n all)
          ∙ (ap (λ (front : List Outcome). front ++ drop n all) (sym so_far ∙ l.invariant)
          ∙ ap (λ (back : List Outcome). map read_as l.read.items ++ back)
          (drop-cons all n it turn.0 ∙ ap (λ (first : Outcome). first ∷ drop (suc n) all) (sym turn.1 ∙ refused)));
    })
