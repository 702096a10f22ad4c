use Rattle.std.proofs.Common.{Bool, List, [], ◌∷◌}
use Rattle.std.proofs.lemmas.Result.{IfOk-weaker}
use Rattle.merge_statements.proofs.Taking.{least_of_none}
use Rattle.merge_statements.specs.SoFar.{HasLeast, Unread}
use Rattle.adjust_statements.proofs.payee.next_payee.Goals as goal

pub returns : goal.returns
returns g c =
    let texts = c.args.texts.now in
    let first = c.lesser_payee.new.least.items in
    let least = c.lesser_payee-2.new.least.items in
    IfOk-weaker c.lesser_payee-2.result (λ now. (others : List Unread) → HasLeast others first c.in_ok-found.found → HasLeast (texts.paid ∷ others) least now)
    (HasLeast (texts.paid ∷ texts.right ∷ []) least)
    (λ (now : Bool) more. more (texts.right ∷ []) (c.in_ok-found.ensures [] (least_of_none c.args.least.now.items)))
    c.lesser_payee-2.ensures
