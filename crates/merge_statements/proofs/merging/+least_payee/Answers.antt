use Rattle.std.proofs.Common.{Bool, List, length, take, drop, subst, sym, ◌-◌, ◌∷◌}
use Rattle.std.proofs.lemmas.Result.{IfOk-weaker}
use Rattle.merge_statements.proofs.Taking.{parts_whole}
use Rattle.merge_statements.specs.SoFar.{HasLeast, Unread}
use Rattle.merge_statements.proofs.merging.«+least_payee».Goals as goal

pub returns : goal.returns
returns g t c =
    let others = take (length c.args.parts.now - 1) (drop 1 c.args.parts.now) in
    let least = c.lesser_payee.new.least.items in
    IfOk-weaker c.lesser_payee.result (λ now. (others : List Unread) → HasLeast others c.least_payee.new.least.items c.in_ok-found.found → HasLeast (c.first-item.result ∷ others) least now)
    (HasLeast c.args.parts.now least)
    (λ (now : Bool) more. subst (λ (parts : List Unread). HasLeast parts least now) (sym (parts_whole c.args.parts.now c.first-item.result c.in-len1-up.len_at_least c.first-item.is)) (more others c.in_ok-found.ensures))
    c.lesser_payee.ensures
