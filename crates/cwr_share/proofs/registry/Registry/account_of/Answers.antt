use Rattle.std.proofs.Common.{◌∙◌, IfNone, None, Option, Some, Global, Vec, ap, inr, map, ℕ}
use Rattle.cwr_share.specs.Registered.{Registered}
use Rattle.cwr_share.proofs.registry.Registry.account_of.Goals as goal

-- what a search that finds nothing says
where_none : {X : Type 0} (found : Option X) (says more : Type 0) → (says → more) → IfNone found says → IfNone found more
where_none None says more then told = then told
where_none (Some x) says more then told = told

pub account_of-requires-clause-rising : goal.account_of-requires-clause-rising
account_of-requires-clause-rising c = rw c.as_slice.ensures.value c.self.invariant.0.rising

pub returns-clause-none : goal.returns-clause-none
returns-clause-none c =
    let parties = ap (map (λ (payee : Vec ℕ Global). payee.items)) c.as_slice.ensures.value ∙ ap (λ (r : Registered). r.accounts) c.self.view_is in
    where_none c.account_of.result _ _ (λ absent. inr (λ has. absent (rw parties has))) c.account_of.ensures.none
