use Rattle.std.proofs.Common.{◌≡◌, ◌∙◌, ◌∷◌, ◌++◌, [], List, Vec, Global, ap, false}
use Rattle.std.specs.List.{list_any}
use Rattle.cwr_share.specs.Compiled.{WorkName}
use Rattle.cwr_share.specs.InForce.{works_of}
use Rattle.cwr_share.specs.Registrations.{ShareLine, find_work}
use Rattle.cwr_share.proofs.InForceLemmas.{is_same, not_among, table_added, works_of_push}
use Rattle.cwr_share.proofs.in_force.InForce.add.Goals as goal

module _ (c : goal.In-Ok) where
  fresh : list_any (is_same c.args.work) c.self.inside.works.keys ≡ false
  fresh = not_among c.self.inside.works.keys c.self.inside.lists.items c.args.work c.self.invariant.paired (ap (find_work c.args.work.items) c.self.view_is ∙ c.requires.new)

  keys : c.insert.new.self.keys ≡ c.self.inside.works.keys ++ c.args.work ∷ []
  keys = rw (fresh) at c.in-Ok.ensures.keys

pub invariant_of-self-in-Ok : goal.invariant_of-self-in-Ok
invariant_of-self-in-Ok c =
    rw (keys c, c.in_ok-push.ensures.items)
    (table_added c.self.inside.works.keys c.self.inside.lists.items c.args.work c.args.shares c.self.invariant c.requires.short c.requires.sound)

pub returns-in-Ok : goal.returns-in-Ok
returns-in-Ok c =
    ap (λ (works : List WorkName). works_of works c.push.new.self.items) (keys c)
    ∙ (ap (λ (lists : List (Vec ShareLine Global)). works_of (c.self.inside.works.keys ++ c.args.work ∷ []) lists) c.in_ok-push.ensures.items
    ∙ (works_of_push c.self.inside.works.keys c.self.inside.lists.items c.args.work c.args.shares c.self.invariant.paired
    ∙ ap (λ works. works ++ (c.args.work.items, c.args.shares.items) ∷ []) c.self.view_is))
