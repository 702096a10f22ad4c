use Rattle.std.proofs.Common.{◌∙◌, ◌<◌, ℕ, List, ap, arith, get_or, length}
use Rattle.cwr_share.specs.Registrations.{ShareLine}
use Rattle.cwr_share.proofs.InForceLemmas.{length-works_of, lines_at_place}
use Rattle.cwr_share.proofs.in_force.InForce.at.Goals as goal

pub index-requires : goal.index-requires
index-requires c =
    omega (arith, ap (λ (entries : List (List ℕ × List ShareLine)). length entries) c.self.view_is, length-works_of c.self.inside.works.keys c.self.inside.lists.items c.self.invariant.paired, c.requires)

pub returns : goal.returns
returns c = record {
  shares = λ d.
      let within : c.args.place < length c.self.inside.lists.items =
      omega (arith, ap (λ (entries : List (List ℕ × List ShareLine)). length entries) c.self.view_is, length-works_of c.self.inside.works.keys c.self.inside.lists.items c.self.invariant.paired, c.requires) in
      c.as_slice.ensures.value
      ∙ lines_at_place c.self.inside.works.keys c.self.inside.lists.items c.args.place d c.index.result.now c.self.invariant.paired within c.index.ensures
      ∙ ap (λ (entries : List (List ℕ × List ShareLine)). (get_or entries c.args.place d).1) c.self.view_is;
}
