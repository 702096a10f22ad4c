use Rattle.std.proofs.Common.{◌≡◌, ℕ, List, AllPairs, ap, arith, length, subst}
use Rattle.cwr_share.specs.Registrations.{ShareLine}
use Rattle.cwr_share.proofs.InForceLemmas.{length-works_of}
use Rattle.cwr_share.proofs.PartyWorks.{once_works}
use Rattle.cwr_share.proofs.in_force.InForce.len.Goals as goal

pub returns : goal.returns
returns c = record {
  len =
      omega (
        arith,
        ap (λ (entries : List (List ℕ × List ShareLine)). length entries) c.self.view_is,
        length-works_of c.self.inside.works.keys c.self.inside.lists.items c.self.invariant.paired,
        c.self.invariant.paired,
        c.len.ensures.len,
      );
  once =
      subst (AllPairs (λ entry later. ¬ (entry.0 ≡ later.0))) c.self.view_is
      (once_works c.self.inside.works.keys c.self.inside.lists.items c.self.invariant.paired c.len.ensures.unique);
}
