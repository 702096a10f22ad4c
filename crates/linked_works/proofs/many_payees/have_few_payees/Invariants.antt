use Rattle.std.proofs.Common.{All, List, ℕ, take}
use Rattle.std.specs.Prelude.{IfSome}
use Rattle.cwr_share.specs.Payees.{payee_of}
use Rattle.cwr_share.specs.Registered.{HasFewPayees}
use Rattle.cwr_share.specs.Registrations.{find_work}
use Rattle.linked_works.proofs.many_payees.have_few_payees.Given as goal

abbrev pub invariant-loop-link : goal.invariant-loop-link
invariant-loop-link l = record {
  links : All (λ link. IfSome (find_work link.work l.works) (HasFewPayees (payee_of l.payees))) (take l.link-index l.links);
  seen : All (λ (work : List ℕ). IfSome (find_work work l.works) (HasFewPayees (payee_of l.payees))) l.seen.keys;
}
