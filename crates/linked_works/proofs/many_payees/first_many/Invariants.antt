use Rattle.std.proofs.Common.{◌-◌, ◌<◌, ◌≤◌, length, take, zip}
use Rattle.cwr_share.specs.Payees.{payee_of}
use Rattle.linked_works.specs.Linked.{finds_among}
use Rattle.linked_works.specs.ManyPayees.{HaveFewPayees, SomeHasMany}
use Rattle.linked_works.specs.Rows.{links_by, names_by}
use Rattle.linked_works.proofs.many_payees.first_many.Given as goal

abbrev pub invariant-loop-few : goal.invariant-loop-few
invariant-loop-few l = record {
  order : l.few < l.many;
  within : l.many ≤ length l.links;
  before : HaveFewPayees (payee_of l.payees) (finds_among (zip (names_by l.names) l.files)) (links_by (names_by l.names) (take l.few l.links));
  with : SomeHasMany (payee_of l.payees) (finds_among (zip (names_by l.names) l.files)) (links_by (names_by l.names) (take l.many l.links));
}

abbrev pub decreases-loop-few : goal.decreases-loop-few
decreases-loop-few l = l.many - l.few
