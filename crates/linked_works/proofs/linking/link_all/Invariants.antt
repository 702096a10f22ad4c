use Rattle.std.proofs.Common.{◌≡◌, ◌≤◌, ◌*◌, ℕ, List, Some, length, take, zip}
use Rattle.cwr_share.specs.Registrations.{ShareLine, find_work}
use Rattle.cwr_share.specs.declared.TheConstants.{MOST_SHARES}
use Rattle.linked_works.specs.Linked.{finds_among, shares_linked}
use Rattle.linked_works.specs.Rows.{links_by, names_by}
use Rattle.linked_works.proofs.linking.link_all.Given as goal

abbrev pub invariant-loop-link : goal.invariant-loop-link
invariant-loop-link l = record {
  works : (work : List ℕ) → find_work work l.joined ≡ shares_linked (finds_among (zip (names_by l.names) l.files)) (links_by (names_by l.names) (take l.link-index l.links)) work;
  lines : (work : List ℕ) (shares : List ShareLine) → find_work work l.joined ≡ Some shares → length shares ≤ MOST_SHARES * l.link-index;
}
