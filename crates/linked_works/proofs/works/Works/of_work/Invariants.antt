use Rattle.std.proofs.Common.{◌≡◌, ◌≤◌, All, filter, length, map, nat_eq, take}
use Rattle.std.specs.Cmp.Lexicographic.{pointwise}
use Rattle.linked_works.specs.Rows.{IsKnownRow, link_by, link_shown, names_by}
use Rattle.linked_works.proofs.works.Works.of_work.Given as goal

-- the rows of the work among the links so far
abbrev pub invariant-loop-link : goal.invariant-loop-link
invariant-loop-link l =
    (map link_shown l.rows.items
    ≡ filter (λ link. pointwise nat_eq link.work l.work) (map (link_by (names_by l.self-inside.names.now)) (take l.link-index l.link-items)))
    × All (IsKnownRow (names_by l.self-inside.names.now)) l.rows.items
    × (length l.rows.items ≤ l.link-index)
