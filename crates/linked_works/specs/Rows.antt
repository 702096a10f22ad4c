-- Links and names as they are kept, and how one link goes on from another.
use Rattle.std.specs.Prelude.{ℕ, ◌≡◌, ◌≤◌, ◌<◌, All, AllPairs, length, List, [], None, Option, Some, Vec, if◌then◌else◌, map, nat_eq, slice_index_or, unwrap_or}
use Rattle.std.specs.Cmp.Lexicographic.{pointwise}
use Rattle.std.specs.declared.alloc.Global.{Global}
use Rattle.cwr_share.specs.InForce.{IsOneRegistration}
use Rattle.cwr_share.specs.Joined.{followed_by, qualified}
use Rattle.cwr_share.specs.Registrations.{ShareLine, find_work}
use Rattle.cwr_share.specs.declared.numbers.TheConstants.{MOST_WORK_NAME_BYTES}
use Rattle.linked_works.specs.Linked as linked
use Rattle.linked_works.specs.Submitters.{IsSubmitter}
use Rattle.linked_works.specs.declared.linking.Link.{Link}
use Rattle.linked_works.specs.declared.works.WorksRow.{WorksRow}
use Rattle.linked_works.specs.declared.TheConstants.{MOST_LINKS}

-- the texts of names
abbrev pub names_by : List (Vec ℕ Global) → List (List ℕ)
names_by names = map (λ name. name.items) names

-- a row that has the place of its submitter among these names
abbrev pub link_by : List (List ℕ) → Link → linked.Link
link_by names link = record {
  work = link.work;
  submitter = slice_index_or names link.submitter [];
  number = link.number;
}

-- rows, of which each has that
abbrev pub links_by : List (List ℕ) → List Link → List linked.Link
links_by names links = map (link_by names) links

-- a row of a work as it is shown
abbrev pub link_shown : WorksRow → linked.Link
link_shown row = record { work = row.work.now; submitter = row.name.now; number = row.number.now }

-- it has the name of the submitter at its place
abbrev pub IsKnownRow : List (List ℕ) → WorksRow → Type 0
IsKnownRow names row = (row.submitter < length names) × (slice_index_or names row.submitter [] ≡ row.name.now)

-- what a work has when a registration of its own, or of another work, is linked too, where there is one
abbrev pub with_registration : (found : Option (List ShareLine)) → (its_work submitter : List ℕ)
    → (before : Option (List ShareLine)) → (work : List ℕ) → Option (List ShareLine)
with_registration None its_work submitter before work = before
with_registration (Some shares) its_work submitter before work =
    if pointwise nat_eq its_work work then Some (followed_by (unwrap_or before []) (submitter, shares)) else before

-- a table of works: the names of the submitters, and what its rows link
pub record Table : Type 0 where
  pub names : List (List ℕ)
  pub links : List linked.Link

-- a table of their payees: the names of the submitters, and the payee of each party that has a row
pub record PayeesBy : Type 0 where
  pub names : List (List ℕ)
  pub rows : List (List ℕ × List ℕ)

-- the text that a registration is known by
abbrev pub key_of : linked.Link → List ℕ
key_of link = qualified link.submitter link.number

-- Links, no more than a table has, of which each is of one of the submitters and has a name that is no longer than that
-- of a usage line's work; and the keys of their registrations.
pub record AreLinks (names : List (List ℕ)) (links : List Link) (keys : List (List ℕ)) : Type 0 where
  pub submitters : All IsSubmitter names
  pub once : AllPairs (λ name later. ¬ (name ≡ later)) names
  pub few : length links ≤ MOST_LINKS
  pub known : All (λ link. link.submitter < length names) links
  pub works : All (λ link. length link.work ≤ MOST_WORK_NAME_BYTES) links
  pub keys_of : keys ≡ map key_of (links_by names links)

-- What can be linked: names of submitters, which differ; the works in force of each of these, every one a registration;
-- and links, of which each is of one of the submitters and has a name that is no longer than that of a usage line's
-- work.
pub record CanBeLinked (names : List (Vec ℕ Global)) (in_force : List (List (List ℕ × List ShareLine)))
    (links : List Link) : Type 0 where
  pub files : length in_force ≡ length names
  pub known : All (λ link. link.submitter < length names) links
  pub works : All (λ link. length link.work ≤ MOST_WORK_NAME_BYTES) links
  pub submitters : All IsSubmitter (names_by names)
  pub once : AllPairs (λ name later. ¬ (name ≡ later)) (names_by names)
  pub registrations : All (λ works. (number : List ℕ) (shares : List ShareLine)
      → find_work number works ≡ Some shares → IsOneRegistration shares) in_force
