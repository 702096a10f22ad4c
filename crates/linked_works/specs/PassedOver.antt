-- What a run over several files passes over without a word: rows that link nothing, and registrations that no row
-- links.
use Rattle.std.specs.Prelude.{ℕ, ◌&&◌, Bool, List, filter, is_some, nat_eq, not}
use Rattle.std.specs.List.{list_any}
use Rattle.std.specs.Cmp.Lexicographic.{pointwise}
use Rattle.cwr_share.specs.PassedOver.{numbers_of}
use Rattle.linked_works.specs.Linked.{Finds, Link}

-- the rows, from 1, whose registration is not in force
abbrev pub rows_not_in_force : Finds → List Link → List ℕ
rows_not_in_force finds links = numbers_of (λ _ link. not (is_some (finds link.submitter link.number))) links

-- a row links what a submitter has under a number
abbrev pub is_linked : List Link → (submitter number : List ℕ) → Bool
is_linked links submitter number =
    list_any (λ link. pointwise nat_eq link.submitter submitter && pointwise nat_eq link.number number) links

-- those of a submitter's numbers that no row links
abbrev pub unlinked_numbers : List Link → (submitter : List ℕ) → (numbers : List (List ℕ)) → List (List ℕ)
unlinked_numbers links submitter numbers = filter (λ number. not (is_linked links submitter number)) numbers
