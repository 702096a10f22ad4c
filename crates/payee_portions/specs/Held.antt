-- The lines that leave something to the residue, as its document lists them.
use Rattle.std.specs.Prelude.{ℕ, ℤ, ◌+◌, ◌-◌, ◌∷◌, [], Bool, true, false, List, None, get_or, if◌then◌else◌, slice_get, unsigned_abs}
use Rattle.std.specs.List.{filter_map}
use Rattle.std.specs.List.Sorted.{IsPermutation, IsSorted}
use Rattle.std.specs.Cmp.Lexicographic.{slice_cmp}
use Rattle.std.specs.Option.{option_map}
use Rattle.std.specs.Ordering.{nat_cmp, ordering_then}
use Rattle.std.specs.declared.cmp.Ordering.{Ordering}
use Rattle.cwr_share.specs.ClaimsOn.{claims_on}
use Rattle.cwr_share.specs.Registered.{Registered}
use Rattle.line_split.specs.Claims.{base_of, total_of}
use Rattle.line_split.specs.UsageLine.{UsageLine}
use Rattle.line_split.specs.declared.reason.Reason.{Reason}
use Rattle.line_split.specs.declared.reason.Reason.TheVariants.{Work, Land, Over, Open}
use Rattle.payee_portions.specs.Portions.{Portion}
use Rattle.payee_portions.specs.Sums.{sum_of}

abbrev pub is_reason : Reason → Reason → Bool
is_reason Work Work = true
is_reason Land Land = true
is_reason Over Over = true
is_reason Open Open = true
is_reason _ _ = false

-- The portion of the residue that a posting is, by its usage line. Its share is what nobody claims.
abbrev pub held_by : List (ℕ × List ℕ) → Registered → (title_of : List ℕ → List ℕ) → ℕ × ℤ → UsageLine → Portion
held_by table registered title_of posting line = record {
  title = title_of line.work;
  line = line;
  row = posting.0 + 1;
  share = base_of (claims_on table registered line) - total_of (claims_on table registered line);
  base = base_of (claims_on table registered line);
  amount = posting.1;
}

-- the portions of the residue that have a reason, where `reasons` has that of each line
abbrev pub held_of : List (ℕ × List ℕ) → Registered → (usage : List UsageLine) → (title_of : List ℕ → List ℕ)
    → (reasons : List Reason) → Reason → (residue : List (ℕ × ℤ)) → List Portion
held_of table registered usage title_of reasons reason residue = filter_map (λ posting.
    if is_reason (get_or reasons posting.0 Open) reason
    then option_map (held_by table registered title_of posting) (slice_get usage posting.0) else None) residue

-- Of sections, each of a work, that with the larger sum comes first, whatever its sign; of equal ones that whose work has
-- the lesser name.
abbrev pub work_of : List Portion → List ℕ
work_of [] = []
work_of (first ∷ later) = first.line.work

abbrev pub by_money : List Portion → List Portion → Ordering
by_money section other =
    ordering_then (nat_cmp (unsigned_abs (sum_of other)) (unsigned_abs (sum_of section)))
    (slice_cmp nat_cmp (work_of section) (work_of other))

-- these are the sections, in that order
pub record AreByMoney (sections ordered : List (List Portion)) : Type 0 where
  pub same : IsPermutation sections ordered
  pub order : IsSorted by_money ordered
