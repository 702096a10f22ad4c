-- Sections as they are kept.
use Rattle.std.specs.Prelude.{◌≡◌, ◌<◌, ◌≤◌, All, List, length, unsigned_abs}
use Rattle.std.specs.Cmp.Lexicographic.{slice_cmp}
use Rattle.std.specs.Ordering.{nat_cmp, ordering_then}
use Rattle.std.specs.declared.cmp.Ordering.{Ordering}
use Rattle.line_split.specs.declared.TheConstants.{MOST_AMOUNT, MOST_LINES}
use Rattle.payee_portions.specs.Held.{work_of}
use Rattle.payee_portions.specs.Portions.{Portion}
use Rattle.payee_portions.specs.Shown.{portions_shown}
use Rattle.payee_portions.specs.Sums.{sum_of}
use Rattle.payee_portions.specs.declared.money.Section.{Section}

abbrev pub section_shown : Section → List Portion
section_shown section = portions_shown section.portions.now

-- which of two sections comes first, by the sums that are kept
abbrev pub kept_by_money : Section → Section → Ordering
kept_by_money section other =
    ordering_then (nat_cmp (unsigned_abs other.sum) (unsigned_abs section.sum))
    (slice_cmp nat_cmp (work_of (section_shown section)) (work_of (section_shown other)))

-- a section has a portion, and its sum is theirs
pub record IsSection (section : Section) : Type 0 where
  pub some : 0 < length section.portions.now
  pub sum : section.sum ≡ sum_of (section_shown section)
  pub few : length section.portions.now ≤ MOST_LINES
  pub small : All (λ portion. unsigned_abs portion.amount ≤ MOST_AMOUNT) section.portions.now
