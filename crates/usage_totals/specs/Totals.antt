-- What a run makes of usage lines: how many have each reason, and what they come to.
use Rattle.std.specs.Prelude.{ℕ, ℤ, ◌≡◌, ◌&&◌, Bool, true, false, List, filter, length, map, nat_eq, nat_lt}
use Rattle.std.specs.Prelude.{unsigned_abs, unwrap_or}
use Rattle.std.specs.List.{list_any}
use Rattle.std.specs.Ordering.{nat_cmp}
use Rattle.std.specs.Cmp.Lexicographic.{pointwise, slice_cmp}
use Rattle.cwr_share.specs.ClaimsOn.{claims_on, is_known, reason_against}
use Rattle.cwr_share.specs.Registered.{Registered}
use Rattle.line_split.specs.Signs.{int_sum_by, signed_portions_of}
use Rattle.line_split.specs.UsageLine.{UsageLine}
use Rattle.line_split.specs.declared.TheConstants.{RESIDUE}
use Rattle.line_split.specs.declared.reason.Reason.{Reason}
use Rattle.line_split.specs.declared.reason.Reason.TheVariants.{Work, Land, Over, Open}
use Rattle.payee_book.specs.Run.{portion_for}
use Rattle.usage_totals.specs.Greatest.{AreGreatest}
use Rattle.usage_totals.specs.declared.total.Total.{Total}
use Rattle.usage_totals.specs.declared.totals.Totals.{Totals}

-- the reason of a line: what stands against the claims on it, or else what they leave open
abbrev pub reason_of : List (ℕ × List ℕ) → Registered → UsageLine → Reason
reason_of table registered line = unwrap_or (reason_against table registered line) Open

abbrev pub is_same : Reason → Reason → Bool
is_same Work Work = true
is_same Land Land = true
is_same Over Over = true
is_same Open Open = true
is_same _ _ = false

-- the lines that have this reason
abbrev pub lines_for : List (ℕ × List ℕ) → Registered → Reason → List UsageLine → List UsageLine
lines_for table registered reason lines =
    filter (λ line. is_same reason (reason_of table registered line)) lines

-- how many lines there are, and what their amounts come to
abbrev pub total_of_lines : List UsageLine → Total
total_of_lines lines = record { lines = length lines; amount = int_sum_by (λ line. line.amount) lines }

-- the residue's portion of a line
abbrev pub residue_of : List (ℕ × List ℕ) → Registered → UsageLine → ℤ
residue_of table registered line =
    portion_for RESIDUE (signed_portions_of line.amount (claims_on table registered line))

-- the line is divided, and something of it stays open
abbrev pub stays_open : List (ℕ × List ℕ) → Registered → UsageLine → Bool
stays_open table registered line =
    is_same Open (reason_of table registered line) && nat_lt 0 (unsigned_abs (residue_of table registered line))

-- amounts by work, and by territory
abbrev pub amounts_by_work : List UsageLine → List (List ℕ × ℤ)
amounts_by_work lines = map (λ line. (line.work, line.amount)) lines

abbrev pub amounts_by_territory : List UsageLine → List (ℕ × ℤ)
amounts_by_territory lines = map (λ line. (line.territory, line.amount)) lines

-- what stays open of these lines, by work
abbrev pub open_by_work : List (ℕ × List ℕ) → Registered → List UsageLine → List (List ℕ × ℤ)
open_by_work table registered lines =
    map (λ line. (line.work, residue_of table registered line)) (filter (stays_open table registered) lines)

-- What a run makes of these lines, by a table of territories and registrations.
pub record AreTotalsOf (table : List (ℕ × List ℕ)) (registered : Registered) (lines : List UsageLine) (totals : Totals)
    : Type 0 where
  pub divided : totals.divided ≡ total_of_lines (lines_for table registered Open lines)
  -- what is the residue's of the lines that are divided
  pub residue : totals.residue ≡ int_sum_by (residue_of table registered) (lines_for table registered Open lines)
  pub unregistered : totals.unregistered ≡ total_of_lines (lines_for table registered Work lines)
  pub unknown : totals.unknown ≡ total_of_lines (lines_for table registered Land lines)
  pub claimed_over : totals.claimed_over ≡ total_of_lines (lines_for table registered Over lines)
  -- the ten works that nobody has registered, and the ten territories that the table has not, with most money
  pub works : AreGreatest (pointwise nat_eq) (slice_cmp nat_cmp) 10
      (amounts_by_work (lines_for table registered Work lines)) totals.works
  pub territories : AreGreatest nat_eq nat_cmp 10
      (amounts_by_territory (lines_for table registered Land lines)) totals.territories
  -- the ten works with most money of the lines that are claimed over, and the ten of which most stays open
  pub over : AreGreatest (pointwise nat_eq) (slice_cmp nat_cmp) 10
      (amounts_by_work (lines_for table registered Over lines)) totals.over
  pub left_open : AreGreatest (pointwise nat_eq) (slice_cmp nat_cmp) 10
      (open_by_work table registered lines) totals.left_open
  -- whether the table has the territory of some line
  pub knows_a_territory : totals.knows_a_territory ≡ list_any (λ line. is_known table line.territory) lines
