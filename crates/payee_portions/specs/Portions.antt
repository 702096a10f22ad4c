-- The portions of a payee, as its documents list them.
use Rattle.std.specs.Prelude.{ℕ, ℤ, ◌+◌, ◌==◌, List, slice_get}
use Rattle.std.specs.Cmp.Lexicographic.{slice_cmp}
use Rattle.std.specs.List.{filter_map, find}
use Rattle.std.specs.List.Sorted.{IsPermutation, IsSorted}
use Rattle.std.specs.Option.{option_map, option_map_or}
use Rattle.std.specs.Ordering.{nat_cmp, ordering_then}
use Rattle.std.specs.declared.cmp.Ordering.{Ordering}
use Rattle.cwr_share.specs.ClaimsOn.{claims_on}
use Rattle.cwr_share.specs.Registered.{Registered}
use Rattle.line_split.specs.Claims.{base_of}
use Rattle.line_split.specs.UsageLine.{UsageLine}

-- A portion: the title of its work, its usage line, the row of that in the usage list, what the payee claims there, what
-- that is a share of, and the amount.
pub record Portion : Type 0 where
  pub title : List ℕ
  pub line : UsageLine
  pub row : ℕ
  pub share : ℕ
  pub base : ℕ
  pub amount : ℤ

-- what an account claims, by the claims on a line
abbrev pub share_in : (claims : List (ℕ × ℕ)) → (account : ℕ) → ℕ
share_in claims account = option_map_or (λ claim. claim.1) (find (λ claim. claim.0 == account) claims) 0

-- the portion that a posting of an account is, by its usage line
abbrev pub portion_by : List (ℕ × List ℕ) → Registered → (title_of : List ℕ → List ℕ) → (account : ℕ) → ℕ × ℤ → UsageLine
    → Portion
portion_by table registered title_of account posting line = record {
  title = title_of line.work;
  line = line;
  row = posting.0 + 1;
  share = share_in (claims_on table registered line) account;
  base = base_of (claims_on table registered line);
  amount = posting.1;
}

-- the portions that the statement of an account is, in its order
abbrev pub portions_of : List (ℕ × List ℕ) → Registered → (usage : List UsageLine) → (title_of : List ℕ → List ℕ)
    → (account : ℕ) → (statement : List (ℕ × ℤ)) → List Portion
portions_of table registered usage title_of account statement =
    filter_map (λ posting. option_map (portion_by table registered title_of account posting) (slice_get usage posting.0))
    statement

-- By title, in byte order; works of one title by what usage lines call them; and the portions of a work by row.
abbrev pub by_title : Portion → Portion → Ordering
by_title portion other =
    ordering_then (slice_cmp nat_cmp portion.title other.title)
    (ordering_then (slice_cmp nat_cmp portion.line.work other.line.work) (nat_cmp portion.row other.row))

-- these are the portions, in that order
pub record AreListed (portions listed : List Portion) : Type 0 where
  pub same : IsPermutation portions listed
  pub order : IsSorted by_title listed
