-- What amounts come to by what they are of, such as a work, and where most of the money is.
use Rattle.std.specs.Prelude.{ℕ, ℤ, ◌≡◌, ◌<◌, ◌≤◌, Bool, true, false, List, [], ◌∷◌, Option, None, Some, filter}
use Rattle.std.specs.Prelude.{length, take, unsigned_abs}
use Rattle.std.specs.List.{All, IsDistinct, list_any}
use Rattle.std.specs.List.Sorted.{IsPermutation, IsSorted}
use Rattle.std.specs.Map.{keys_of, lookup}
use Rattle.std.specs.Ordering.{nat_cmp, ordering_then}
use Rattle.std.specs.declared.cmp.Ordering.{Ordering}
use Rattle.line_split.specs.Signs.{int_sum_by}
use Rattle.usage_totals.specs.declared.by_key.Ranked.{Ranked}
use Rattle.usage_totals.specs.declared.total.Total.{Total}

-- how many amounts there are, and what they come to
abbrev pub total_of : {K : Type 0} → List (K × ℤ) → Total
total_of amounts = record { lines = length amounts; amount = int_sum_by (λ amount. amount.1) amounts }

-- the same, where there are some
abbrev pub total_if_any : {K : Type 0} → List (K × ℤ) → Option Total
total_if_any [] = None
total_if_any (amount ∷ amounts) = Some (total_of (amount ∷ amounts))

-- the amounts of a key
abbrev pub amounts_at : {K : Type 0} → (K → K → Bool) → K → List (K × ℤ) → List (K × ℤ)
amounts_at eq key amounts = filter (λ amount. eq key amount.0) amounts

-- the keys of these amounts, each once, and what the amounts of each come to
pub record AreTotals {K : Type 0} (eq : K → K → Bool) (amounts : List (K × ℤ)) (totals : List (K × Total))
    : Type 0 where
  pub once : IsDistinct eq (keys_of totals)
  pub each : (key : K) → lookup (eq key) totals ≡ total_if_any (amounts_at eq key amounts)

-- more money comes first, whatever its sign; among as much, the lesser key
abbrev pub by_money : {K : Type 0} → (K → K → Ordering) → K × Total → K × Total → Ordering
by_money cmp total other =
    ordering_then (nat_cmp (unsigned_abs other.1.amount) (unsigned_abs total.1.amount)) (cmp total.0 other.0)

-- the first of a list in an order, so many at most
pub record AreFirst {X : Type 0} (cmp : X → X → Ordering) (most : ℕ) (all shown : List X) : Type 0 where
  pub sorted : List X
  pub same : IsPermutation all sorted
  pub order : IsSorted cmp sorted
  pub first : shown ≡ take most sorted

-- so many keys at most, those with most money, what the amounts of each come to, and how many keys there are
pub record AreGreatest {K : Type 0} (eq : K → K → Bool) (cmp : K → K → Ordering) (most : ℕ) (amounts : List (K × ℤ))
    (ranked : Ranked K) : Type 0 where
  pub all : List (K × Total)
  pub totals : AreTotals eq amounts all
  pub greatest : AreFirst (by_money cmp) most all ranked.first.items
  pub count : ranked.count ≡ length all

-- What that comes to, key by key: each is shown once and with all its amounts, and a key that is
-- left out, which is so only where there are too many, has no more money than any that is shown.
pub record HaveMostMoney {K : Type 0} (eq : K → K → Bool) (most : ℕ) (amounts : List (K × ℤ))
    (shown : List (K × Total)) : Type 0 where
  pub few : length shown ≤ most
  pub once : IsDistinct eq (keys_of shown)
  pub each : All (λ e. (e.1 ≡ total_of (amounts_at eq e.0 amounts)) × (0 < e.1.lines)) shown
  pub left_out : (key : K) → list_any (eq key) (keys_of amounts) ≡ true → list_any (eq key) (keys_of shown) ≡ false
      → (length shown ≡ most)
      × All (λ e. unsigned_abs (total_of (amounts_at eq key amounts)).amount ≤ unsigned_abs e.1.amount) shown

-- the keys of some amounts, each once
pub record AreKeysOf {K : Type 0} (eq : K → K → Bool) (amounts : List (K × ℤ)) (keys : List K) : Type 0 where
  pub once : IsDistinct eq keys
  pub all : (key : K) → list_any (eq key) keys ≡ list_any (eq key) (keys_of amounts)
