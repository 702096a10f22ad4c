-- What is kept while lines are counted. Contracts of private functions alone cite it, and no promise
-- rests on it; it stands here since a contract may cite nothing of proofs/.
use Rattle.std.specs.Prelude.{ℕ, ℤ, ◌≡◌, ◌⊎◌, ◌≤◌, ◌<◌, ◌+◌, ◌*◌, ◌/◌, ◌^◌, ◌∷◌, [], Bool, true, List, None, Option}
use Rattle.std.specs.Prelude.{IfSome, Some, fold, if◌then◌else◌, length, option_map, pos, slice_get, slice_index_or}
use Rattle.std.specs.Prelude.{take, unsigned_abs}
use Rattle.std.specs.Hash.FoldHasher as folding
use Rattle.std.specs.List.{All}
use Rattle.std.specs.Option.{option_cmp}
use Rattle.std.specs.Ordering.{nat_cmp, ordering_then}
use Rattle.std.specs.declared.cmp.Ordering.{Ordering}
use Rattle.line_split.specs.UsageLine.{UsageLine}
use Rattle.line_split.specs.declared.TheConstants.{MOST_AMOUNT}
use Rattle.line_split.specs.declared.TheConstants.{MOST_LINES}
use Rattle.line_split.specs.declared.usage.Right.TheVariants.{P}
use Rattle.usage_totals.specs.Greatest.{AreFirst, AreTotals, amounts_at, by_money}
use Rattle.usage_totals.specs.declared.by_key.Hashed.{Hashed}
use Rattle.usage_totals.specs.declared.by_key.Ranked.{Ranked}
use Rattle.usage_totals.specs.declared.total.Total.{Total}

-- it is of fewer lines than a list has at most, none of which has more than the greatest amount
pub record HasRoom (total : Total) : Type 0 where
  pub few : total.lines < MOST_LINES
  pub small : unsigned_abs total.amount ≤ total.lines * MOST_AMOUNT

-- a total of so many lines at most, none of which has more than the greatest amount
pub record IsWithin (count : ℕ) (total : Total) : Type 0 where
  pub few : total.lines ≤ count
  pub small : unsigned_abs total.amount ≤ total.lines * MOST_AMOUNT

-- some line, where one has to be named
abbrev pub some_line : UsageLine
some_line = record { usage = []; work = []; territory = 0; right = P; amount = pos 0 }

-- a line of the list, by its place
abbrev pub line_at : List UsageLine → ℕ → UsageLine
line_at lines place = slice_index_or lines place some_line

-- an amount where a line counts, and none where it does not
abbrev pub picked : (counts : UsageLine → Bool) → (amount : UsageLine → ℤ) → UsageLine → Option ℤ
picked counts amount line = if counts line then Some (amount line) else None

-- no amount is greater than the greatest
abbrev pub AreSmall : List (Option ℤ) → Type 0
AreSmall amounts = All (λ amount. IfSome amount (λ amount. unsigned_abs amount ≤ MOST_AMOUNT)) amounts

-- a line that counts, and its amount
abbrev pub counted_at : List UsageLine → Hashed → UsageLine × ℤ
counted_at lines hashed = (line_at lines hashed.place, hashed.amount)

abbrev pub with_amount : (amount : UsageLine → ℤ) → UsageLine → UsageLine × ℤ
with_amount amount line = (line, amount line)

-- the key of a line that counts, and its amount
abbrev pub amount_at : {K : Type 0} → (UsageLine → K) → List UsageLine → Hashed → K × ℤ
amount_at key lines hashed = (key (line_at lines hashed.place), hashed.amount)

-- what a hasher makes of what is written to it: the upper half
abbrev pub hash_by : List (List ℕ) → ℕ
hash_by writes = folding.finish (fold folding.write folding.initial writes) / 2 ^ 32

-- the places of lines, each with a hash of its line's key and with an amount
pub record AreHashed {K : Type 0} (eq : K → K → Bool) (key : UsageLine → K) (lines : List UsageLine)
    (places : List Hashed) : Type 0 where
  pub within : All (λ hashed. hashed.place < length lines) places
  pub small : All (λ hashed. unsigned_abs hashed.amount ≤ MOST_AMOUNT) places
  pub hash : K → ℕ
  pub alike : (x y : K) → eq x y ≡ true → hash x ≡ hash y
  pub each : All (λ hashed. hashed.hash ≡ hash (key (line_at lines hashed.place))) places

-- how two of them stand: by the hash, and where that is the same by the key
abbrev pub in_order_of_hash : {K : Type 0} → (K → K → Ordering) → (UsageLine → K) → List UsageLine → Hashed → Hashed
    → Ordering
in_order_of_hash cmp key lines hashed other =
    ordering_then (nat_cmp hashed.hash other.hash)
    (option_cmp cmp (option_map key (slice_get lines hashed.place)) (option_map key (slice_get lines other.place)))

-- each amount is of the key of the one before it, or of a key that had none before
abbrev pub StandTogether : {K : Type 0} → (K → K → Bool) → List (K × ℤ) → Type 0
StandTogether {K} eq amounts = (n : ℕ) (d : K × ℤ) → n + 1 < length amounts
    → (eq (slice_index_or amounts (n + 1) d).0 (slice_index_or amounts n d).0 ≡ true)
    ⊎ (amounts_at eq (slice_index_or amounts (n + 1) d).0 (take (n + 1) amounts) ≡ [])

-- Of amounts that stand together by key: the key at hand and what its amounts so far come to, and those before it.
pub record AreCounted {K : Type 0} (eq : K → K → Bool) (cmp : K → K → Ordering) (most : ℕ) (amounts : List (K × ℤ))
    (at_hand : K × Total) (ranked : Ranked K) : Type 0 where
  pub before : List (K × Total)
  pub totals : AreTotals eq amounts (at_hand ∷ before)
  pub greatest : AreFirst (by_money cmp) most before ranked.first.items
  pub count : ranked.count ≡ length before
