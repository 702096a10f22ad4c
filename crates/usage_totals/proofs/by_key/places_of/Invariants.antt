use Rattle.std.proofs.Common.{◌≡◌, ◌<◌, ◌≤◌, ℤ, filter, length, map, take, unsigned_abs}
use Rattle.std.specs.Prelude.{Bool}
use Rattle.std.specs.List.{All}
use Rattle.line_split.specs.UsageLine.{UsageLine}
use Rattle.line_split.specs.declared.TheConstants.{MOST_AMOUNT}
use Rattle.usage_totals.specs.SoFar.{counted_at, hash_by, line_at, picked, with_amount}
use Rattle.usage_totals.specs.declared.by_key.Hashed.{Hashed}
use Rattle.usage_totals.proofs.by_key.places_of.Given as goal

-- the places so far
abbrev pub invariant-loop-place : goal.invariant-loop-place
invariant-loop-place g l = record {
  within : All (λ (hashed : Hashed). hashed.place < length l.usage) l.places.items;
  small : All (λ (hashed : Hashed). unsigned_abs hashed.amount ≤ MOST_AMOUNT) l.places.items;
  each : All (λ (hashed : Hashed). hashed.hash ≡ hash_by (g.K.Hash.hash_input (g.K.Key.key (line_at l.usage hashed.place)))) l.places.items;
  few : length l.places.items ≤ l.place;
  lines : (counts : UsageLine → Bool) (amount : UsageLine → ℤ) → l.amounts ≡ map (picked counts amount) l.usage
      → map (counted_at l.usage) l.places.items ≡ map (with_amount amount) (filter counts (take l.place l.usage));
}
