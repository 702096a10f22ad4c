use Rattle.std.proofs.Common.{◌≡◌, ◌<◌, ℕ, Bool, length, slice_index_or, take}
use Rattle.std.specs.Prelude.{◌&&◌, nat_eq}
use Rattle.std.specs.List.{list_any}
use Rattle.usage_totals.specs.RepeatsSoFar.{is_repeated_at, place_in}
use Rattle.usage_totals.proofs.repeats.marks.Given as goal

-- the marks of the places so far
abbrev pub invariant-loop-next : goal.invariant-loop-next
invariant-loop-next l = record {
  long : length l.repeated.items ≡ length l.usage;
  each : (place : ℕ) (d : Bool) → place < length l.usage
      → slice_index_or l.repeated.items place d ≡ (list_any (λ hashed. nat_eq place (place_in hashed)) (take l.next l.order) && is_repeated_at l.usage place);
}
