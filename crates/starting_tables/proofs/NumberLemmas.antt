-- A field and what is left of it without spaces are no longer than the field.
use Rattle.std.proofs.Common.{◌≤◌, ◌-◌, ◌==◌, ◌∷◌, [], ℕ, Bool, true, false, List, arith, cond, drop, length, reverse}
use Rattle.std.proofs.lemmas.List.{length-reverse, length-take}
use Rattle.std.specs.List.{slice_range}
use Rattle.cwr_share.specs.Fields.{trimmed, without_spaces_before}

before_short : (text : List ℕ) → length (without_spaces_before text) ≤ length text
unfolding without_spaces_before
before_short [] = omega arith
before_short (byte ∷ rest) = by (byte == 32) (before_short rest)
  where
    by : (b : Bool) → length (without_spaces_before rest) ≤ length rest → length (cond b (without_spaces_before rest) (byte ∷ rest)) ≤ length (byte ∷ rest)
    by true so = omega (arith, so)
    by false so = omega arith

pub trimmed_short : (text : List ℕ) → length (trimmed text) ≤ length text
trimmed_short text =
    let inner = without_spaces_before text in
    omega (arith, before_short text, before_short (reverse inner), length-reverse inner, length-reverse (without_spaces_before (reverse inner)))

pub range_short : (first last : ℕ) (text : List ℕ) → length (slice_range text first last) ≤ last - first
range_short first last text = omega (arith, length-take (last - first) (drop first text))
