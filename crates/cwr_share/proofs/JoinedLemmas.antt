-- Registrations as one list of share lines.
use Rattle.std.proofs.Common.{◌≡◌, ◌∙◌, ◌+◌, ◌-◌, ◌<◌, ◌≤◌, ◌∷◌, ◌++◌, [], ℕ, suc, List, All, IfSome, None, Option, Some, ap, arith, get_or, length, length-append, map, max, sym}
use Rattle.std.specs.Prelude.{fold}
use Rattle.std.specs.Option.{SomeIff}
use Rattle.std.proofs.Math.Nat.{le-max_left, le-max_right, max-eq_right}
use Rattle.std.proofs.lemmas.List.{get_or-map, length-map}
use Rattle.std.proofs.lemmas.List.Kept.{AllPairs-cons}
use Rattle.std.proofs.lemmas.List.Elements.{All-append, All-cons, All-map, All-nil, All-tail}
use Rattle.cwr_share.specs.Compiled.{InterestsRise}
use Rattle.cwr_share.specs.InForce.{AreShareLines}
use Rattle.cwr_share.specs.Joined.{followed_by, interests_in, of_submitter}
use Rattle.cwr_share.specs.Registered.{IsShareLine}
use Rattle.cwr_share.specs.Registrations.{ShareLine}
use Rattle.cwr_share.proofs.CompiledLemmas.{AllPairs-head, AllPairs-tail}

-- The greatest of numbers

fold_above : (a : ℕ) (ns : List ℕ) → a ≤ fold max a ns
fold_above a [] = omega arith
fold_above a (n ∷ ns) = omega (arith, le-max_left a n, fold_above (max a n) ns)

fold_bounds : (a : ℕ) (ns : List ℕ) → All (λ n. n ≤ fold max a ns) ns
fold_bounds a [] = All-nil (λ n. n ≤ a)
fold_bounds a (n ∷ ns) =
    All-cons (λ m. m ≤ fold max (max a n) ns) n ns (omega (arith, le-max_right a n, fold_above (max a n) ns)) (fold_bounds (max a n) ns)

-- the number behind an interest
abbrev pub behind : ShareLine → ℕ
behind line = line.interest + 1

-- each interest comes before the number behind all
pub below_interests : (lines : List ShareLine) → All (λ line. line.interest < interests_in lines) lines
below_interests lines k d within =
    let most = fold_bounds 0 (map behind lines) k (behind d) (omega (arith, within, length-map lines behind)) in
    omega (arith, rw (get_or-map behind lines k d (behind d) within) at most)

abbrev Upto : ShareLine → ShareLine → Type 0
Upto line later = line.interest ≤ later.interest

-- which the last line has, where interests do not fall
last_behind : (lines : List ShareLine) (a : ℕ) (d : ShareLine) → 0 < length lines → All (λ line. a ≤ behind line) lines → InterestsRise lines
    → fold max a (map behind lines) ≡ behind (get_or lines (length lines - 1) d)
last_behind [] a d some low rise = absurd (omega arith)
last_behind (line ∷ []) a d some low rise = max-eq_right (low 0 line (omega arith))
last_behind (line ∷ next ∷ later) a d some low rise =
    let most : max a (behind line) ≡ behind line = max-eq_right (low 0 line (omega arith)) in
    let place : length (line ∷ next ∷ later) - 1 ≡ suc (length (next ∷ later) - 1) = omega arith in
    let rest = last_behind (next ∷ later) (behind line) d (omega arith)
    (λ k e within. let after = AllPairs-head Upto line (next ∷ later) rise k e within in omega (arith, after))
    (AllPairs-tail Upto line (next ∷ later) rise) in
    ap (λ (n : ℕ). fold max n (map behind (next ∷ later))) most
    ∙ (rest ∙ ap (λ (p : ℕ). behind (get_or (line ∷ next ∷ later) p d)) (sym place))

pub interests_by_last : (lines : List ShareLine) (line : ShareLine) → 0 < length lines → InterestsRise lines → line ≡ get_or lines (length lines - 1) line
    → line.interest + 1 ≡ interests_in lines
interests_by_last lines line some rise is =
    ap behind is ∙ sym (last_behind lines 0 line some (λ k d within. omega arith) rise)

-- a number that is the one behind the last line, where it is a number at all
pub behind_last : (found : Option ℕ) (Fits : Type 0) (lines : List ShareLine) (line : ShareLine) (interest : ℕ) → 0 < length lines → InterestsRise lines
    → line ≡ get_or lines (length lines - 1) line → interest ≡ line.interest → SomeIff found Fits (interest + 1) → IfSome found (λ first. first ≡ interests_in lines)
behind_last None Fits lines line interest some rise is same found = tt
behind_last (Some first) Fits lines line interest some rise is same (fits, value) = value ∙ (ap (λ n. n + 1) same ∙ interests_by_last lines line some rise is)

-- Share lines behind others

module _ (submitter : List ℕ) (first : ℕ) where
  -- a share line stays one
  behind_sound : (line : ShareLine) → IsShareLine line → IsShareLine (of_submitter submitter first line)
  behind_sound line sound = record {
    party = omega (arith, length-append submitter (58 ∷ line.party));
    performing = sound.performing;
    mechanical = sound.mechanical;
    synchronisation = sound.synchronisation;
    territory = sound.territory;
  }

  -- interests that do not fall go on not falling
  behind_rises : (lines more : List ShareLine) → InterestsRise lines → InterestsRise more → All (λ line. line.interest < first) lines
      → InterestsRise (lines ++ map (of_submitter submitter first) more)
  behind_rises [] more rise rises low = λ i j d before within.
      let inside : j < length more = omega (arith, within, length-map more (of_submitter submitter first)) in
      let earlier : i < length more = omega (arith, before, inside) in
      let grows = rises i j d before inside in
      rw (get_or-map (of_submitter submitter first) more i d d earlier, get_or-map (of_submitter submitter first) more j d d inside) (omega (arith, grows))
  behind_rises (line ∷ lines) more rise rises low =
      AllPairs-cons Upto line (lines ++ map (of_submitter submitter first) more)
      (All-append (Upto line) lines (map (of_submitter submitter first) more) (AllPairs-head Upto line lines rise)
      (All-map (Upto line) (of_submitter submitter first) more (λ k d within. let least : line.interest < first = low 0 line (omega arith) in omega (arith, least))))
      (behind_rises lines more (AllPairs-tail Upto line lines rise) rises (All-tail (λ line. line.interest < first) line lines low))

-- what is behind others are share lines of one work
pub followed_sound : (lines : List ShareLine) (submitter : List ℕ) (more : List ShareLine) → AreShareLines lines → AreShareLines more → AreShareLines (followed_by lines (submitter, more))
followed_sound lines submitter more sound sounds = record {
  sound = All-append IsShareLine lines (map (of_submitter submitter (interests_in lines)) more) sound.sound
      (All-map IsShareLine (of_submitter submitter (interests_in lines)) more (λ k d within. behind_sound submitter (interests_in lines) (get_or more k d) (sounds.sound k d within)));
  rise = behind_rises submitter (interests_in lines) lines more sound.rise sounds.rise (below_interests lines);
}
