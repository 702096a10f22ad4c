-- When the words of a division are refused, and for what.
use Rattle.std.specs.Prelude.{ℕ, ◌≡◌, ◌≤◌, ◌<◌, List, length, All, Option, Some, None}
use Rattle.line_split.specs.FirstPlace.{IsFirstPlace}
use Rattle.line_split.specs.declared.TheConstants.{MOST_CLAIMS, FULL_SHARE}
use Rattle.pair_split.specs.Pair.{IsPair, party_of, share_of, word_at}
use Rattle.pair_split.specs.declared.pair_fault.PairFault.{PairFault}
use Rattle.pair_split.specs.declared.pair_fault.PairFault.TheVariants.{Pair, Name, Share, Many, Memory}

-- the word at i is no pair
abbrev pub IsMalformed : List (List ℕ) → ℕ → Type 0
IsMalformed words i = (i < length words) × (¬ IsPair (word_at words i))

-- the party of the word at i is that of an earlier word too
abbrev pub IsNamedBefore : List (List ℕ) → ℕ → Type 0
IsNamedBefore words i = (i < length words)
    × ((j : ℕ) × (j < i) × (party_of (word_at words j) ≡ party_of (word_at words i)))

-- the share of the word at i is over 100.00 per cent
abbrev pub IsTooLarge : List (List ℕ) → ℕ → Type 0
IsTooLarge words i = (i < length words) × (FULL_SHARE < share_of (word_at words i))

-- What the words are refused for: too many of them come first, then the first that is no pair, then the first party that came before,
-- then the first share that is too large. Memory is asked for before the shares are looked at.
abbrev pub IsFaultOf : List (List ℕ) → PairFault → Type 0
IsFaultOf words Many = MOST_CLAIMS < length words
IsFaultOf words (Pair place) = (length words ≤ MOST_CLAIMS) × IsFirstPlace (IsMalformed words) place
IsFaultOf words (Name place) =
    (length words ≤ MOST_CLAIMS) × All IsPair words × IsFirstPlace (IsNamedBefore words) place
IsFaultOf words (Share place) =
    (length words ≤ MOST_CLAIMS) × All IsPair words × ((i : ℕ) → ¬ IsNamedBefore words i) × IsFirstPlace (IsTooLarge words) place
IsFaultOf words Memory =
    (length words ≤ MOST_CLAIMS) × All IsPair words × ((i : ℕ) → ¬ IsNamedBefore words i)

-- nothing is wrong with the words
pub record AreSound (words : List (List ℕ)) : Type 0 where
  pub few : length words ≤ MOST_CLAIMS
  pub pairs : All IsPair words
  pub named_once : (i : ℕ) → ¬ IsNamedBefore words i
  pub small : (i : ℕ) → ¬ IsTooLarge words i

-- the fault's number
abbrev pub number_of_fault : PairFault → ℕ
number_of_fault (Pair place) = 1
number_of_fault (Name place) = 2
number_of_fault (Share place) = 3
number_of_fault Many = 4
number_of_fault Memory = 5

-- the word's place, where the fault is one word's
abbrev pub place_of_fault : PairFault → Option ℕ
place_of_fault (Pair place) = Some place
place_of_fault (Name place) = Some place
place_of_fault (Share place) = Some place
place_of_fault Many = None
place_of_fault Memory = None
