-- The words PARTY=SHARE of the command line, as bytes.
use Rattle.std.specs.Prelude.{ℕ, ◌≤◌, ◌<◌, ◌==◌, List, length, map, All, Contains, [], slice_index_or}
use Rattle.std.specs.List.{before_first, after_first, enumerate_from}
use Rattle.std.specs.Char.{IsAsciiDigit}
use Rattle.std.specs.Str.Parse.{digits_value}
use Rattle.csv_table.specs.Forms.{IsPrintableByte}
use Rattle.pair_split.specs.declared.pair.TheConstants.{SEPARATOR, MOST_PARTY_BYTES, MOST_SHARE_DIGITS}

-- what stands before the first `=`, and after it
abbrev pub party_of : List ℕ → List ℕ
party_of word = before_first (λ byte. byte == SEPARATOR) word

abbrev pub digits_of : List ℕ → List ℕ
digits_of word = after_first (λ byte. byte == SEPARATOR) word

-- the share, in hundredths of a per cent
abbrev pub share_of : List ℕ → ℕ
share_of word = digits_value 10 (digits_of word)

-- 1 to 9 printable ASCII bytes, a `=`, and one to five digits
pub record IsPair (word : List ℕ) : Type 0 where
  pub separated : Contains word SEPARATOR
  pub named : 0 < length (party_of word)
  pub short : length (party_of word) ≤ MOST_PARTY_BYTES
  pub printable : All IsPrintableByte (party_of word)
  pub numbered : 0 < length (digits_of word)
  pub few : length (digits_of word) ≤ MOST_SHARE_DIGITS
  pub digits : All IsAsciiDigit (digits_of word)

-- the word at a place
abbrev pub word_at : List (List ℕ) → ℕ → List ℕ
word_at words i = slice_index_or words i []

-- the claims that the words make: the k-th word's has account k
abbrev pub claims_of : List (List ℕ) → List (ℕ × ℕ)
claims_of words = map (λ e. (e.0, share_of e.1)) (enumerate_from 1 words)
