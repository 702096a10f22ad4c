-- The parties of lists of share lines and their payees, as they are gathered.
use Rattle.std.specs.Prelude.{ℕ, ◌≡◌, ◌≤◌, ◌<◌, ◌∷◌, ◌↔◌, ◌⊎◌, List, All, AllPairs, Contains, [], length, map, slice_index_or, Vec}
use Rattle.std.specs.BTreeSet.{BTreeSet}
use Rattle.std.specs.List.Sorted.{IsNonDecreasingBy, IsStrictlySortedBy}
use Rattle.std.specs.Cmp.Lexicographic.{slice_cmp}
use Rattle.std.specs.Ordering.{nat_cmp}
use Rattle.std.specs.declared.alloc.Global.{Global}
use Rattle.arrayvec.specs.ArrayVec.{ArrayVec}
use Rattle.cwr_share.specs.Payees.{payee_of}
use Rattle.cwr_share.specs.Registrations.{ShareLine}
use Rattle.cwr_share.specs.declared.TheConstants.{MOST_ACCOUNTS}

-- the texts in a set
abbrev pub texts_of : BTreeSet (Vec ℕ Global) → List (List ℕ)
texts_of set = map (λ text. text.items) set.keys

-- the texts of party numbers
abbrev pub texts_in : List (ArrayVec ℕ) → List (List ℕ)
texts_in numbers = map (λ number. number.items) numbers

-- the payees of these parties are among the texts
abbrev pub AreFound : List (List ℕ × List ℕ) → List (List ℕ) → List (ArrayVec ℕ) → Type 0
AreFound rows texts numbers = All (λ number. Contains texts (payee_of rows number.items)) numbers

-- none of the texts is empty
abbrev pub AreFilled : List (List ℕ) → Type 0
AreFilled texts = All (λ text. 0 < length text) texts

-- the texts before with those added are these
pub record HasAdded (before added texts : List (List ℕ)) : Type 0 where
  pub exact : (text : List ℕ) → Contains texts text ↔ (Contains before text ⊎ Contains added text)

-- the party of a share line
abbrev pub party_of : ShareLine → List ℕ
party_of line = line.party

-- and its payee
abbrev pub payee_by : List (List ℕ × List ℕ) → ShareLine → List ℕ
payee_by rows line = payee_of rows line.party

-- a share line of one of the lists has the text
abbrev pub IsAmong : (text_of : ShareLine → List ℕ) → List (List ShareLine) → List ℕ → Type 0
IsAmong text_of lists text = (lines : List ShareLine) × Contains lists lines × Contains (map text_of lines) text

-- the texts are those of the lists
pub record AreAllOf (text_of : ShareLine → List ℕ) (lists : List (List ShareLine)) (texts : List (List ℕ)) : Type 0 where
  pub exact : (text : List ℕ) → Contains texts text ↔ IsAmong text_of lists text

-- the account of a payee; that of the residue is not one
abbrev pub IsAccountOf : (payees : List (List ℕ)) → (payee : List ℕ) → (account : ℕ) → Type 0
IsAccountOf payees payee account = (0 < account) × (account < length payees) × (slice_index_or payees account [] ≡ payee)

-- The payees of the lists by account, each once and in byte order, where the residue's account has no text;
-- and the parties of the lists, each once, with the account of its payee, in order of account.
pub record AreAccountsOf (rows : List (List ℕ × List ℕ)) (lists : List (List ShareLine)) (parties : List (List ℕ × ℕ)) (payees : List (List ℕ)) : Type 0 where
  pub names : List (List ℕ)
  pub accounts : payees ≡ [] ∷ names
  pub rising : IsStrictlySortedBy (slice_cmp nat_cmp) payees
  pub few : length names ≤ MOST_ACCOUNTS
  pub exact : AreAllOf (payee_by rows) lists names
  pub once : AllPairs (λ party later. ¬ (party.0 ≡ later.0)) parties
  pub each : AreAllOf party_of lists (map (λ party. party.0) parties)
  pub paid : All (λ party. IsAccountOf payees (payee_of rows party.0) party.1) parties
  pub ordered : IsNonDecreasingBy (λ party. party.1) parties

-- the lists have more than 16,383 payees
abbrev pub HasMany : List (List ℕ × List ℕ) → List (List ShareLine) → Type 0
HasMany rows lists = (payees : List (List ℕ)) × IsStrictlySortedBy (slice_cmp nat_cmp) payees × All (IsAmong (payee_by rows) lists) payees × (MOST_ACCOUNTS < length payees)
