-- Sums of files as `sha256sum` writes them and `sha256sum -c` reads them, below comments, which it passes over.
use Rattle.std.specs.Prelude.{ℕ, ◌≡◌, ◌≢◌, ◌+◌, ◌≤◌, ◌<◌, ◌++◌, ◌∷◌, [], All, List, flat_map, length}
use Rattle.hex.specs.Hex.{encode_lower}

-- ---- lines

-- a byte other than the line feed and the carriage return
abbrev pub IsWithinLine : ℕ → Type 0
IsWithinLine byte = (byte ≢ 10) × (byte ≢ 13)

-- one that `sha256sum` writes in a path as it stands: no backslash either, and no zero, with which a path ends
abbrev pub IsPathByte : ℕ → Type 0
IsPathByte byte = IsWithinLine byte × (byte ≢ 92) × (byte ≢ 0)

-- A path that a line of a sum can name. `-` is no file's name there, but that of the standard input.
pub record FitsInLine (path : List ℕ) : Type 0 where
  pub some : 0 < length path
  pub short : length path ≤ 4096
  pub bytes : All IsPathByte path
  pub named : path ≢ 45 ∷ []

-- a text that a comment can have
abbrev pub FitsInComment : List ℕ → Type 0
FitsInComment text = All IsWithinLine text

-- the sum of a file, and its path
pub record Sum : Type 0 where
  pub digest : List ℕ
  pub path : List ℕ

-- `DIGEST  PATH`, the digest with lower case digits
abbrev pub line_of : Sum → List ℕ
line_of sum = encode_lower sum.digest ++ 32 ∷ 32 ∷ sum.path ++ 10 ∷ []

-- `# TEXT`
abbrev pub comment_line : List ℕ → List ℕ
comment_line text = 35 ∷ 32 ∷ text ++ 10 ∷ []

-- a digest of 32 bytes, and a path that fits
pub record IsSum (sum : Sum) : Type 0 where
  pub size : length sum.digest ≡ 32
  pub bytes : All (λ byte. byte < 256) sum.digest
  pub path : FitsInLine sum.path

-- ---- texts

-- comments, and below them the sums of files
pub record Seal : Type 0 where
  pub comments : List (List ℕ)
  pub sums : List Sum

-- all of them as lines
abbrev pub text_of_seal : Seal → List ℕ
text_of_seal seal = flat_map comment_line seal.comments ++ flat_map line_of seal.sums

-- how many lines these are
abbrev pub lines_in : Seal → ℕ
lines_in seal = length seal.comments + length seal.sums

-- all of them fit
pub record IsSeal (seal : Seal) : Type 0 where
  pub comments : All FitsInComment seal.comments
  pub sums : All IsSum seal.sums

-- The first line of a text that cannot stand where it does, by its number, from 1: what stands before it is the text of
-- a seal, and no longer beginning of the text is that of one.
pub record IsFaultIn (text : List ℕ) (line : ℕ) : Type 0 where
  pub before : Seal
  pub rest : List ℕ
  pub sound : IsSeal before
  pub bytes : text ≡ text_of_seal before ++ rest
  pub some : 0 < length rest
  pub number : line ≡ lines_in before + 1
  pub longest : (other : Seal) (behind : List ℕ) → IsSeal other → text ≡ text_of_seal other ++ behind
      → length (text_of_seal other) ≤ length (text_of_seal before)
