-- Files that are summed while they are read or written.
use Rattle.std.specs.Prelude.{ℕ, List, Option}

-- what was read so far, and what is left, where that is known
pub record BeingRead : Type 0 where
  pub read : List ℕ
  pub left : Option (List ℕ)

-- what was written so far, and what the file has, where that is known
pub record BeingWritten : Type 0 where
  pub written : List ℕ
  pub has : Option (List ℕ)
