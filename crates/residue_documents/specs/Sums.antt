-- What is held back for a reason, in figures.
use Rattle.std.specs.Prelude.{ℕ, ℤ, List, length}
use Rattle.payee_portions.specs.Portions.{Portion}
use Rattle.payee_portions.specs.Sections.{sections_of}
use Rattle.payee_portions.specs.Sums.{sum_of}
use Rattle.residue_documents.specs.declared.sums.HeldSum as kept

-- how many lines, of how many works, and what is held back of them
pub record HeldSum : Type 0 where
  pub lines : ℕ
  pub works : ℕ
  pub amount : ℤ

-- as it is kept
abbrev pub sum_shown : kept.HeldSum → HeldSum
sum_shown sum = record { lines = sum.lines; works = sum.works; amount = sum.amount }

-- of the portions that have the reason
abbrev pub held_sum : List Portion → HeldSum
held_sum list = record { lines = length list; works = length (sections_of list); amount = sum_of list }
