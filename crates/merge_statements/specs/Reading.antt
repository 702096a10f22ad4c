-- A text that is read line by line.
use Rattle.std.specs.Prelude.{ℕ, ◌≡◌, ◌≤◌, ◌<◌, List, Option, IfSome, false, length, take}
use Rattle.std.specs.List.{list_any}
use Rattle.merge_statements.specs.Buffered.{is_feed}
use Rattle.merge_statements.specs.declared.read_fault.ReadFault.{ReadFault}
use Rattle.merge_statements.specs.declared.read_fault.ReadFault.TheVariants.{Refused, TooLong, Unended}

-- the line at hand, without its line feed, and the bytes yet to come, where these are known
pub record Reading : Type 0 where
  pub line : List ℕ
  pub left : Option (List ℕ)

-- Why no line comes next of the bytes that are left. Nothing is claimed of a read that was refused.
abbrev pub IsFaultOf : Option (List ℕ) → ReadFault → Type 0
IsFaultOf left (Refused error) = Unit {0}
IsFaultOf left Unended = IfSome left (λ text. (0 < length text) × (list_any is_feed text ≡ false))
IsFaultOf left TooLong = IfSome left (λ text. (32768 ≤ length text) × (list_any is_feed (take 32768 text) ≡ false))
