-- What a program has in hand of a text of sums, and why it has none.
use Rattle.std.specs.Prelude.{ℕ, List, Option, Some, None, map, ⊤}
use Rattle.file_sums.specs.Sums.{IsFaultIn, Seal, Sum}
use Rattle.file_sums.specs.declared.seal_fault.SealFault.{SealFault}
use Rattle.file_sums.specs.declared.seal_fault.SealFault.TheVariants.{Line, Memory}
use Rattle.file_sums.specs.declared.seal_text.FileSum.{FileSum}
use Rattle.file_sums.specs.declared.seal_text.SealText.{SealText}

-- the sum of a file
abbrev pub sum_shown : FileSum → Sum
sum_shown sum = record { digest = sum.digest; path = sum.path.items }

-- a text of sums
abbrev pub seal_shown : SealText → Seal
seal_shown text = record {
  comments = map (λ comment. comment.items) text.comments.items;
  sums = map sum_shown text.sums.items;
}

-- what it is refused for: its first line that cannot stand there. Nothing is claimed of lack of memory.
abbrev pub IsRefusedFor : List ℕ → SealFault → Type 0
IsRefusedFor text (Line line) = IsFaultIn text line
IsRefusedFor text Memory = ⊤

-- the fault's number
abbrev pub number_of_fault : SealFault → ℕ
number_of_fault (Line line) = 1
number_of_fault Memory = 2

-- the line's number, where the fault is one line's
abbrev pub place_of_fault : SealFault → Option ℕ
place_of_fault (Line line) = Some line
place_of_fault Memory = None
