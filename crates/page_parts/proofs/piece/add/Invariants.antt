use Rattle.std.proofs.Common.{◌≡◌, ◌++◌, take}
use Rattle.page_parts.specs.Pieces.{pieces_text}
use Rattle.page_parts.proofs.piece.add.Given as goal

-- the pieces so far are added
abbrev pub invariant-loop-place : goal.invariant-loop-place
invariant-loop-place l = l.page.items ≡ l.initial.page.items ++ pieces_text l.decimals (take l.place l.pieces)
