use Rattle.std.proofs.Common.{◌≡◌, ◌++◌, take}
use Rattle.page_text.specs.Styled.{styled}
use Rattle.page_text.proofs.styled.add_styled.Given as goal

abbrev pub invariant-loop-place : goal.invariant-loop-place
invariant-loop-place l = l.page.items ≡ l.initial.page.items ++ styled (take l.place l.text)
