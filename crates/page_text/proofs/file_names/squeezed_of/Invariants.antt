use Rattle.std.proofs.Common.{◌≡◌, map, take}
use Rattle.page_text.specs.FileNames.{plain_or_dash, squeezed}
use Rattle.page_text.proofs.file_names.squeezed_of.Given as goal

abbrev pub invariant-loop-place : goal.invariant-loop-place
invariant-loop-place l = l.text.items ≡ squeezed 45 (map plain_or_dash (take l.place l.name))
