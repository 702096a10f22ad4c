use Rattle.std.proofs.Common.{◌≡◌, ◌≤◌, length}
use Rattle.tis_tree.specs.TisRows.{words_of}
use Rattle.tis_tree.proofs.words.first_word.Given as goal

abbrev pub invariant-loop-rest : goal.invariant-loop-rest
invariant-loop-rest l = (words_of l.text ≡ words_of l.rest) × (length l.rest ≤ length l.text)

abbrev pub decreases-loop-rest : goal.decreases-loop-rest
decreases-loop-rest l = length l.rest
