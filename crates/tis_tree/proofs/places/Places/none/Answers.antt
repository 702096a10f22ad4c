use Rattle.std.proofs.Common.{◌/◌}
use Rattle.std.proofs.Math.ListN.{replicate}
use Rattle.tis_tree.specs.declared.places.TheConstants.{WORDS}
use Rattle.tis_tree.proofs.Bits.{no_bit, zero_word}
use Rattle.tis_tree.proofs.places.Places.none.Goals as goal

pub returns : goal.returns
returns c = λ place lt. no_bit (replicate WORDS 0) place (zero_word WORDS (place / 64))
