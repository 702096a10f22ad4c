use Rattle.block_draw.proofs.Openings.{counter_opens}
use Rattle.block_draw.proofs.draw.Draw.open.Goals as goal

pub of_words-requires : goal.of_words-requires
of_words-requires c = counter_opens record { blocks = c.args.blocks; drawers = c.args.drawers } record { blocks = c.requires.blocks; drawers = c.requires.drawers }
