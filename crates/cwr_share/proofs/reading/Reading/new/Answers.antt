use Rattle.std.proofs.Common.{None, refl}
use Rattle.cwr_share.proofs.FileLemmas.{read_start}
use Rattle.cwr_share.proofs.reading.Reading.new.Goals as goal

pub returns : goal.returns
returns c =
    read_start record { in_force = c.none.result; «open» = None } refl c.none.ensures
