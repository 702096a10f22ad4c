use Rattle.std.proofs.Common.{List, ℕ, subst, sym}
use Rattle.cwr_share.specs.Filed.{AreShareRecords}
use Rattle.cwr_share.specs.Lines.{lines_of}
use Rattle.cwr_share.proofs.FiledLemmas.{records_after}
use Rattle.cwr_share.proofs.filed.filed_registration.Goals as goal

pub registration_after-requires-clause-sound : goal.registration_after-requires-clause-sound
registration_after-requires-clause-sound c =
    let found = c.in-Some.ensures in
    subst (λ (l : List (List ℕ)). AreShareRecords l) (sym found.after) (records_after (lines_of c.args.bytes.now) c.args.work.now c.in-Some.line c.requires found.found)
