use Rattle.std.specs.Prelude.{vec_len}
use Rattle.mail_tests.proofs.pool_calls_tests.empty_out.Given as goal

abbrev pub decreases-loop-rt : goal.decreases-loop-rt
decreases-loop-rt g l = vec_len l.inbox.taken
