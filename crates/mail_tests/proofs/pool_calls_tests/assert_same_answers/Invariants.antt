use Rattle.std.specs.Prelude.{vec_len}
use Rattle.mail_tests.proofs.pool_calls_tests.assert_same_answers.Given as goal

abbrev pub decreases-loop-inbox : goal.decreases-loop-inbox
decreases-loop-inbox g l = vec_len l.inboxes
