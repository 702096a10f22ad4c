use Rattle.std.proofs.Common.{sym}
use Rattle.cwr_share.proofs.PayeeLemmas.{payee_of_itself}
use Rattle.explain_line.proofs.claimed.payee_by.Goals as goal

pub returns-in-None : goal.returns-in-None
returns-in-None c = sym (payee_of_itself c.args.registry.now.payees c.args.party.now c.in-None.ensures.none)
