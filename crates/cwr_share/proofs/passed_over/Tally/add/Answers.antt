use Rattle.std.proofs.Common.{◌∙◌, arith}
use Rattle.std.proofs.lemmas.List.{length_push}
use Rattle.cwr_share.proofs.PassedOverLemmas.{first_full, first_more}
use Rattle.cwr_share.proofs.passed_over.Tally.add.Goals as goal

pub returns-then-len-lt-MOST_NAMED : goal.returns-then-len-lt-MOST_NAMED
returns-then-len-lt-MOST_NAMED c numbers is = record {
  count = omega (arith, is.count, length_push numbers c.args.number);
  first = c.push.ensures.items ∙ first_more 10 numbers c.args.self.now.first.items c.args.number is.first (omega arith);
}

pub returns-else-len-lt-MOST_NAMED : goal.returns-else-len-lt-MOST_NAMED
returns-else-len-lt-MOST_NAMED c numbers is = record {
  count = omega (arith, is.count, length_push numbers c.args.number);
  first = first_full 10 numbers c.args.self.now.first.items c.args.number is.first (omega arith);
}
