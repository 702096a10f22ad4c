use Rattle.std.proofs.Common.{◌<◌, ◌+◌, ap, length, rules, ◌∙◌}
use Rattle.file_sums.specs.Shown.{seal_shown}
use Rattle.file_sums.specs.Sums.{lines_in}
use Rattle.file_sums.proofs.SealLemmas.{fault_if_stuck}
use Rattle.file_sums.proofs.seal_text.read_seal.Goals as goal

pub returns-in_default-clause-refused : goal.returns-in_default-clause-refused
returns-in_default-clause-refused c =
    let some : 0 < length c.lines.rest.now = search rules in
    let stuck = rw c.in_default.is at c.in_ok-behind.ensures.stuck in
    let same = rw c.in_default.is at c.in_ok-behind.ensures.same in
    fault_if_stuck _ c.lines.rest.now (seal_shown c.lines.seal) _ c.lines.invariant.0 c.lines.invariant.1 some stuck
    (ap (λ n. n + 1) (c.lines-in_default.ensures.lines ∙ ap lines_in same))
