use Rattle.std.proofs.Common.{ℕ, ◌+◌, ◌≤◌, arith, length, subst}
use Rattle.line_split.specs.UsageParts.{IsBehind}
use Rattle.line_split.specs.declared.TheConstants.{MOST_LINES}
use Rattle.line_split.proofs.KeptLemmas.{joined_keep, lines_append}
use Rattle.line_split.proofs.UsageRows.{both, fault_behind, too_many}
use Rattle.line_split.proofs.usage.joined.Goals as goal

pub returns-in-Err-clause-fault : goal.returns-in-Err-clause-fault
returns-in-Err-clause-fault c = λ rows more are lines fault.
    fault_behind rows c.args.first are more c.in-Err.fault c.behind.result (subst (λ (k : ℕ). IsBehind k c.in-Err.fault c.behind.result) c.len-before.ensures.lines c.behind.ensures) (rw c.in-Err.is at fault)

pub returns-then-len-before-clause-fault : goal.returns-then-len-before-clause-fault
returns-then-len-before-clause-fault c = λ rows more are lines fault.
    too_many rows c.args.first are more c.in-Ok.second (rw c.in-Ok.is at lines) (omega (arith, c.if-len-before.true, c.len.ensures.lines, c.len-before.ensures.lines, c.len-before.ensures.few))

pub invariant_of-result : goal.invariant_of-result
invariant_of-result c =
    let names = c.in_ok-append.ensures.items in
    let details = c.in_ok-append-2.ensures.items in
    let first = c.first.invariant in
    let second = c.second.invariant in
    let few : length c.args.first + length c.in-Ok.second ≤ MOST_LINES = omega (arith, c.if-len-before.false, c.len.ensures.lines, c.len-before.ensures.lines, c.len-before.ensures.few) in
    rw (names, details) (joined_keep c.first.inside.names.items c.second.inside.names.items c.first.inside.details.items c.second.inside.details.items first.0 second.0 first.1 second.1 (rw (← c.first.view_is, ← c.second.view_is) at few))

pub returns-clause-lines : goal.returns-clause-lines
returns-clause-lines c = λ rows more are lines.
    let names = c.in_ok-append.ensures.items in
    let details = c.in_ok-append-2.ensures.items in
    let few : length c.args.first + length c.in-Ok.second ≤ MOST_LINES = omega (arith, c.if-len-before.false, c.len.ensures.lines, c.len-before.ensures.lines, c.len-before.ensures.few) in
    let all = both rows c.args.first are more c.in-Ok.second (rw c.in-Ok.is at lines) few in
    rw (names, details, lines_append c.first.inside.names.items c.second.inside.names.items c.first.inside.details.items c.second.inside.details.items c.first.invariant.0) (rw (← c.first.view_is, ← c.second.view_is) at all)
