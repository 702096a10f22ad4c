use Rattle.std.proofs.Common.{◌≤◌, ◌+◌, ◌-◌, arith, length, sym}
use Rattle.merge_statements.specs.Buffered.{is_feed}
use Rattle.merge_statements.proofs.BufferLemmas.{first_part, part_length}
use Rattle.merge_statements.proofs.FieldLemmas.{none_before, none_found}
use Rattle.merge_statements.proofs.buffer.Buffer.take_line.Goals as goal

pub returns-in-Some-clause-whole : goal.returns-in-Some-clause-whole
returns-in-Some-clause-whole c = λ _.
    let found = c.in-Some.ensures in
    let waits = c.waiting.result.now in
    let none = none_before is_feed waits c.in-Some.size (omega (arith, found.0.high)) found.0.before in
    let over = c.args.self.now in
    let high : length waits ≤ over.filled - over.at = rw c.waiting.ensures (part_length over.bytes.items over.at over.filled) in
    rw (first_part over.bytes.items over.at c.in-Some.size over.filled (omega (arith, found.0.high, high))) (rw c.waiting.ensures at none)

pub returns-in-Some-clause-short : goal.returns-in-Some-clause-short
returns-in-Some-clause-short c = λ _.
    let found = c.in-Some.ensures in
    let waits = c.waiting.result.now in
    let over = c.args.self.now in
    let high : length waits ≤ over.filled - over.at = rw c.waiting.ensures (part_length over.bytes.items over.at over.filled) in
    omega (arith, part_length over.bytes.items over.at (over.at + c.in-Some.size), found.0.high, high)

pub returns-in-None-clause-none : goal.returns-in-None-clause-none
returns-in-None-clause-none c = λ _. rw (sym c.waiting.ensures) (none_found is_feed c.waiting.result.now c.in-None.ensures)
