use Rattle.std.proofs.Common.{◌≡◌, ◌∙◌, arith, drop, take}
use Rattle.std.proofs.lemmas.Bool.{ltb-false}
use Rattle.std.proofs.lemmas.List.{append-nil}
use Rattle.merge_statements.specs.Buffered.{waiting_of}
use Rattle.merge_statements.proofs.BufferLemmas.{goes_on, grown_part, keeps_grown, keeps_same, same_part}
use Rattle.merge_statements.proofs.buffer.Buffer.fill.Goals as goal

pub returns-in-Ok-clause-kept : goal.returns-in-Ok-clause-kept
returns-in-Ok-clause-kept g c =
    let old = c.args.self.now in
    let new = c.read_behind.new.bytes.items in
    keeps_grown _ _ (waiting_of old) _ (take c.in-Ok.more (drop old.filled new)) c.in-Ok.ensures.read
    (grown_part old.bytes.items new old.filled old.at c.in-Ok.more (omega arith) c.read_behind.ensures.front)

pub returns-in-Ok-clause-end : goal.returns-in-Ok-clause-end
returns-in-Ok-clause-end g c = λ over.
    let old = c.args.self.now in
    let new = c.read_behind.new.bytes.items in
    let none : c.in-Ok.more ≡ 0 = omega (arith, ltb-false 0 c.in-Ok.more over) in (
      c.in-Ok.ensures.end none,
      grown_part old.bytes.items new old.filled old.at c.in-Ok.more (omega arith) c.read_behind.ensures.front ∙ rw none (append-nil (waiting_of old)),
    )

pub returns-in-Ok-clause-line : goal.returns-in-Ok-clause-line
returns-in-Ok-clause-line g c =
    let old = c.args.self.now in
    same_part old.bytes.items c.read_behind.new.bytes.items old.filled old.start old.end (omega arith) (omega arith) c.read_behind.ensures.front

pub returns-in-Err-clause-kept : goal.returns-in-Err-clause-kept
returns-in-Err-clause-kept g c =
    let old = c.args.self.now in
    keeps_same _ _ (waiting_of old) _ c.in-Err.ensures.kept
    (same_part old.bytes.items c.read_behind.new.bytes.items old.filled old.at old.filled (omega arith) (omega arith) c.read_behind.ensures.front)

pub returns-in-Err-clause-end : goal.returns-in-Err-clause-end
returns-in-Err-clause-end g c = goes_on _ c.unless_interrupted.result c.unless_interrupted.ensures

pub returns-in-Err-clause-line : goal.returns-in-Err-clause-line
returns-in-Err-clause-line g c =
    let old = c.args.self.now in
    same_part old.bytes.items c.read_behind.new.bytes.items old.filled old.start old.end (omega arith) (omega arith) c.read_behind.ensures.front
