use Rattle.std.proofs.Common.{◌∙◌, ap, length, sym}
use Rattle.merge_statements.specs.Buffered.{waiting_of}
use Rattle.merge_statements.proofs.BufferLemmas.{full}
use Rattle.merge_statements.proofs.reader.RowReader.next.Goals as goal

pub returns-then-not-make_room-clause-fault : goal.returns-then-not-make_room-clause-fault
returns-then-not-make_room-clause-fault g c =
    let before = c.reads.self-inside in
    let same = c.make_room.ensures.kept ∙ ap waiting_of (c.take_line.ensures.kept c.if-take_line.false) in
    full 32768 c.args.self.now.left (g.R.Read.remaining before.from) (waiting_of before.buffer) c.reads.invariant.kept
    (ap length (sym same) ∙ c.make_room.ensures.full c.if-not-make_room.true) (c.take_line.ensures.none c.if-take_line.false)
