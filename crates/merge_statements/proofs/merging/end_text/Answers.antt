use Rattle.std.proofs.Common.{ap}
use Rattle.merge_statements.specs.SoFar.{output}
use Rattle.merge_statements.specs.Places.{At}
use Rattle.merge_statements.proofs.Endings.{ending_written}
use Rattle.merge_statements.proofs.merging.end_text.Goals as goal

pub finish-requires : goal.finish-requires
finish-requires g c = ap (λ (at : At). at.place) c.in_ok-sum.ensures.written.at

pub returns-clause-written : goal.returns-clause-written
returns-clause-written g c =
    ending_written c.args.part.now c.pass_rests.new.self c.finish.new.self (output g.W.Write.contents c.args.out.now c.args.page.now)
    (output g.W.Write.contents c.pass_rests.new.out c.pass_rests.new.page) c.in_ok-sum.sum.0 c.in_ok-sum.sum.1 c.in_ok-lines.lines c.in_ok-sum.ensures.written c.in_ok-sum.ensures.reads
    c.in_ok-lines.ensures.ended c.in_ok-lines.ensures.reads
