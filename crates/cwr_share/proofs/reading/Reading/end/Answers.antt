use Rattle.std.proofs.Common.{◌∙◌, Some, arith, sym}
use Rattle.std.proofs.lemmas.Result.{on_ok_weaker}
use Rattle.cwr_share.proofs.FileLemmas.{ended_by, open_kept, read_at}
use Rattle.cwr_share.proofs.reading.Reading.end.Goals as goal

pub put-requires : goal.put-requires
put-requires c =
    let kept = open_kept c.requires.0 c.args.self.now c.in-Some.open (sym c.take.ensures.value ∙ c.in-Some.is) c.requires.1 in
    record { short = omega (arith, kept.0); sound = kept.1 }

pub returns-in-Some : goal.returns-in-Some
returns-in-Some c =
    on_ok_weaker c.put.result
    (λ found. (
      c.take.ensures.after,
      λ before read. ended_by before c.args.self.now c.put.new.self c.in-Some.open
          (read_at before c.args.self.now (Some c.in-Some.open) (sym c.take.ensures.value ∙ c.in-Some.is) read) found,
    )) c.put.ensures
