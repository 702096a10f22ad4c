use Rattle.std.proofs.Common.{◌∙◌}
use Rattle.check_inputs.specs.Report.{cwr_line}
use Rattle.check_inputs.proofs.Telling.{told_whole}
use Rattle.check_inputs.proofs.reading.read_in_force.Goals as goal

pub returns : goal.returns
returns c =
    let path = c.args.path.now in
    let told = c.in_ok-told.told in
    let all = c.in_ok-told.ensures.read in (
      all.out,
      record { kept = all.kept; end = all.end; read = all.way; in_force = c.in_ok-in_force.ensures all.kept all.is_read; once = c.len-each_once.ensures.once },
      told_whole (cwr_line path) path told.text.items c.close.new.self.text.items told.count all.out all.told (rw c.in_ok-told.ensures.path at c.in_ok-close.ensures.text),
      c.close.ensures.count ∙ all.told.all,
    )
