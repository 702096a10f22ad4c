use Rattle.std.proofs.Common.{Some, refl}
use Rattle.check_inputs.proofs.Telling.{two_behind}
use Rattle.check_inputs.proofs.submitted_files.Pages.totals.Goals as goal

pub returns : goal.returns
returns c =
    let run = rw (c.as_str-path.ensures.value, c.as_str.ensures.value, c.as_str-2.ensures.value, c.len.ensures.lines) at c.in_ok-add_totals.ensures in
    let over = rw (c.as_str-path.ensures.value, c.as_slice.ensures.value) at c.in_ok-add_over.ensures in
    let further = rw c.as_str-path.ensures.value at c.in_ok-add_further_over.ensures in (
      Some c.in_ok-totals.totals,
      rw (c.if-not-self.false, c.in-Some.is) c.in_ok-totals.ensures,
      refl,
      rw c.in-Some.is (two_behind c.args.self.now.remarks.items c.add_totals.new.text.items c.add_further_over.new.text.items _ _ run
          (two_behind c.add_totals.new.text.items c.add_over.new.text.items c.add_further_over.new.text.items _ _ over further)),
    )
