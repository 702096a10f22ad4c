use Rattle.std.proofs.Common.{◌≡◌, ◌∙◌, ◌+◌, ◌<◌, List, ap, arith, get_or, length, subst, sym}
use Rattle.std.proofs.lemmas.List.{get_or_default}
use Rattle.cwr_share.specs.Lines.{lines_of}
use Rattle.linked_works.specs.declared.works.WorksRow.{WorksRow}
use Rattle.explain_line.proofs.LookedLemmas.{Found, SoFar, none_row, other_row, its_row}
use Rattle.explain_line.proofs.submitted_files.look_at.Goals.{then-rows-at+in_ok-filed_registration, else-rows-at}
use Rattle.explain_line.proofs.submitted_files.look_at.Goals as goal

pub loop-at-preserved : goal.loop-at-preserved
loop-at-preserved c =
    let place = c.args.place in
    let lines = lines_of c.args.text.now in
    let rows = c.args.rows.now in
    let at = c.loop-at.at in
    let old = c.args.filed.now.items in
    let mid = c.loop-at.filed.items in
    let within = c.loop-at-test.true in
    let row : WorksRow = get_or rows at none_row in
    let here : get_or rows at row ≡ row = get_or_default rows at row none_row within in
    let room : at < length mid = omega (arith, within, c.loop-at.invariant.found.all, c.requires.room) in
    elim c.if-rows-at.branch [
      | then-rows-at+in_ok-filed_registration w ↦
          subst (λ (items : List Found). SoFar place lines rows (at + 1) old items) (sym (ap (λ (v : _). v.items) w.filed-is ∙ w.put_at.ensures))
          (its_row place lines rows at row old mid within here c.loop-at.invariant room w.if-rows-at.true w.in_ok-filed_registration.field-0 w.in_ok-filed_registration.ensures.filed)
      | else-rows-at w ↦
          subst (λ (items : List Found). SoFar place lines rows (at + 1) old items) (sym (ap (λ (v : _). v.items) w.filed-is))
          (other_row place lines rows at row old mid within here c.loop-at.invariant w.if-rows-at.false)
    ]
