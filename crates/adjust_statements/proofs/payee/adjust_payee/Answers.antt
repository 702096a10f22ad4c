use Rattle.std.proofs.Common.{◌≡◌, ◌∙◌, ◌+◌, arith, subst, sym}
use Rattle.std.proofs.lemmas.Slice.Eq.{bytes_eq-Decides}
use Rattle.merge_statements.proofs.Counting.{portions_counted}
use Rattle.merge_statements.specs.Statements.{IsCount}
use Rattle.merge_statements.specs.SoFar.{output}
use Rattle.adjust_statements.proofs.EndLemmas.{many_refused, paid_refused, right_refused}
use Rattle.adjust_statements.proofs.PayeeLemmas.{takes_read}
use Rattle.adjust_statements.proofs.WroteLemmas.{equal_rows}
use Rattle.adjust_statements.specs.Refused.{IsRefusalFor}
use Rattle.adjust_statements.specs.SoFar.{RefusesRead}
use Rattle.adjust_statements.proofs.payee.adjust_payee.Goals as goal

pub returns-in-Err-clause-refused : goal.returns-in-Err-clause-refused
returns-in-Err-clause-refused g c =
    subst (RefusesRead c.args.texts.now.paid c.args.texts.now.right) (sym c.refused.ensures) (paid_refused c.args.texts.now.paid c.args.texts.now.right c.in-Err.refusal c.in-Err.ensures.refused)

pub returns-in-Err-take_portions-clause-refused : goal.returns-in-Err-take_portions-clause-refused
returns-in-Err-take_portions-clause-refused g c =
    subst (RefusesRead c.args.texts.now.paid c.args.texts.now.right) (sym c.refused-in-Err-take_portions.ensures)
    (right_refused c.args.texts.now.paid c.args.texts.now.right c.in-Err-take_portions.refusal c.in-Err-take_portions.ensures.refused)

pub returns-then-has_too_many-clause-refused : goal.returns-then-has_too_many-clause-refused
returns-then-has_too_many-clause-refused g c = λ paid_start right_start paid_read right_read.
    let paid = c.in-Ok.ensures.taken in
    let right = c.in-Ok-take_portions.ensures.taken in
    subst (IsRefusalFor paid_start right_start) (sym c.refused-then-has_too_many.ensures)
    (many_refused paid_start right_start c.take_portions.new.part c.take_portions-2.new.part
    (takes_read c.args.payee.now c.args.texts.now.paid c.take_portions.new.part paid.portions paid.taken paid_start paid_read)
    (takes_read c.args.payee.now c.args.texts.now.right c.take_portions-2.new.part right.portions right.taken right_start right_read)
    (c.has_too_many.ensures.many c.if-has_too_many.true))

pub returns-then-eq-clause-adjusted : goal.returns-then-eq-clause-adjusted
returns-then-eq-clause-adjusted g c =
    let paid = c.in-Ok.ensures.taken in
    let right = c.in-Ok-take_portions.ensures.taken in
    let same : c.take_portions.new.rows.items ≡ c.take_portions-2.new.rows.items =
    sym c.as_slice.ensures.value ∙ (bytes_eq-Decides c.as_slice.result.now c.as_slice-2.result.now).0 (sym c.eq.ensures ∙ c.if-eq.true) ∙ c.as_slice-2.ensures.value in
    record {
      paid = paid.portions;
      right = right.portions;
      paid_taken = paid.taken;
      right_taken = right.taken;
      read = c.has_too_many.ensures.few c.if-has_too_many.false;
      wrote = equal_rows c.args.payee.now paid.portions right.portions c.take_portions.new.rows.items c.take_portions-2.new.rows.items (output g.W.Write.contents c.args.out.now c.args.page.now)
          c.requires paid.sound right.sound paid.is right.is same;
    }

pub write_payee-requires : goal.write_payee-requires
write_payee-requires g c =
    let paid = c.in-Ok.ensures.taken in
    let right = c.in-Ok-take_portions.ensures.taken in
    let counts = (portions_counted c.args.payee.now).counts in
    let read : IsCount (c.take_portions.new.part.at.portions + c.take_portions-2.new.part.at.portions) = c.has_too_many.ensures.few c.if-has_too_many.false in (
      paid.portions,
      right.portions,
      record {
        name = c.requires;
        paid_sound = paid.sound;
        right_sound = right.sound;
        paid_is = paid.is;
        right_is = right.is;
        few = omega (arith, read, counts c.args.texts.now.paid c.take_portions.new.part paid.portions paid.taken, counts c.args.texts.now.right c.take_portions-2.new.part right.portions right.taken);
      },
    )

pub returns-in-Ok-write_payee-clause-adjusted : goal.returns-in-Ok-write_payee-clause-adjusted
returns-in-Ok-write_payee-clause-adjusted g c =
    let paid = c.in-Ok.ensures.taken in
    let right = c.in-Ok-take_portions.ensures.taken in
    let counts = (portions_counted c.args.payee.now).counts in
    let read : IsCount (c.take_portions.new.part.at.portions + c.take_portions-2.new.part.at.portions) = c.has_too_many.ensures.few c.if-has_too_many.false in
    record {
      paid = paid.portions;
      right = right.portions;
      paid_taken = paid.taken;
      right_taken = right.taken;
      read = read;
      wrote = c.in-Ok-write_payee.ensures.written paid.portions right.portions record {
        name = c.requires;
        paid_sound = paid.sound;
        right_sound = right.sound;
        paid_is = paid.is;
        right_is = right.is;
        few = omega (arith, read, counts c.args.texts.now.paid c.take_portions.new.part paid.portions paid.taken, counts c.args.texts.now.right c.take_portions-2.new.part right.portions right.taken);
      };
    }
