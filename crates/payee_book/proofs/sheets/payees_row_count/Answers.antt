use Rattle.std.proofs.Common.{◌∙◌, ◌-◌, get_or, length, ap, refl, sym, arith, []}
use Rattle.std.proofs.lemmas.List.{length-append}
use Rattle.payee_book.specs.Text.{payee_rows}
use Rattle.payee_book.proofs.TextLemmas.{first_rows, first_rows_all, first_rows_more}
use Rattle.payee_book.proofs.sheets.payees_row_count.Goals as goal

pub loop-account-init : goal.loop-account-init
loop-account-init c = record { rows = λ usage parties named. refl; small = omega arith }

pub loop-account-preserved : goal.loop-account-preserved
loop-account-preserved c = record {
  rows = λ usage parties named.
      let account = c.loop-account.account in
      let party = get_or parties account [] in
      let statement = c.lines.result.now in
      let so_far = c.loop-account.invariant.rows usage parties named in
      let more = first_rows_more usage parties c.args.book.now account party statement (omega arith) (omega (arith, named)) (omega arith) refl (sym c.lines.ensures.postings) in
      omega (arith, so_far, c.row_count-count.ensures.count usage party, length-append (first_rows usage parties c.args.book.now (account - 1)) (payee_rows usage party statement), ap length more);
  small = omega (arith, c.loop-account.invariant.small, c.row_count-count.ensures.bound);
}

pub returns-clause-count : goal.returns-clause-count
returns-clause-count c = λ usage parties named. c.loop-account.invariant.rows usage parties named ∙ ap length (first_rows_all usage parties c.args.book.now c.loop-account.account (omega arith))
