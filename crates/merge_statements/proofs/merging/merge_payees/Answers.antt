use Rattle.std.proofs.lemmas.Result.{err_from_is_err_and}
use Rattle.merge_statements.proofs.Refusing.{many_refused, passed_read, system_of}
use Rattle.std.proofs.Common.{List, arith, codes, inl, length, subst, ℕ}
use Rattle.std.specs.Io.KnownBytes.{Appends}
use Rattle.csv_table.specs.Written.{text_of_row}
use Rattle.merge_statements.specs.SoFar.{HasLeast, TakesOne, WritesAll, output}
use Rattle.merge_statements.specs.Statements.{IsCount, total_row}
use Rattle.merge_statements.proofs.Counting.{portions_counted}
use Rattle.merge_statements.proofs.SoFar.{none_merged, payee_merged, some_paid}
use Rattle.merge_statements.proofs.TooMany.{sum_of_all_small, sum_so_far_small, too_many_passed}
use Rattle.merge_statements.proofs.merging.merge_payees.Goals as goal

pub loop-done-init : goal.loop-done-init
loop-done-init g c = (λ starts are. none_merged starts c.args.parts.now (output g.W.Write.contents c.args.out.now c.args.page.now) are, omega arith)

pub loop-done-preserved : goal.loop-done-preserved
loop-done-preserved g c =
    let l = c.loop-done in
    let own = c.in_ok-own.own in
    let all = c.in_ok-all.ensures in
    let payee = c.has_payee.new.least.items in
    let least = subst (HasLeast l.parts payee) c.if-not-found.false c.in_ok-found.ensures.least in
    let wrote = subst (λ (name : List ℕ). WritesAll name l.parts c.pass_payee.new.parts (output g.W.Write.contents l.out l.page) (output g.W.Write.contents c.pass_payee.new.out c.pass_payee.new.page) own.0 own.1) c.as_slice.ensures.value c.in_ok-own.ensures.written in
    let ended = subst (λ (name : List ℕ). Appends (output g.W.Write.contents c.pass_payee.new.out c.pass_payee.new.page) (output g.W.Write.contents c.push_total.new.out c.push_total.new.page)
    (text_of_row (total_row (codes "S") name own.0 own.1))) c.as_slice-in-loop-done.ensures.value c.in_ok-push_total.ensures.pushed in
    let more = some_paid payee l.parts c.pass_payee.new.parts (output g.W.Write.contents l.out l.page)
    (output g.W.Write.contents c.pass_payee.new.out c.pass_payee.new.page) own.0 own.1 least wrote in (
      λ starts are.
          payee_merged starts l.parts c.pass_payee.new.parts payee (output g.W.Write.contents c.args.out.now c.args.page.now) (output g.W.Write.contents l.out l.page)
          (output g.W.Write.contents c.pass_payee.new.out c.pass_payee.new.page) (output g.W.Write.contents c.push_total.new.out c.push_total.new.page) l.all.0 own.0 c.in_ok-all.all.0 l.all.1
          own.1 c.in_ok-all.all.1
          (l.invariant.0 starts are) least wrote ended all.count all.sum all.few,
      omega (arith, l.invariant.1, more, all.count),
    )

pub both-requires-clause-own : goal.both-requires-clause-own
both-requires-clause-own g c =
    let l = c.loop-done in
    sum_so_far_small c.requires.0 l.parts (output g.W.Write.contents c.args.out.now c.args.page.now) (output g.W.Write.contents l.out l.page) l.all.0 l.all.1 (l.invariant.0 c.requires.0 c.requires.1)

pub both-requires-clause-more : goal.both-requires-clause-more
both-requires-clause-more g c =
    let l = c.loop-done in
    sum_of_all_small _ l.parts c.pass_payee.new.parts (output g.W.Write.contents l.out l.page) (output g.W.Write.contents c.pass_payee.new.out c.pass_payee.new.page) c.in_ok-own.own.0
    c.in_ok-own.own.1 c.in_ok-own.ensures.written

pub returns-in_err-found-clause-refused : goal.returns-in_err-found-clause-refused
returns-in_err-found-clause-refused g c =
    let p = err_from_is_err_and c.from_residual.result c.from_residual.ensures.1 in
    rw (p.1, p.2) (λ starts are. system_of starts c.in_err-found.field-0.0.place c.in_err-found.field-0.0.refusal c.in_err-found.ensures.refused)

pub returns-in_err-push_total-clause-refused : goal.returns-in_err-push_total-clause-refused
returns-in_err-push_total-clause-refused g c =
    let p = err_from_is_err_and c.from_residual-in_err-push_total.result c.from_residual-in_err-push_total.ensures.1 in
    rw (p.1, p.2) (λ starts are. system_of starts c.in_err-push_total.field-0.0.place c.in_err-push_total.field-0.0.refusal c.in_err-push_total.ensures.refused)

pub returns-in_err-all-clause-refused : goal.returns-in_err-all-clause-refused
returns-in_err-all-clause-refused g c =
    let p = err_from_is_err_and c.from_residual-in_err-all.result c.from_residual-in_err-all.ensures.1 in
    let l = c.loop-done in
    let payee = c.as_slice.result.now in
    let refused = c.in_err-all.ensures.refused in
    let wrote = c.in_ok-own.ensures.written in
    rw (p.1, p.2) (λ starts are.
    let was = l.invariant.0 starts are in
    many_refused starts c.in_err-all.field-0.0.place c.in_err-all.field-0.0.refusal refused.0
    (inl (too_many_passed (TakesOne payee) length (portions_counted payee) starts l.parts c.pass_payee.new.parts wrote.portions (passed_read starts l.parts was.dones was.passed) wrote.taken
    (omega (arith, refused.1, was.read, wrote.counted)))))

-- so many payees that their portions cannot have been counted
pub unreachable-requires : goal.unreachable-requires
unreachable-requires g c =
    let l = c.loop-done in
    let few : IsCount l.all.0 = (l.invariant.0 c.requires.0 c.requires.1).few in
    omega (arith, few, l.invariant.1, c.loop-done-test.false)

pub returns-then-not-found-clause-none : goal.returns-then-not-found-clause-none
returns-then-not-found-clause-none g c = c.in_ok-found.ensures.least.none c.if-not-found.true

pub returns-in_err-own-clause-refused : goal.returns-in_err-own-clause-refused
returns-in_err-own-clause-refused g c =
    let p = err_from_is_err_and c.from_residual-in_err-own.result c.from_residual-in_err-own.ensures.1 in
    rw (p.1, p.2) (λ starts are.
    let was = c.loop-done.invariant.0 starts are in
    c.in_err-own.ensures.refused starts (passed_read starts c.loop-done.parts was.dones was.passed))
