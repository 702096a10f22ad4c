use Rattle.std.proofs.lemmas.Result.{err_from_is_err_and}
use Rattle.std.proofs.Common.{arith, inl}
use Rattle.merge_statements.specs.SoFar.{EndsOne, output}
use Rattle.merge_statements.proofs.Counting.{count_of_rests, endings_counted}
use Rattle.merge_statements.proofs.Refusing.{all_can_end, many_refused, passed_read}
use Rattle.merge_statements.proofs.TooMany.{sum_of_ends_small, sum_so_far_small, too_many_passed}
use Rattle.merge_statements.proofs.Whole.{all_merged}
use Rattle.merge_statements.proofs.merging.merge_parts.Goals as goal

pub end_all-requires : goal.end_all-requires
end_all-requires g c =
    let was = c.in_ok-paid.ensures.merged c.requires.0 c.requires.1 in
    all_can_end c.requires.0 c.merge_payees.new.parts was.dones was.passed c.in_ok-paid.ensures.none

pub returns-clause-merged : goal.returns-clause-merged
returns-clause-merged g c = λ starts are.
    let all = c.in_ok-all in
    let end = c.in_ok-left in
    all_merged starts c.merge_payees.new.parts c.end_all.new.parts (output g.W.Write.contents c.args.out.now c.args.page.now) (output g.W.Write.contents c.merge_payees.new.out c.merge_payees.new.page) (output g.W.Write.contents c.end_all.new.out c.end_all.new.page) (output g.W.Write.contents c.push_total.new.out c.push_total.new.page) (output g.W.Write.contents c.push_run.new.out c.push_run.new.page)
    c.in_ok-paid.paid.0 end.left.0 all.all.0 c.in_ok-paid.paid.1 end.left.1 all.all.1 end.lines
    (c.in_ok-paid.ensures.merged starts are) end.ensures.written c.in_ok-push_total.ensures.pushed all.ensures.count all.ensures.sum all.ensures.few c.in_ok-push_run.ensures.pushed

pub returns-in_err-left-clause-refused : goal.returns-in_err-left-clause-refused
returns-in_err-left-clause-refused g c =
    let p = err_from_is_err_and c.from_residual-in_err-left.result c.from_residual-in_err-left.ensures.1 in
    rw (p.1, p.2) (λ starts are.
    let was = c.in_ok-paid.ensures.merged starts are in
    c.in_err-left.ensures.refused starts (passed_read starts c.merge_payees.new.parts was.dones was.passed))

pub both-requires-clause-own : goal.both-requires-clause-own
both-requires-clause-own g c =
    sum_so_far_small c.requires.0 c.merge_payees.new.parts (output g.W.Write.contents c.args.out.now c.args.page.now) (output g.W.Write.contents c.merge_payees.new.out c.merge_payees.new.page)
    c.in_ok-paid.paid.0 c.in_ok-paid.paid.1
    (c.in_ok-paid.ensures.merged c.requires.0 c.requires.1)

pub both-requires-clause-more : goal.both-requires-clause-more
both-requires-clause-more g c =
    sum_of_ends_small c.merge_payees.new.parts c.end_all.new.parts (output g.W.Write.contents c.merge_payees.new.out c.merge_payees.new.page)
    (output g.W.Write.contents c.end_all.new.out c.end_all.new.page)
    c.in_ok-left.left.0 c.in_ok-left.left.1 c.in_ok-left.lines c.in_ok-left.ensures.written

pub returns-in_err-all-clause-refused : goal.returns-in_err-all-clause-refused
returns-in_err-all-clause-refused g c =
    let p = err_from_is_err_and c.from_residual-in_err-all.result c.from_residual-in_err-all.ensures.1 in
    let refused = c.in_err-all.ensures.refused in
    let ends = c.in_ok-left.ensures.written in
    rw (p.1, p.2) (λ starts are.
    let was = c.in_ok-paid.ensures.merged starts are in
    many_refused starts c.in_err-all.field-0.0.place c.in_err-all.field-0.0.refusal refused.0
    (inl (too_many_passed EndsOne count_of_rests endings_counted starts c.merge_payees.new.parts c.end_all.new.parts ends.endings
    (passed_read starts c.merge_payees.new.parts was.dones was.passed) ends.taken
    (omega (arith, refused.1, was.read, ends.counted)))))
