use Rattle.merge_statements.specs.Refused.{IsRefusalOf}
use Rattle.merge_statements.specs.SoFar.{CanEnd, EndsEach, EndsOne, RefusesRest, Unread, output}
use Rattle.merge_statements.proofs.Counting.{count_of_rests, endings_counted}
use Rattle.merge_statements.proofs.TooMany.{sum_of_ending_small, sum_of_ends_small, too_many_lines, too_many_of_first}
use Rattle.merge_statements.proofs.Refusing.{many_refused, one_refused, placed}
use Rattle.std.proofs.Common.{◌+◌, ◌<◌, arith, get_or, inl, inr, length, take, subst, sym}
use Rattle.std.proofs.lemmas.Result.{err_from_is_err_and}
use Rattle.std.proofs.lemmas.List.{get_or_default}
use Rattle.merge_statements.proofs.Endings.{ends_more, ends_push, no_ends}
use Rattle.merge_statements.proofs.Taking.{holds_of_all, holds_of_more, holds_of_none}
use Rattle.merge_statements.proofs.merging.end_all.Goals as goal

pub loop-place-init : goal.loop-place-init
loop-place-init g c = holds_of_none (λ olds news. EndsEach olds news (output g.W.Write.contents c.args.out.now c.args.page.now) (output g.W.Write.contents c.args.out.now c.args.page.now) 0 _ 0) c.args.parts.now (no_ends (output g.W.Write.contents c.args.out.now c.args.page.now))

pub end_text-requires : goal.end_text-requires
end_text-requires g c =
    let l = c.loop-place in
    let d = c.index-parts-place.result in
    subst CanEnd (sym (l.invariant.others l.place d (omega arith))) (c.requires l.place d (omega (arith, c.loop-place-test.true)))

pub loop-place-preserved : goal.loop-place-preserved
loop-place-preserved g c =
    let l = c.loop-place in
    let own = c.in-Ok.own in
    let old = get_or l.parts l.place c.index-parts-place.result in
    let low : l.place < length l.parts = omega (arith, c.loop-place-test.true, l.auto.parts) in
    let both = c.in_ok-both.ensures in
    let lines = c.in_ok-more_lines.ensures in
    holds_of_more (λ olds news. EndsEach olds news (output g.W.Write.contents c.args.out.now c.args.page.now) (output g.W.Write.contents l.out l.page) l.all.0.0 l.all.0.1 l.all.1)
    (λ olds news. EndsEach olds news (output g.W.Write.contents c.args.out.now c.args.page.now) (output g.W.Write.contents c.end_text.new.out c.end_text.new.page) c.in_ok-both.field-0.0 c.in_ok-both.field-0.1 c.in_ok-more_lines.field-0)
    c.args.parts.now l.parts old c.end_text.new.part l.place low (get_or_default l.parts l.place c.index-parts-place.result old low) l.invariant
    (λ was. ends_more old c.end_text.new.part (take l.place c.args.parts.now) (take l.place l.parts) (output g.W.Write.contents c.args.out.now c.args.page.now) (output g.W.Write.contents l.out l.page) (output g.W.Write.contents c.end_text.new.out c.end_text.new.page)
    l.all.0.0 own.0.0 c.in_ok-both.field-0.0 l.all.0.1 own.0.1 c.in_ok-both.field-0.1 l.all.1 own.1 c.in_ok-more_lines.field-0
    was c.in-Ok.ensures.written both.count both.sum both.few lines.sum lines.few)

pub returns-clause-written : goal.returns-clause-written
returns-clause-written g c =
    let l = c.loop-place in
    holds_of_all (λ olds news. EndsEach olds news (output g.W.Write.contents c.args.out.now c.args.page.now) (output g.W.Write.contents l.out l.page) l.all.0.0 l.all.0.1 l.all.1) c.args.parts.now l.parts l.place (omega (arith, c.loop-place-test.false, l.auto.parts)) l.invariant

pub returns-in-Err-clause-refused : goal.returns-in-Err-clause-refused
returns-in-Err-clause-refused g c = λ starts are.
    let l = c.loop-place in
    let d = c.index-parts-place.result in
    placed (IsRefusalOf starts) c.refused.result.place l.place c.refused.result.refusal c.in-Err.refusal c.refused.ensures.place c.refused.ensures.refusal
    (one_refused starts c.args.parts.now l.place d c.in-Err.refusal (omega (arith, c.loop-place-test.true))
    (subst (λ (part : Unread). RefusesRest part c.in-Err.refusal) (l.invariant.others l.place d (omega arith)) c.in-Err.ensures.refused) are)

pub both-requires-clause-own : goal.both-requires-clause-own
both-requires-clause-own g c =
    let l = c.loop-place in
    sum_of_ends_small (take l.place c.args.parts.now) (take l.place l.parts) (output g.W.Write.contents c.args.out.now c.args.page.now) (output g.W.Write.contents l.out l.page) l.all.0.0
    l.all.0.1 l.all.1 l.invariant.so_far

pub both-requires-clause-more : goal.both-requires-clause-more
both-requires-clause-more g c =
    let l = c.loop-place in
    sum_of_ending_small (get_or l.parts l.place c.index-parts-place.result) c.end_text.new.part (output g.W.Write.contents l.out l.page)
    (output g.W.Write.contents c.end_text.new.out c.end_text.new.page) c.in-Ok.own.0.0 c.in-Ok.own.0.1 c.in-Ok.own.1 c.in-Ok.ensures.written

pub returns-in_err-both-clause-refused : goal.returns-in_err-both-clause-refused
returns-in_err-both-clause-refused g c =
    let p = err_from_is_err_and c.from_residual.result c.from_residual.ensures.1 in
    let l = c.loop-place in
    let own = c.in-Ok.own in
    let refused = c.in_err-both.ensures.refused in
    let old = get_or l.parts l.place c.index-parts-place.result in
    let low : l.place < length l.parts = omega (arith, c.loop-place-test.true, l.auto.parts) in
    let first = ends_push c.args.parts.now l.parts old c.end_text.new.part (output g.W.Write.contents c.args.out.now c.args.page.now) (output g.W.Write.contents l.out l.page)
    (output g.W.Write.contents c.end_text.new.out c.end_text.new.page)
    l.all.0.0 own.0.0 l.all.0.1 own.0.1 l.all.1 own.1 l.place low (get_or_default l.parts l.place c.index-parts-place.result old low) l.invariant c.in-Ok.ensures.written in
    rw (p.1, p.2) (λ starts are. many_refused starts c.in_err-both.field-0.0.place c.in_err-both.field-0.0.refusal refused.0
    (inl (too_many_of_first EndsOne count_of_rests endings_counted starts c.args.parts.now first.news first.endings (l.place + 1) are first.taken (omega (arith, first.counted, refused.1)))))

pub returns-in_err-more_lines-clause-refused : goal.returns-in_err-more_lines-clause-refused
returns-in_err-more_lines-clause-refused g c =
    let p = err_from_is_err_and c.from_residual-in_err-more_lines.result c.from_residual-in_err-more_lines.ensures.1 in
    let l = c.loop-place in
    let own = c.in-Ok.own in
    let refused = c.in_err-more_lines.ensures.refused in
    let old = get_or l.parts l.place c.index-parts-place.result in
    let low : l.place < length l.parts = omega (arith, c.loop-place-test.true, l.auto.parts) in
    let first = ends_push c.args.parts.now l.parts old c.end_text.new.part (output g.W.Write.contents c.args.out.now c.args.page.now) (output g.W.Write.contents l.out l.page)
    (output g.W.Write.contents c.end_text.new.out c.end_text.new.page)
    l.all.0.0 own.0.0 l.all.0.1 own.0.1 l.all.1 own.1 l.place low (get_or_default l.parts l.place c.index-parts-place.result old low) l.invariant c.in-Ok.ensures.written in
    rw (p.1, p.2) (λ starts are. many_refused starts c.in_err-more_lines.field-0.0.place c.in_err-more_lines.field-0.0.refusal refused.0
    (inr (too_many_lines starts c.args.parts.now first.news first.endings (l.place + 1) (omega (arith, low, l.invariant.whole)) are first.taken (omega (arith, first.all_lines, refused.1)))))
