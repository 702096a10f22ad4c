use Rattle.merge_statements.specs.Refused.{IsRefusalOf}
use Rattle.merge_statements.specs.SoFar.{RefusesRest, TakesEach, TakesOne, Unread, WritesAll, output}
use Rattle.merge_statements.specs.Statements.{Portion}
use Rattle.merge_statements.proofs.Counting.{portions_counted}
use Rattle.merge_statements.proofs.TooMany.{sum_of_all_small, sum_of_one_small, too_many_of_first}
use Rattle.merge_statements.proofs.Refusing.{many_refused, one_refused, placed}
use Rattle.std.proofs.Common.{◌≡◌, ◌+◌, ◌<◌, ◌++◌, List, arith, get_or, inl, length, subst, take}
use Rattle.std.proofs.lemmas.Result.{err_from_is_err_and}
use Rattle.std.proofs.lemmas.List.{length-append}
use Rattle.std.proofs.lemmas.List.{get_or_default}
use Rattle.merge_statements.proofs.Taking.{holds_of_all, holds_of_more, holds_of_none, no_texts, takes_push, texts_more}
use Rattle.merge_statements.proofs.merging.pass_payee.Goals as goal

pub loop-place-init : goal.loop-place-init
loop-place-init g c =
    holds_of_none (λ olds news. WritesAll c.args.payee.now olds news (output g.W.Write.contents c.args.out.now c.args.page.now) (output g.W.Write.contents c.args.out.now c.args.page.now) 0 _) c.args.parts.now (no_texts c.args.payee.now (output g.W.Write.contents c.args.out.now c.args.page.now))

pub loop-place-preserved : goal.loop-place-preserved
loop-place-preserved g c =
    let l = c.loop-place in
    let own = c.in-Ok.own in
    let all = c.in_ok-all.ensures in
    let old = get_or l.parts l.place c.index-parts-place.result in
    let low : l.place < length l.parts = omega (arith, c.loop-place-test.true, l.auto.parts) in
    holds_of_more (λ olds news. WritesAll c.args.payee.now olds news (output g.W.Write.contents c.args.out.now c.args.page.now) (output g.W.Write.contents l.out l.page) l.all.0 l.all.1)
    (λ olds news. WritesAll c.args.payee.now olds news (output g.W.Write.contents c.args.out.now c.args.page.now) (output g.W.Write.contents c.pass_if_next.new.out c.pass_if_next.new.page) c.in_ok-all.all.0 c.in_ok-all.all.1)
    c.args.parts.now l.parts old c.pass_if_next.new.part l.place low (get_or_default l.parts l.place c.index-parts-place.result old low) l.invariant
    (λ was. texts_more c.args.payee.now old c.pass_if_next.new.part (take l.place c.args.parts.now) (take l.place l.parts) (output g.W.Write.contents c.args.out.now c.args.page.now) (output g.W.Write.contents l.out l.page) (output g.W.Write.contents c.pass_if_next.new.out c.pass_if_next.new.page) own.0 l.all.0 c.in_ok-all.all.0 own.1 l.all.1 c.in_ok-all.all.1
    was c.in-Ok.ensures.written all.count all.sum all.few)

pub returns-clause-written : goal.returns-clause-written
returns-clause-written g c =
    let l = c.loop-place in
    holds_of_all (λ olds news. WritesAll c.args.payee.now olds news (output g.W.Write.contents c.args.out.now c.args.page.now) (output g.W.Write.contents l.out l.page) l.all.0 l.all.1) c.args.parts.now l.parts l.place (omega (arith, c.loop-place-test.false, l.auto.parts)) l.invariant

pub returns-in-Err-clause-refused : goal.returns-in-Err-clause-refused
returns-in-Err-clause-refused g c = λ starts are.
    let l = c.loop-place in
    let d = c.index-parts-place.result in
    placed (IsRefusalOf starts) c.refused.result.place l.place c.refused.result.refusal c.in-Err.refusal c.refused.ensures.place c.refused.ensures.refusal
    (one_refused starts c.args.parts.now l.place d c.in-Err.refusal (omega (arith, c.loop-place-test.true))
    (subst (λ (part : Unread). RefusesRest part c.in-Err.refusal) (l.invariant.others l.place d (omega arith)) c.in-Err.ensures.refused) are)

pub both-requires-clause-own : goal.both-requires-clause-own
both-requires-clause-own g c =
    let l = c.loop-place in
    sum_of_all_small c.args.payee.now (take l.place c.args.parts.now) (take l.place l.parts) (output g.W.Write.contents c.args.out.now c.args.page.now) (output g.W.Write.contents l.out l.page)
    l.all.0 l.all.1 l.invariant.so_far

pub both-requires-clause-more : goal.both-requires-clause-more
both-requires-clause-more g c =
    let l = c.loop-place in
    sum_of_one_small c.args.payee.now (get_or l.parts l.place c.index-parts-place.result) c.pass_if_next.new.part (output g.W.Write.contents l.out l.page)
    (output g.W.Write.contents c.pass_if_next.new.out c.pass_if_next.new.page) c.in-Ok.own.0 c.in-Ok.own.1 c.in-Ok.ensures.written

pub returns-in_err-all-clause-refused : goal.returns-in_err-all-clause-refused
returns-in_err-all-clause-refused g c =
    let p = err_from_is_err_and c.from_residual.result c.from_residual.ensures.1 in
    let l = c.loop-place in
    let payee = c.args.payee.now in
    let own = c.in-Ok.own in
    let refused = c.in_err-all.ensures.refused in
    let old = get_or l.parts l.place c.index-parts-place.result in
    let low : l.place < length l.parts = omega (arith, c.loop-place-test.true, l.auto.parts) in
    let first = holds_of_more (λ olds news. WritesAll payee olds news (output g.W.Write.contents c.args.out.now c.args.page.now) (output g.W.Write.contents l.out l.page) l.all.0 l.all.1)
    (λ olds news. (portions : List Portion) × TakesEach (TakesOne payee) olds news portions × (length portions ≡ l.all.0 + own.0))
    c.args.parts.now l.parts old c.pass_if_next.new.part l.place low (get_or_default l.parts l.place c.index-parts-place.result old low) l.invariant
    (λ was. (
      was.portions ++ c.in-Ok.ensures.written.portions,
      takes_push (TakesOne payee) (take l.place c.args.parts.now) (take l.place l.parts) old c.pass_if_next.new.part was.portions c.in-Ok.ensures.written.portions was.taken
          c.in-Ok.ensures.written.taken,
      omega (arith, was.counted, c.in-Ok.ensures.written.counted, length-append was.portions c.in-Ok.ensures.written.portions),
    )) in
    rw (p.1, p.2) (λ starts are. many_refused starts c.in_err-all.field-0.0.place c.in_err-all.field-0.0.refusal refused.0
    (inl (too_many_of_first (TakesOne payee) length (portions_counted payee) starts c.args.parts.now _ first.so_far.0 (l.place + 1) are first.so_far.1 (omega (arith, first.so_far.2, refused.1)))))
