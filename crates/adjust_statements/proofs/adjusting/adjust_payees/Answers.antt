use Rattle.std.proofs.Common.{◌≡◌, ◌+◌, ◌∷◌, [], Bool, List, None, Option, arith, subst, sym, ℕ}
use Rattle.std.proofs.lemmas.List.Elements.{All-head, All-tail}
use Rattle.std.proofs.lemmas.Result.{err_from_is_err_and}
use Rattle.merge_statements.proofs.Counting.{portions_counted}
use Rattle.merge_statements.specs.SoFar.{HasLeast, Unread, output}
use Rattle.merge_statements.specs.Statements.{IsCount, IsName}
use Rattle.adjust_statements.proofs.PayeeLemmas.{least_named, least_read, none_adjusted, payee_adjusted, so_far_small}
use Rattle.adjust_statements.specs.SoFar.{AdjustsPayee, AreAdjustedSoFar, IsOpen}
use Rattle.adjust_statements.proofs.adjusting.adjust_payees.Goals as goal

pub loop-done-init : goal.loop-done-init
loop-done-init g c = record {
  so_far = λ paid_start right_start paid_open right_open. none_adjusted paid_start right_start c.args.texts.now.paid c.args.texts.now.right (output g.W.Write.contents c.args.out.now c.args.page.now) paid_open right_open;
  done = omega arith;
  few = omega arith;
  small = omega arith;
}

pub loop-done-preserved : goal.loop-done-preserved
loop-done-preserved g c =
    let l = c.loop-done in
    let contents = g.W.Write.contents in
    let new = c.adjust_payee.new.texts in
    let payee = c.next_payee.new.least.items in
    let first = output contents c.args.out.now c.args.page.now in
    let middle = output contents l.out l.page in
    let after = output contents c.adjust_payee.new.out c.adjust_payee.new.page in
    let own = c.in_ok-own.own in
    let all = c.both-all.result in
    let least = subst (λ (found : Bool). HasLeast (l.texts.paid ∷ l.texts.right ∷ []) payee found) c.if-not-found.false c.in-Ok.ensures in
    let more = subst (λ (name : List ℕ). AdjustsPayee name l.texts.paid l.texts.right new.paid new.right middle after own.0 own.1) c.as_slice.ensures.value c.in_ok-own.ensures.adjusted in
    let so_far : (paid_start right_start : Option (List ℕ)) → IsOpen paid_start c.args.texts.now.paid → IsOpen right_start c.args.texts.now.right
    → AreAdjustedSoFar paid_start right_start new.paid new.right first after all.0 all.1 =
    λ paid_start right_start paid_open right_open.
    payee_adjusted paid_start right_start l.texts.paid l.texts.right new.paid new.right payee first middle after l.all.0 own.0 all.0 l.all.1 own.1 all.1
    (l.invariant.so_far paid_start right_start paid_open right_open) least more c.both-all.ensures.count c.both-all.ensures.sum in
    let small = so_far_small c.requires.0 c.requires.1 new.paid new.right first after all.0 all.1 (so_far c.requires.0 c.requires.1 c.requires.2 c.requires.3) in
    let some = least_read l.texts.paid l.texts.right new.paid new.right payee more.paid more.right least more.paid_taken more.right_taken in
    let counts = (portions_counted payee).counts in
    record {
      so_far = so_far;
      done = omega (arith, l.invariant.done, some, counts l.texts.paid new.paid more.paid more.paid_taken, counts l.texts.right new.right more.right more.right_taken);
      few = small.0;
      small = small.1;
    }

pub adjust_payee-requires : goal.adjust_payee-requires
adjust_payee-requires g c =
    let l = c.loop-done in
    let payee = c.next_payee.new.least.items in
    subst IsName (sym c.as_slice.ensures.value)
    (least_named l.texts.paid l.texts.right payee (subst (λ (found : Bool). HasLeast (l.texts.paid ∷ l.texts.right ∷ []) payee found) c.if-not-found.false c.in-Ok.ensures))

pub returns-then-not-found-clause-none : goal.returns-then-not-found-clause-none
returns-then-not-found-clause-none g c =
    let l = c.loop-done in
    let none = λ (part : Unread). part.payee ≡ None in
    let are = c.in-Ok.ensures.none c.if-not-found.true in
    (All-head none l.texts.paid (l.texts.right ∷ []) are, All-head none l.texts.right [] (All-tail none l.texts.paid (l.texts.right ∷ []) are))

pub returns-in_err-own-clause-refused : goal.returns-in_err-own-clause-refused
returns-in_err-own-clause-refused g c =
    let p = err_from_is_err_and c.from_residual.result c.from_residual.ensures.1 in
    rw (p.1, p.2) (λ paid_start right_start paid_open right_open.
    let was = c.loop-done.invariant.so_far paid_start right_start paid_open right_open in
    c.in_err-own.ensures.refused paid_start right_start was.paid_passed.read was.right_passed.read)

pub unreachable-requires : goal.unreachable-requires
unreachable-requires g c =
    let l = c.loop-done in
    let read : IsCount (l.texts.paid.at.portions + l.texts.right.at.portions) = (l.invariant.so_far c.requires.0 c.requires.1 c.requires.2 c.requires.3).read in
    omega (arith, read, l.invariant.done, c.loop-done-test.false)
