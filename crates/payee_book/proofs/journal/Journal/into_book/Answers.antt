use Rattle.std.proofs.Common.{arith, rules, ◌≡◌, ◌<◌, ◌+◌, length, map, subst, sym, vec_items}
use Rattle.std.proofs.lemmas.List.{length-map, map-set}
use Rattle.std.specs.List.Sorted.{IsPermutation}
use Rattle.payee_book.proofs.Rising.{shown}
use Rattle.payee_book.proofs.Journals.{AreInOrderUpTo, all_in_order, one_in_order}
use Rattle.payee_book.proofs.journal.Journal.into_book.Goals as goal

pub loop-account-preserved : goal.loop-account-preserved
loop-account-preserved c =
    let account = c.loop-account.account in
    let was = map (λ e. e.items) (vec_items c.self.inside.entries) in
    let now = map (λ e. e.items) (vec_items c.loop-account.statements) in
    let within : account < length now = rw (length-map (vec_items c.loop-account.statements) (λ e. e.items)) (grind (arith, rules)) in
    let here = shown (λ e. e.items) (vec_items c.loop-account.statements) account c.index_mut.result.now within c.index_mut.ensures.value in
    subst (λ l. AreInOrderUpTo was l (account + 1)) (sym (map-set (λ e. e.items) (vec_items c.loop-account.statements) account c.put_in_order.new.postings))
    (one_in_order was now account c.put_in_order.new.postings.items within c.loop-account.invariant
    (subst (λ l. IsPermutation l c.put_in_order.new.postings.items) (sym here) c.put_in_order.ensures.same) c.put_in_order.ensures.rising)

pub of-requires : goal.of-requires
of-requires c =
    let size : length (map (λ e. e.items) (vec_items c.loop-account.statements)) ≡ c.loop-account.account = let count = c.loop-account.invariant.count in let all = length-map (vec_items c.self.inside.entries) (λ e. e.items) in
    omega (arith, count, all, c.loop-account-test.false, c.loop-account.auto.account-end, c.len-account-end.ensures) in
    all_in_order (map (λ e. e.items) (vec_items c.self.inside.entries)) (map (λ e. e.items) (vec_items c.loop-account.statements)) c.self.invariant (rw size c.loop-account.invariant)
