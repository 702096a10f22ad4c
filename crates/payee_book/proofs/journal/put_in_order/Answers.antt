use Rattle.std.proofs.Common.{◌≡◌, ◌∙◌, ◌++◌, ap, arith, drop, length, subst, take}
use Rattle.std.proofs.Math.Seq.{take-append_seam}
use Rattle.std.proofs.lemmas.List.Sorted.{IsPermutation-trans}
use Rattle.std.specs.List.Sorted.{IsPermutation}
use Rattle.payee_book.proofs.Journals.{postings_in_order}
use Rattle.payee_book.proofs.journal.put_in_order.Goals as goal

pub returns-clause-same : goal.returns-clause-same
returns-clause-same c =
    let was = c.args.postings.now.items in
    let moved = c.move_back.new.postings in
    let sorted = c.sort_unstable.new.self.items in
    let behind = drop (length moved) was in
    let count : c.args.postings.now.len ≡ length moved = omega (arith, c.move_back.auto.postings, c.as_mut_slice.ensures.len, c.args.postings.now.ok) in
    let whole : take c.args.postings.now.len (moved ++ behind) ≡ moved = ap (λ n. take n (moved ++ behind)) count ∙ take-append_seam moved behind in
    IsPermutation-trans was moved sorted (subst (λ postings. IsPermutation postings moved) c.as_mut_slice.ensures.value c.move_back.ensures)
    (subst (λ postings. IsPermutation postings sorted) whole c.sort_unstable.ensures.permutation)

pub returns-clause-rising : goal.returns-clause-rising
returns-clause-rising c = postings_in_order c.sort_unstable.new.self.items c.sort_unstable.ensures.sorted
