use Rattle.std.proofs.Common.{◌-◌, arith}
use Rattle.std.proofs.lemmas.List.Sorted.{IsPermutation-swap, IsPermutation-trans}
use Rattle.std.specs.List.Sorted.{IsPermutation}
use Rattle.payee_book.proofs.journal.move_one_back.Goals as goal

pub loop-at-preserved : goal.loop-at-preserved
loop-at-preserved c =
    let was = c.loop-at.postings in
    let now = c.swap.new.self in
    let at = c.loop-at.at in
    let moved : IsPermutation was now = IsPermutation-swap was now (at - 1) at (omega (arith, c.loop-at.invariant.within)) c.loop-at.invariant.within c.swap.ensures.after in
    record {
      within = omega (arith, c.loop-at.invariant.within, c.swap.auto.self);
      same = IsPermutation-trans c.args.postings.now was now c.loop-at.invariant.same moved;
    }
