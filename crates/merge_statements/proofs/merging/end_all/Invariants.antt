use Rattle.merge_statements.specs.SoFar.{EndsEach, HoldsOfFirst, output}
use Rattle.merge_statements.proofs.merging.end_all.Given as goal

-- the texts before this one were passed over to their ends
abbrev pub invariant-loop-place : goal.invariant-loop-place
invariant-loop-place g l = HoldsOfFirst (λ olds news. EndsEach olds news (output g.W.Write.contents l.fn.out l.fn.page) (output g.W.Write.contents l.out l.page) l.all.0.0 l.all.0.1 l.all.1) l.fn.parts l.parts l.place
