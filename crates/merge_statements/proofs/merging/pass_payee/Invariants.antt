use Rattle.merge_statements.specs.SoFar.{HoldsOfFirst, WritesAll, output}
use Rattle.merge_statements.proofs.merging.pass_payee.Given as goal

-- the payee's statements were passed over in the texts before this one
abbrev pub invariant-loop-place : goal.invariant-loop-place
invariant-loop-place g l = HoldsOfFirst (λ olds news. WritesAll l.payee olds news (output g.W.Write.contents l.fn.out l.fn.page) (output g.W.Write.contents l.out l.page) l.all.0 l.all.1) l.fn.parts l.parts l.place
