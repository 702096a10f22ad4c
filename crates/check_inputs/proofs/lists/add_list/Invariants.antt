use Rattle.std.proofs.Common.{◌≡◌, ◌++◌, codes, flat_map, take}
use Rattle.check_inputs.proofs.lists.add_list.Given as goal

abbrev pub invariant-loop-place : goal.invariant-loop-place
invariant-loop-place g l = l.text.items ≡ l.initial.text.items ++ flat_map (λ item. codes ", " ++ g.T.Listed.words item) (take l.place l.later)
