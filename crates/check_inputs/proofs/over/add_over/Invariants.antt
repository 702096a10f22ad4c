use Rattle.std.proofs.Common.{◌≡◌, ◌++◌, flat_map, take}
use Rattle.check_inputs.specs.LinksSoFar.{finds_in_force}
use Rattle.check_inputs.specs.SubmittedOver.{over_line}
use Rattle.check_inputs.proofs.over.add_over.Given as goal

abbrev pub invariant-loop-place : goal.invariant-loop-place
invariant-loop-place l = l.text.items
    ≡ l.initial.text.items
    ++ flat_map (over_line l.path l.sources.tables.territories l.registry (finds_in_force l.sources) l.sources.tables.works.links l.sources.tables.works.names l.lines) (take l.place l.over)
