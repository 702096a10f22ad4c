use Rattle.std.proofs.Common.{ℤ, w64, ltb, map, get_or, ap, ◌∙◌}
use Rattle.std.proofs.lemmas.Int.{to_z-of_z}
use Rattle.line_split.specs.LargestRemainder.{rank_of}
use Rattle.line_split.specs.Contenders.{place_and_remainder, with_unit}
use Rattle.line_split.proofs.portions.give_units.Goals as goal

pub returns-then-contenders-le-MOST_RANKED-clause-given : goal.returns-then-contenders-le-MOST_RANKED-clause-given
returns-then-contenders-le-MOST_RANKED-clause-given c k d e lt =
    c.give_by_rank.ensures.given k d e lt
    ∙ ap (λ (z : ℤ). with_unit z (ltb (rank_of (map place_and_remainder c.args.contenders.now) (get_or (map place_and_remainder c.args.contenders.now) k d)) c.args.left) (get_or c.args.list.now k e))
    (to_z-of_z w64 c.args.amount c.ranges.amount)

pub returns-else-contenders-le-MOST_RANKED-clause-given : goal.returns-else-contenders-le-MOST_RANKED-clause-given
returns-else-contenders-le-MOST_RANKED-clause-given c k d e lt =
    c.give_in_order.ensures.given k d e lt
    ∙ ap (λ (z : ℤ). with_unit z (ltb (rank_of (map place_and_remainder c.args.contenders.now) (get_or (map place_and_remainder c.args.contenders.now) k d)) c.args.left) (get_or c.args.list.now k e))
    (to_z-of_z w64 c.args.amount c.ranges.amount)
