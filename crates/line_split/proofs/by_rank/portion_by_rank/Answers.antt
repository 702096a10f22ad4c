use Rattle.std.proofs.Common.{◌∙◌, ap}
use Rattle.line_split.specs.Claims.{base_of, participants_of}
use Rattle.line_split.specs.LargestRemainder.{portion_of}
use Rattle.line_split.proofs.ByRank.{portion_in_list}
use Rattle.line_split.proofs.by_rank.portion_by_rank.Goals as goal

pub returns : goal.returns
returns c =
    let list = c.args.claims.now.list in
    c.working_of.ensures.portion
    ∙ (ap (portion_of c.args.amount (base_of list) (participants_of list) c.args.place) c.working_of.ensures.share
    ∙ portion_in_list c.args.amount list c.args.place c.requires.place)
