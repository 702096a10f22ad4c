use Rattle.std.proofs.Common.{rules, ◌≡◌, ◌≤◌, ◌*◌, ◌/◌, ◌+◌, ◌∙◌, ℕ, ap, subst, sym}
use Rattle.line_split.specs.Claims.{base_of, participants_of}
use Rattle.line_split.specs.FairSplit.{value_at}
use Rattle.line_split.specs.LargestRemainder.{portion_of, portions_of}
use Rattle.line_split.proofs.ByRank.{portion_in_list, portion_small}
use Rattle.line_split.proofs.by_rank.working_of.Goals as goal

pub returns-clause-small : goal.returns-clause-small
returns-clause-small c =
    let list = c.args.claims.now.list in
    let amount = c.args.amount in
    let portion : amount * c.share_at-share.result / c.from-base.result + c.from.result ≡ portion_of amount (base_of list) (participants_of list) c.args.place c.share_at-share.result = search rules in
    let share : c.share_at-share.result ≡ value_at (participants_of list) c.args.place = search rules in
    let whole : amount * c.share_at-share.result / c.from-base.result + c.from.result ≡ value_at (portions_of amount list) c.args.place =
    portion ∙ (ap (portion_of amount (base_of list) (participants_of list) c.args.place) share ∙ portion_in_list amount list c.args.place c.requires.place) in
    subst (λ (n : ℕ). n ≤ amount) (sym whole) (portion_small amount list c.args.place c.requires.place)
