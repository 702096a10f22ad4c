use Rattle.std.proofs.Common.{subst, sym, ◌≡◌, ◌∙◌, ◌++◌, List, ap, map}
use Rattle.std.proofs.lemmas.List.{take_all}
use Rattle.cwr_share.specs.InForce.{AreShareLines}
use Rattle.cwr_share.specs.Joined.{interests_in, of_submitter}
use Rattle.cwr_share.specs.Registrations.{ShareLine}
use Rattle.cwr_share.proofs.JoinedLemmas.{followed_sound}
use Rattle.cwr_share.proofs.in_force.add_behind.Goals as goal

pub returns-clause-sound : goal.returns-clause-sound
returns-clause-sound c =
    let old = c.args.lines.now.items in
    let shares = c.args.shares.now in
    let submitter = c.args.submitter.now in
    let whole : c.loop-share.lines.items ≡ old ++ map (of_submitter submitter c.in-Some.first) shares =
    c.loop-share.invariant ∙ ap (λ (l : List ShareLine). old ++ map (of_submitter submitter c.in-Some.first) l) (take_all c.loop-share.share-index shares c.loop-share-test.false) in
    let first = c.in-Some.ensures ∙ ap interests_in c.as_slice.ensures.value in
    subst AreShareLines (sym (whole ∙ ap (λ n. old ++ map (of_submitter submitter n) shares) first)) (followed_sound old submitter shares c.requires.sound.0 c.requires.sound.1)
