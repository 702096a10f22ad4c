use Rattle.std.proofs.Common.{arith, length, ◌*◌, ◌+◌, ◌-◌, ◌++◌, ◌∷◌, ◌≡◌, ◌∙◌, ◌≤◌, [], ap, sym}
use Rattle.block_draw.specs.Views.{DrawerView, drawer_of}
use Rattle.split_run.specs.Blocks.{postings_in, postings_of}
use Rattle.split_run.specs.Divisions.{division_by}
use Rattle.split_run.proofs.SendingLemmas.{sent_both, sent_same}
use Rattle.split_run.proofs.WorkingLemmas.{above, above_least, above_more, block_more, few_in, ready_for_fewer, still_ready}
use Rattle.split_run.proofs.working.work_on.Goals as goal

pub work_block-requires-clause-ready : goal.work_block-requires-clause-ready
work_block-requires-clause-ready g c κs within =
    let usage = c.args.inputs.usage.now in
    let drawn = (drawer_of c.loop.drawer).drawn in
    let block = c.in-Some-draw.block in
    let low : above drawn ≤ block = above_least block drawn c.in-Some-draw.ensures.above.1 in
    ready_for_fewer g.B.Mailboxes.is_shared (g.B.Mailboxes.senders c.loop.senders) (length usage - 64 * above drawn) (length usage - 64 * block) (omega (arith, low)) c.loop.invariant.ready

pub loop-preserved : goal.loop-preserved
loop-preserved g c =
    let usage = c.args.inputs.usage.now in
    let division = division_by c.args.inputs.tis.now c.args.inputs.registry.now in
    let was = drawer_of c.loop.drawer in
    let new = drawer_of c.draw.new.self in
    let block = c.in-Some-draw.block in
    let is = c.in-Some-draw.ensures.drawn in
    let drawn : new.drawn ≡ was.drawn ++ block ∷ [] = ap (λ (v : DrawerView). v.drawn) is in
    let low : above was.drawn ≤ block = above_least block was.drawn c.in-Some-draw.ensures.above.1 in
    let next : above new.drawn ≡ block + 1 = ap above drawn ∙ above_more block was.drawn low in
    let before = g.B.Mailboxes.senders c.args.senders.now in
    let now = g.B.Mailboxes.senders c.loop.senders in
    let after = g.B.Mailboxes.senders c.work_block.new.senders in
    let sent = c.work_block.ensures.sent c.if-not-work_block.false in
    let ready = ready_for_fewer g.B.Mailboxes.is_shared now (length usage - 64 * above was.drawn) (length usage - 64 * block) (omega (arith, low)) c.loop.invariant.ready in
    record {
      sent = sent_same g.B.Mailboxes.is_shared before after (λ account. postings_of division usage account was.drawn ++ postings_in division usage account block) (λ account. postings_of division usage account new.drawn)
          (sent_both g.B.Mailboxes.is_shared before now after (λ account. postings_of division usage account was.drawn) (λ account. postings_in division usage account block) c.loop.invariant.sent sent)
          (λ account. block_more division account usage was.drawn block ∙ ap (postings_of division usage account) (sym drawn));
      ready = ready_for_fewer g.B.Mailboxes.is_shared after (length usage - 64 * (block + 1)) (length usage - 64 * above new.drawn) (omega (arith, next))
          (still_ready g.B.Mailboxes.is_shared now after (λ account. postings_in division usage account block) (length usage - 64 * block) (length usage - 64 * (block + 1)) ready sent (c.work_block.ensures.spent c.if-not-work_block.false) (omega arith) (λ account. few_in division account usage block));
      blocks = ap (λ (v : DrawerView). v.blocks) is ∙ c.loop.invariant.blocks;
      drawer = (ap (λ (v : DrawerView). v.draw) is ∙ c.loop.invariant.drawer.0, ap (λ (v : DrawerView). v.number) is ∙ c.loop.invariant.drawer.1);
      claims = c.work_block.ensures.rooms.0 ∙ c.loop.invariant.claims;
      portions = c.work_block.ensures.rooms.1 ∙ c.loop.invariant.portions;
    }
