use Rattle.std.specs.Prelude.{◌+◌, ◌≡◌, false, map, take}
use Rattle.queue_core.specs.declared.item.Item.TheVariants.{Post}
use Rattle.mail_relay.proofs.sending.send_all.Given as goal

abbrev pub invariant-loop-line : goal.invariant-loop-line
invariant-loop-line g l =
    let now = g.M.Mail.sender l.sender in
    let was = g.M.Mail.sender l.initial.sender in
    (now.mailbox ≡ was.mailbox)
    × (now.number ≡ was.number)
    × (now.is_ended ≡ false)
    × (now.left + l.line-index ≡ was.left)
    × (now.sent ≡ map (λ post. Post post.0 post.1) (take l.line-index l.posts))
