use Rattle.std.proofs.Common.{◌≡◌, ◌+◌, ◌<◌, ℕ, HoldsAt, slice_index_or, vec_items, vec_len}
use Rattle.std.specs.Vec.Iter.{into_iter_items, into_iter_len}
use Rattle.std.specs.Arc.{arc_value}
use Rattle.mail_box.specs.Mails.{opened_sender}
use Rattle.mail_box.specs.LaneViews.{sender_of}
use Rattle.mail_box.proofs.lane_mail.LaneSender.seat_all.Given as goal

abbrev pub invariant-loop-pass : goal.invariant-loop-pass
invariant-loop-pass l =
    let rest = l.pass-iterator in
    let passes = into_iter_items l.initial.pass-iterator in
    (vec_len l.senders ≡ l.number)
    × (l.number + into_iter_len rest ≡ vec_len (arc_value l.lanes).lanes)
    × ((k : ℕ) (d : _) → k < into_iter_len rest → slice_index_or (into_iter_items rest) k d ≡ slice_index_or passes (l.number + k) d)
    × ((k : ℕ) → k < l.number → HoldsAt (λ s. sender_of s ≡ opened_sender (arc_value l.lanes) k (arc_value l.lanes).nodes l.most) (vec_items l.senders) k)
