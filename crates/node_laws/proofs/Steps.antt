-- Each atomic step at a table of nodes adds its event, and nothing else adds one: what the steps' own proofs rest on.
use Rattle.std.proofs.Common.{refl}
use Rattle.atomic_table.specs.Table.Act.{gives, keeps, takes}
use Rattle.node_table.specs.declared.seats.Known.TheVariants as known
use Rattle.node_table.specs.Layout.{slot_of}
use Rattle.node_table.specs.Tells.{new_sender}
use Rattle.node_table.proofs.AtHandSteps.{amount_kept as hand_amount, give_kept, line_kept as hand_line}
use Rattle.node_table.proofs.Joins.{counts_in, deals, gathers_in, gets_back, gets_in, hands}
use Rattle.node_table.proofs.LoadNextStep.{next_kept}
use Rattle.node_table.proofs.Looks.{begun, looked}
use Rattle.node_table.proofs.ReceiverSteps.{head_kept, link_kept as stub_link_kept, null_kept as stub_null_kept, swap_kept as stub_swap_kept}
use Rattle.node_table.proofs.SenderSteps.{amount_kept, end_kept, gives_kept, line_kept, link_kept, new, null_kept, swap_kept, takes_kept, turn_kept}
use Rattle.node_laws.specs.Steps.{EachStepAddsItsEvent, NoJoinIsAnEvent, NoLookIsAnEvent, NoSplitIsAnEvent}
use Rattle.node_laws.specs.Steps.Makes.{load_turn, end_line, store_line, store_amount, store_null, swap_head, store_link, load_next, load_head, stub_null, stub_swap, stub_link, load_line, load_amount, give_back}
use Rattle.node_laws.specs.Steps.Looks.{take_slot, give_slot, begin_receiving, look, tally_look}

pub each_step : EachStepAddsItsEvent
each_step shape s kept id _ b _ _ _ (load_turn v slot _ line amount rest there going few low above within) seen =
    (_, turn_kept shape v s kept id seen b there rest going line amount few low above within)
each_step shape s kept id _ b _ _ _ (end_line v slot _ rest there going) seen = (_, end_kept shape v s kept id seen b there rest going)
each_step shape s kept id _ b _ _ _ (store_line v slots item there at) seen = (_, line_kept shape v s kept id seen v.caller.mailbox there refl item at)
each_step shape s kept id _ b _ _ _ (store_amount v slots item there at) seen = (_, amount_kept shape v s kept id seen v.caller.mailbox there refl item at)
each_step shape s kept id _ b _ _ _ (store_null v slots item there at) seen = (_, null_kept shape v s kept id seen v.caller.mailbox there refl item at)
each_step shape s kept id _ b _ _ _ (swap_head v slots item there at) seen = (_, swap_kept shape v s kept id seen v.caller.mailbox there refl item at)
each_step shape s kept id _ b _ _ _ (store_link v slots item before there at) seen = (_, link_kept shape v s kept id seen v.caller.mailbox there refl item before at)
each_step shape s kept id _ b _ _ _ (load_next v at) seen = let next = next_kept shape id v s kept seen at in (known.Receives next.0, next.1)
each_step shape s kept id _ b _ _ _ (load_head v at) seen = (_, head_kept shape id v s kept seen at)
each_step shape s kept id _ b _ _ _ (stub_null v at) seen = (_, stub_null_kept shape id v s kept seen at)
each_step shape s kept id _ b _ _ _ (stub_swap v at) seen = (_, stub_swap_kept shape id v s kept seen at)
each_step shape s kept id _ b _ _ _ (stub_link v before at) seen = (_, stub_link_kept shape id v s kept seen before at)
each_step shape s kept id _ b _ _ _ (load_line v h hand at) seen = (_, hand_line shape id v s kept seen h hand at)
each_step shape s kept id _ b _ _ _ (load_amount v h hand at) seen = (_, hand_amount shape id v s kept seen h hand at)
each_step shape s kept id _ b _ _ _ (give_back v h hand at) seen = (_, give_kept shape id v s kept seen h hand at)

pub no_look : NoLookIsAnEvent
no_look shape s kept id _ (take_slot d p low) seen =
    let slot = (new shape d p low s kept id seen).slot in
    (known.Sends (new_sender d p), takes (slot_of p) slot.0, slot.1, takes_kept shape d p low s kept id seen)
no_look shape s kept id _ (give_slot v slot laid) seen = (known.Sends v, gives, tt, gives_kept shape v s kept id seen slot laid)
no_look shape s kept id _ (begin_receiving d turn past) seen = (_, keeps, tt, begun shape id s kept d turn past seen)
no_look shape s kept id _ (look v) seen = (known.Receives v, keeps, tt, looked shape id s kept (known.Receives v) seen)
no_look shape s kept id _ (tally_look v) seen = (known.Tallies v, keeps, tt, looked shape id s kept (known.Tallies v) seen)

pub no_split : NoSplitIsAnEvent
no_split shape id me = (deals shape id me, hands shape id me)

pub no_join : NoJoinIsAnEvent
no_join shape id other me them = (gets_back shape id me other them, gets_in shape id me other them, gathers_in shape id me other them, counts_in shape id me other them)
