use Rattle.std.proofs.Common.{◌≡◌, ◌<◌, ℕ, [], HoldsAt, vec_items, vec_len}
use Rattle.block_draw.specs.declared.seats.Known.TheVariants.{Gathers}
use Rattle.block_draw.specs.Rule.{opened_gatherer}
use Rattle.block_draw.specs.Views.{drawer_of, opened_drawer}
use Rattle.block_draw.proofs.draw.Drawer.deal_all.Given as goal

abbrev pub invariant-loop : goal.invariant-loop
invariant-loop l =
    record {
      me : l.gatherer.me ≡ (Gathers (opened_gatherer l.shape (vec_len l.drawers)), []);
      same : l.gatherer.table_id ≡ l.initial.gatherer.table_id;
      count : vec_len l.drawers ≡ l.counter;
      opened : (number : ℕ) → number < vec_len l.drawers → HoldsAt (λ d. drawer_of d ≡ opened_drawer l.initial.gatherer.table_id l.shape.blocks number) (vec_items l.drawers) number;
    }
