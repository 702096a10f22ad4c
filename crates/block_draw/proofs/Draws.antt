-- A drawer adds one to the counter, and the rule is kept.
use Rattle.std.proofs.Common.{arith, ◌≡◌, ◌∙◌, ◌<◌, ◌≤◌, ◌+◌, ◌%◌, ◌^◌, ◌++◌, ◌∷◌, [], ℕ, All, Bool, false, true, suc, cond, List, length, min, set, ap, sym, refl, subst, inl, inr, ⊎_elim}
use Rattle.std.specs.Prelude.{if◌then◌else◌, nat_lt, slice_index}
use Rattle.std.specs.List.{sum_by}
use Rattle.std.proofs.lemmas.Bool.{cases_lt}
use Rattle.std.proofs.lemmas.Bool.Decides.{nat_tests}
use Rattle.std.proofs.lemmas.List.{length-set}
use mathlib.Core.Option.{none, some}
use lib.ListN.{get_elem?}
use Rattle.atomic_table.specs.Table.{State, Allows, step}
use Rattle.atomic_table.specs.Table.Act.{keeps}
use Rattle.atomic_table.proofs.Lists.{at_set}
use Rattle.block_draw.specs.declared.seats.DrawerSeat.{DrawerSeat}
use Rattle.block_draw.specs.declared.seats.GathererSeat.{GathererSeat}
use Rattle.block_draw.specs.declared.seats.Known.{Known}
use Rattle.block_draw.specs.declared.seats.Known.TheVariants.{Draws, Gathers, Gone}
use Rattle.block_draw.specs.declared.seats.Shape.{Shape}
use Rattle.block_draw.specs.Drawn.{times_drawn}
use Rattle.block_draw.specs.Seats.{IsDrawer, IsGatherer, IsOther, done_in, draws_in, drawn_by, times_in}
use Rattle.block_draw.specs.Rule.{KeepsDraw}
use Rattle.block_draw.specs.Steps.{after_draw, out_of_blocks, tells_draw, with_drawn}
use Rattle.block_draw.proofs.Counts.{all_below, below_or_here, done_few, drawn_more, sum_changed}
use Rattle.block_draw.proofs.Openings.{at_drawer}

-- done is done, also where the counter is greater
still_other : (shape : Shape) (counter : ℕ) (g : GathererSeat) (number : ℕ) (v : Known) → IsOther shape counter g number v → IsOther shape (counter + 1) g number v
still_other shape counter g number (Draws d) was = record { shape_is = was.shape_is; number_is = was.number_is; fresh = was.fresh; done = λ is. let at = was.done is in omega (arith, at) }
still_other shape counter g number (Gathers other) was = was
still_other shape counter g number Gone was = was

module _ {S : Type 0} (shape : Shape) (s : State S Known) (kept : KeepsDraw shape s) (k : ℕ) (d : DrawerSeat) (there : get_elem? kept.others k ≡ some (Draws d)) where
  own : IsDrawer shape kept.counter kept.gatherer k d
  own = kept.draws k (Draws d) there

  -- no block from the counter on was drawn by it
  none_late : (block : ℕ) → kept.counter ≤ block → times_drawn block d.drawn ≡ 0
  none_late block late =
      let all = kept.once block in
      let not_below : ◌≡◌ {A = ℕ} (cond (nat_lt block (min kept.counter shape.blocks)) 1 0) 0 = grind (arith, nat_tests) in
      let without = sum_changed (times_in block) kept.others k (Draws d) Gone there in
      omega (arith, all, not_below, without)

  pub drawn_below : All (λ block. block < kept.counter) d.drawn
  drawn_below = all_below kept.counter d.drawn none_late

  -- what the drawer knows then
  module _ (e : DrawerSeat) (shape_is : e.shape ≡ d.shape) (number_is : e.number ≡ d.number) (done : e.is_done ≡ true → shape.blocks ≤ kept.counter + 1)
      (drew : (block : ℕ) → times_drawn block e.drawn + cond (nat_lt block (min kept.counter shape.blocks)) 1 0 ≡ times_drawn block d.drawn + cond (nat_lt block (min (kept.counter + 1) shape.blocks)) 1 0)
      (past : kept.counter + 1 + cond d.is_done 1 0 ≤ shape.blocks + (length kept.gatherer.gathered + sum_by done_in kept.others) + cond e.is_done 1 0) where
    abbrev others : List Known
    others = set kept.others k (Draws e)

    pub counter_raised : (words : List ℕ) (views : List Known) → words ≡ (kept.counter + 1) ∷ [] → views ≡ Gathers kept.gatherer ∷ others → KeepsDraw shape record { words = words; homes = s.homes; views = views }
    counter_raised words views words_are views_are =
        let long : length others ≡ length kept.others = length-set kept.others k (Draws e) in
        let was : IsGatherer shape kept.counter kept.others kept.gatherer = kept.gathers in record {
          counter = kept.counter + 1;
          gatherer = kept.gatherer;
          others = others;
          small = kept.small;
          words = words_are;
          views = views_are;
          gathers = record {
            shape_is = was.shape_is;
            dealt = was.dealt ∙ sym long;
            within = omega (arith, long, was.within);
            counted = let all = sum_changed draws_in kept.others k (Draws d) (Draws e) there in omega (arith, all, long, was.counted);
            late = λ number late. was.late number (omega (arith, late, long));
            done = λ some. let at = was.done some in omega (arith, at);
          };
          draws = λ number v seen. elim (at_set kept.others k number (Draws e) v seen) [
            | inl me ↦ subst (IsOther shape (kept.counter + 1) kept.gatherer number) me.1
                (record { shape_is = shape_is ∙ own.shape_is; number_is = number_is ∙ own.number_is ∙ sym me.0; fresh = ap (drawn_by kept.gatherer.gathered) me.0 ∙ own.fresh; done = done })
            | inr old ↦ still_other shape kept.counter kept.gatherer number v (kept.draws number v old.1)
          ];
          once = λ block. let all = sum_changed (times_in block) kept.others k (Draws d) (Draws e) there in omega (arith, all, kept.once block, drew block);
          past = let all = sum_changed done_in kept.others k (Draws d) (Draws e) there in omega (arith, all, past);
        }

  -- the block at the counter is its own
  next_drew : kept.counter < shape.blocks → (block : ℕ)
      → times_drawn block (d.drawn ++ kept.counter ∷ []) + cond (nat_lt block (min kept.counter shape.blocks)) 1 0 ≡ times_drawn block d.drawn + cond (nat_lt block (min (kept.counter + 1) shape.blocks)) 1 0
  next_drew left block =
      let more = drawn_more block kept.counter d.drawn in
      let below = below_or_here block kept.counter in
      let old : min kept.counter shape.blocks ≡ kept.counter = omega (arith, left) in
      let new : min (kept.counter + 1) shape.blocks ≡ kept.counter + 1 = omega (arith, left) in
      let at_old : ◌≡◌ {A = ℕ} (cond (nat_lt block (min kept.counter shape.blocks)) 1 0) (cond (nat_lt block kept.counter) 1 0) = ap (λ (n : ℕ). cond (nat_lt block n) 1 0) old in
      let at_new : ◌≡◌ {A = ℕ} (cond (nat_lt block (min (kept.counter + 1) shape.blocks)) 1 0) (cond (nat_lt block (kept.counter + 1)) 1 0) = ap (λ (n : ℕ). cond (nat_lt block n) 1 0) new in
      omega (arith, more, below, at_old, at_new)

  -- or none is left
  none_drew : shape.blocks ≤ kept.counter → (block : ℕ) → times_drawn block d.drawn + cond (nat_lt block (min kept.counter shape.blocks)) 1 0 ≡ times_drawn block d.drawn + cond (nat_lt block (min (kept.counter + 1) shape.blocks)) 1 0
  none_drew past block =
      let same : min kept.counter shape.blocks ≡ min (kept.counter + 1) shape.blocks = omega (arith, past) in
      ap (λ n. times_drawn block d.drawn + cond (nat_lt block n) 1 0) same

  pub one_added : d.is_done ≡ false → (words : List ℕ) (views : List Known) → words ≡ (kept.counter + 1) ∷ [] → views ≡ Gathers kept.gatherer ∷ set kept.others k (Draws (after_draw kept.counter d))
      → KeepsDraw shape record { words = words; homes = s.homes; views = views }
  one_added going words views words_are views_are =
      let blocks : d.shape.blocks ≡ shape.blocks = ap (λ (o : Shape). o.blocks) own.shape_is in
      let going_is : ◌≡◌ {A = ℕ} (cond d.is_done 1 0) 0 = ap (λ b. cond b 1 0) going in
      ⊎_elim
      (λ (left : kept.counter < shape.blocks).
      let test : nat_lt kept.counter d.shape.blocks ≡ true = ap (nat_lt kept.counter) blocks ∙ grind (arith, nat_tests) in
      let is : after_draw kept.counter d ≡ with_drawn d kept.counter = ap (λ b. if b then with_drawn d kept.counter else out_of_blocks d) test in
      counter_raised (with_drawn d kept.counter) refl refl (λ yes. absurd (not_both going yes)) (next_drew left) (omega (arith, left, going_is)) words views words_are
      (views_are ∙ ap (λ x. Gathers kept.gatherer ∷ set kept.others k (Draws x)) is))
      (λ (past : shape.blocks ≤ kept.counter).
      let test : nat_lt kept.counter d.shape.blocks ≡ false = ap (nat_lt kept.counter) blocks ∙ grind (arith, nat_tests) in
      let is : after_draw kept.counter d ≡ out_of_blocks d = ap (λ b. if b then with_drawn d kept.counter else out_of_blocks d) test in
      let over = kept.past in
      counter_raised (out_of_blocks d) refl refl (λ yes. omega (arith, past)) (none_drew past) (omega (arith, over, going_is)) words views words_are
      (views_are ∙ ap (λ x. Gathers kept.gatherer ∷ set kept.others k (Draws x)) is))
      (cases_lt kept.counter shape.blocks)
    where
      not_both : {b : Bool} → b ≡ false → b ≡ true → ⊥
      not_both isnt is = cc

  -- the counter is far from the greatest number that a word can have
  pub has_room : kept.counter < 100000
  has_room = omega (arith, kept.past, kept.gathers.counted, kept.gathers.within, kept.small.blocks, kept.small.drawers, done_few kept.others)

module _ {S : Type 0} (shape : Shape) (slots id : ℕ) where
  pub draws : (d : DrawerSeat) → d.is_done ≡ false → Allows (KeepsDraw {S = S} shape) slots id (Draws d, []) 0 (λ n. (n + 1) % 2 ^ 64) (tells_draw (step slots 0 1 0 none) (Draws d, []))
  draws d going s kept homes seen small =
      let at = at_drawer shape s kept id d seen in
      let n : ℕ = slice_index s.words 0 in
      let found : n ≡ kept.counter = ap (λ ws. slice_index ws 0) kept.words in
      let room = has_room shape s kept at.0 d at.2 in
      let raised : (n + 1) % 2 ^ 64 ≡ kept.counter + 1 = omega (arith, found, room) in
      let words : set s.words 0 ((n + 1) % 2 ^ 64) ≡ (kept.counter + 1) ∷ [] = ap (λ m. set s.words 0 m) raised ∙ ap (λ ws. set ws 0 (kept.counter + 1)) kept.words in
      let e : DrawerSeat = after_draw n d in
      let views : set s.views id (Draws e) ≡ Gathers kept.gatherer ∷ set kept.others at.0 (Draws (after_draw kept.counter d)) =
      ap (λ i. set s.views i (Draws e)) at.1 ∙ (ap (λ l. set l (suc at.0) (Draws e)) kept.views ∙ ap (λ m. Gathers kept.gatherer ∷ set kept.others at.0 (Draws (after_draw m d))) found) in
      (Draws e, keeps, tt, one_added shape s kept at.0 d at.2 going (set s.words 0 ((n + 1) % 2 ^ 64)) (set s.views id (Draws e)) words views, (refl, subst (λ m. All (λ block. block < m) d.drawn) (sym found) (drawn_below shape s kept at.0 d at.2)))
