-- A drawer is gathered, and what is known then.
use Rattle.std.proofs.Common.{arith, ◌≡◌, ◌≢◌, ◌∙◌, ◌<◌, ◌≤◌, ◌∷◌, [], ℕ, true, zero, suc, cond, List, length, min, set, ap, sym, refl, subst, inl, inr, ⊎_elim, eq-eqb, ne_eqb}
use Rattle.std.specs.Prelude.{nat_lt, slice_index}
use Rattle.std.specs.List.{sum_by}
use Rattle.std.proofs.lemmas.Bool.{cases_lt}
use Rattle.std.proofs.lemmas.Bool.Decides.{nat_tests}
use Rattle.std.proofs.lemmas.List.{length-set}
use mathlib.Core.Option.{none, some}
use lib.ListN.{get_elem?}
use Rattle.atomic_table.specs.Table.{State, Allows, Joins, step}
use Rattle.atomic_table.specs.Table.Act.{keeps}
use Rattle.atomic_table.proofs.Lists.{at_set}
use Rattle.block_draw.specs.declared.seats.DrawerSeat.{DrawerSeat}
use Rattle.block_draw.specs.declared.seats.GathererSeat.{GathererSeat}
use Rattle.block_draw.specs.declared.seats.Known.{Known}
use Rattle.block_draw.specs.declared.seats.Known.TheVariants.{Draws, Gathers, Gone}
use Rattle.block_draw.specs.declared.seats.Shape.{Shape}
use Rattle.block_draw.specs.Drawn.{sum_below, times_drawn}
use Rattle.block_draw.specs.Seats.{IsDrawer, IsGatherer, IsOther, done_in, draws_in, drawn_by, times_in}
use Rattle.block_draw.specs.Rule.{KeepsDraw, times_so_far}
use Rattle.block_draw.specs.Steps.{AreAllDrawn, gathered_with, gatherer_in, tells_look}
use Rattle.block_draw.specs.Left.{NoneIsLeft}
use Rattle.block_draw.proofs.Counts.{none_draws, seen_at, sum_changed, sum_raised}
use Rattle.block_draw.proofs.Openings.{at_drawer, at_gatherer}

-- ---- what the gatherer's seat knows

module _ {S : Type 0} (shape : Shape) (s : State S Known) (kept : KeepsDraw shape s) where
  -- the rule speaks of the words and the views alone
  pub same_rule : (words : List ℕ) (views : List Known) → words ≡ kept.counter ∷ [] → views ≡ Gathers kept.gatherer ∷ kept.others → KeepsDraw shape record { words = words; homes = s.homes; views = views }
  same_rule words views words_are views_are =
      record { counter = kept.counter; gatherer = kept.gatherer; others = kept.others; small = kept.small; words = words_are; views = views_are; gathers = kept.gathers; draws = kept.draws; once = kept.once; past = kept.past }

  -- once all were gathered, each block was drawn by one of them
  pub all_drawn : AreAllDrawn kept.gatherer
  all_drawn all block =
      let g : GathererSeat = kept.gatherer in
      let own : IsGatherer shape kept.counter kept.others g = kept.gathers in
      let drawers : g.shape.drawers ≡ shape.drawers = ap (λ (o : Shape). o.drawers) own.shape_is in
      let blocks : g.shape.blocks ≡ shape.blocks = ap (λ (o : Shape). o.blocks) own.shape_is in
      let nobody : sum_by draws_in kept.others ≡ 0 = omega (arith, all, drawers, own.counted, own.within) in
      let rest : sum_by (times_in block) kept.others ≡ 0 = none_draws block kept.others nobody in
      let over : shape.blocks ≤ kept.counter = own.done (omega (arith, all, drawers, kept.small.drawers)) in
      let least : min kept.counter shape.blocks ≡ g.shape.blocks = omega (arith, over, blocks) in
      let at : ◌≡◌ {A = ℕ} (cond (nat_lt block (min kept.counter shape.blocks)) 1 0) (cond (nat_lt block g.shape.blocks) 1 0) = ap (λ (n : ℕ). cond (nat_lt block n) 1 0) least in
      let sums = ap (λ n. sum_below n (λ drawer. times_drawn block (drawn_by g.gathered drawer))) drawers in
      omega (arith, kept.once block, rest, at, sums)

-- ---- a drawer is gathered

module _ (d : DrawerSeat) (gathered : List DrawerSeat) where
  drawn_here : drawn_by (d ∷ gathered) d.number ≡ d.drawn
  drawn_here = ap (λ b. cond b d.drawn (drawn_by gathered d.number)) (eq-eqb d.number d.number refl)

  drawn_else : (number : ℕ) → number ≢ d.number → drawn_by (d ∷ gathered) number ≡ drawn_by gathered number
  drawn_else number other = ap (λ b. cond b d.drawn (drawn_by gathered number)) (ne_eqb number d.number other)

module _ {S : Type 0} (shape : Shape) (s : State S Known) (kept : KeepsDraw shape s) (k : ℕ) (d : DrawerSeat) (there : get_elem? kept.others k ≡ some (Draws d)) where
  abbrev with_it : GathererSeat
  with_it = gatherer_in (gathered_with (Gathers kept.gatherer) (Draws d))

  abbrev left : List Known
  left = set kept.others k Gone

  own : IsDrawer shape kept.counter kept.gatherer k d
  own = kept.draws k (Draws d) there

  others_drew : (number : ℕ) → number ≢ k → drawn_by with_it.gathered number ≡ drawn_by kept.gatherer.gathered number
  others_drew number other = drawn_else d kept.gatherer.gathered number (λ same. other (same ∙ own.number_is))

  still : (number : ℕ) (v : Known) → number ≢ k → IsOther shape kept.counter kept.gatherer number v → IsOther shape kept.counter with_it number v
  still number (Draws e) other was = record { shape_is = was.shape_is; number_is = was.number_is; fresh = others_drew number other ∙ was.fresh; done = was.done }
  still number (Gathers x) other was = was
  still number Gone other was = was

  pub drawer_gathered : d.is_done ≡ true → (views : List Known) → views ≡ Gathers with_it ∷ left → KeepsDraw shape record { words = s.words; homes = s.homes; views = views }
  drawer_gathered done views views_are =
      let was : IsGatherer shape kept.counter kept.others kept.gatherer = kept.gathers in
      let long : length left ≡ length kept.others = length-set kept.others k Gone in
      let inside : k < length kept.others = (seen_at kept.others k (Draws d) there).0 in
      let is_done : ◌≡◌ {A = ℕ} (cond d.is_done 1 0) 1 = ap (λ b. cond b 1 0) done in record {
        counter = kept.counter;
        gatherer = with_it;
        others = left;
        small = kept.small;
        words = kept.words;
        views = views_are;
        gathers = record {
          shape_is = was.shape_is;
          dealt = was.dealt ∙ sym long;
          within = omega (arith, long, was.within);
          counted = let sum = sum_changed draws_in kept.others k (Draws d) Gone there in omega (arith, sum, long, was.counted);
          late = λ number late. others_drew number (λ same. omega (arith, same, late, long, inside)) ∙ was.late number (omega (arith, late, long));
          done = λ some_one. own.done done;
        };
        draws = λ number v seen. elim (at_set kept.others k number Gone v seen) [
          | inl me ↦ subst (IsOther shape kept.counter with_it number) me.1 tt
          | inr old ↦ still number v old.0 (kept.draws number v old.1)
        ];
        once = λ block.
            let sum = sum_changed (times_in block) kept.others k (Draws d) Gone there in
            let before = ap (times_drawn block) own.fresh in
            let mine = ap (λ (n : ℕ). times_drawn block (drawn_by with_it.gathered n)) (sym own.number_is) ∙ ap (times_drawn block) (drawn_here d kept.gatherer.gathered) in
            let raised = sum_raised shape.drawers k (times_drawn block d.drawn) (λ drawer. times_drawn block (drawn_by kept.gatherer.gathered drawer)) (λ drawer. times_drawn block (drawn_by with_it.gathered drawer)) (omega (arith, inside, was.within))
            (λ number other. ap (times_drawn block) (others_drew number other)) (omega (arith, mine, before)) in
            omega (arith, sum, kept.once block, raised);
        past = let sum = sum_changed done_in kept.others k (Draws d) Gone there in omega (arith, sum, kept.past, is_done);
      }

module _ {S : Type 0} (shape : Shape) where
  pub gathers_in : (id : ℕ) (g : GathererSeat) (other : ℕ) (d : DrawerSeat) → d.is_done ≡ true → Joins (KeepsDraw {S = S} shape) id (Gathers g) other (Draws d) (gathered_with (Gathers g) (Draws d)) Gone
  gathers_in (suc k) g other d done s kept seen apart there = absurd (let no = (at_gatherer shape s kept (suc k) g seen).0 in omega (arith, no))
  gathers_in zero g zero d done s kept seen apart there = absurd (apart refl)
  gathers_in zero g (suc k) d done s kept seen apart there =
      let is = (at_gatherer shape s kept zero g seen).1 in
      let both : Known = gathered_with (Gathers g) (Draws d) in
      let at : get_elem? kept.others k ≡ some (Draws d) = subst (λ (l : List Known). get_elem? (set l 0 both) (suc k) ≡ some (Draws d)) kept.views there in
      drawer_gathered shape s kept k d at done (set (set s.views 0 both) (suc k) Gone) (λ i. set (set (kept.views i) 0 (gathered_with (Gathers (sym is i)) (Draws d))) (suc k) Gone)

  pub looks : (slots id : ℕ) (g : GathererSeat) → Allows (KeepsDraw {S = S} shape) slots id (Gathers g, []) 0 (λ n. n) (tells_look (step slots 0 0 0 none) (Gathers g, []))
  looks slots (suc k) g s kept homes seen small = absurd (let no = (at_gatherer shape s kept (suc k) g seen).0 in omega (arith, no))
  looks slots zero g s kept homes seen small =
      let is = (at_gatherer shape s kept zero g seen).1 in
      let n : ℕ = slice_index s.words 0 in
      let words : set s.words 0 n ≡ kept.counter ∷ [] = ap (λ (ws : List ℕ). set ws 0 (slice_index ws 0)) kept.words in
      let views : set s.views 0 (Gathers g) ≡ Gathers kept.gatherer ∷ kept.others = λ i. set (kept.views i) 0 (Gathers (sym is i)) in
      (Gathers g, keeps, tt, same_rule shape s kept (set s.words 0 n) (set s.views 0 (Gathers g)) words views, (refl, subst AreAllDrawn is (all_drawn shape s kept)))

-- ---- what it means that none is left

-- where the counter is past the last block, each was drawn
drawn_past : {S : Type 0} (shape : Shape) (s : State S Known) (kept : KeepsDraw shape s) → shape.blocks ≤ kept.counter → (block : ℕ) → block < shape.blocks → times_so_far shape kept.gatherer kept.others block ≡ 1
drawn_past shape s kept past block below =
    let one : ◌≡◌ {A = ℕ} (cond (nat_lt block (min kept.counter shape.blocks)) 1 0) 1 = grind (arith, nat_tests, past, below) in
    kept.once block ∙ one

pub none_is_left : NoneIsLeft
none_is_left = record {
  all = λ shape s kept past. let found = ap (λ (ws : List ℕ). slice_index ws 0) kept.words in drawn_past shape s kept (omega (arith, past, found));
  only = λ shape s kept each. ⊎_elim
      (λ (h : kept.counter < shape.blocks).
      let one = each kept.counter h in
      let none : ◌≡◌ {A = ℕ} (cond (nat_lt kept.counter (min kept.counter shape.blocks)) 1 0) 0 = grind (arith, nat_tests) in
      absurd (omega (arith, one, none, kept.once kept.counter)))
      (λ (h : shape.blocks ≤ kept.counter). let found = ap (λ (ws : List ℕ). slice_index ws 0) kept.words in omega (arith, h, found))
      (cases_lt kept.counter shape.blocks);
  found = λ shape s kept seat d seen done. let at = at_drawer shape s kept seat d seen in drawn_past shape s kept ((kept.draws at.0 (Draws d) at.2).done done);
  gathered = λ shape s kept some_one. drawn_past shape s kept (kept.gathers.done some_one);
}
