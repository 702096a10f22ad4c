-- A counter opens under its rule, and deals its seats.
use Rattle.std.proofs.Common.{arith, ◌≡◌, ◌∙◌, ◌<◌, ◌+◌, ◌++◌, ◌∷◌, [], ℕ, Bool, false, true, zero, suc, cond, List, length, min, set, ap, sym, refl, subst, inl, inr}
use Rattle.std.specs.Prelude.{nat_lt}
use Rattle.std.specs.List.{sum_by}
use Rattle.std.proofs.lemmas.Bool.Decides.{nat_tests}
use Rattle.std.proofs.lemmas.List.Sums.{sum_by-append, sum_by-cons}
use Rattle.std.proofs.lemmas.List.{length-append}
use mathlib.Core.Option.{some, some-injective, some-ne-none}
use lib.ListN.{get_elem?}
use Rattle.atomic_table.specs.Table.{State, opening, Splits}
use Rattle.block_draw.specs.declared.seats.DrawerSeat.{DrawerSeat}
use Rattle.block_draw.specs.declared.seats.GathererSeat.{GathererSeat}
use Rattle.block_draw.specs.declared.seats.Known.{Known}
use Rattle.block_draw.specs.declared.seats.Known.TheVariants.{Draws, Gathers, Gone}
use Rattle.block_draw.specs.declared.seats.Shape.{Shape}
use Rattle.block_draw.specs.Drawn.{times_drawn}
use Rattle.block_draw.specs.Seats.{IsGatherer, IsOther, IsSmall, done_in, draws_in, drawn_by, times_in}
use Rattle.block_draw.specs.Rule.{KeepsDraw, draw_opened, opened_gatherer}
use Rattle.block_draw.specs.Steps.{after_deal, dealt, gatherer_in}
use Rattle.block_draw.proofs.Counts.{at_end, sum_none}

-- ---- whose seat it is

abbrev IsFirst : Known → Type 0
IsFirst (Gathers g) = Unit {0}
IsFirst (Draws d) = ⊥
IsFirst Gone = ⊥

abbrev gatherer_or : GathererSeat → Known → GathererSeat
gatherer_or g (Gathers h) = h
gatherer_or g (Draws d) = g
gatherer_or g Gone = g

module _ {S : Type 0} (shape : Shape) (s : State S Known) (kept : KeepsDraw shape s) where
  -- a drawer's seat is one of the others
  pub at_drawer : (id : ℕ) (d : DrawerSeat) → get_elem? s.views id ≡ some (Draws d) → (k : ℕ) × (id ≡ suc k) × (get_elem? kept.others k ≡ some (Draws d))
  at_drawer zero d seen =
      let first : Gathers kept.gatherer ≡ Draws d = some-injective (Gathers kept.gatherer) (Draws d) (subst (λ (l : List Known). get_elem? l 0 ≡ some (Draws d)) kept.views seen) in
      absurd (subst IsFirst first tt)
  at_drawer (suc k) d seen = (k, refl, subst (λ (l : List Known). get_elem? l (suc k) ≡ some (Draws d)) kept.views seen)

  -- the seat that gathers is the first
  pub at_gatherer : (id : ℕ) (g : GathererSeat) → get_elem? s.views id ≡ some (Gathers g) → (id ≡ 0) × (kept.gatherer ≡ g)
  at_gatherer zero g seen =
      let first : Gathers kept.gatherer ≡ Gathers g = some-injective (Gathers kept.gatherer) (Gathers g) (subst (λ (l : List Known). get_elem? l 0 ≡ some (Gathers g)) kept.views seen) in
      (refl, ap (gatherer_or g) first)
  at_gatherer (suc k) g seen = absurd (kept.draws k (Gathers g) (subst (λ (l : List Known). get_elem? l (suc k) ≡ some (Gathers g)) kept.views seen))

-- ---- the opening

pub counter_opens : {S : Type 0} (shape : Shape) → IsSmall shape → KeepsDraw {S = S} shape (opening (0 ∷ []) [] (draw_opened shape))
counter_opens shape small = record {
  counter = 0;
  gatherer = opened_gatherer shape 0;
  others = [];
  small = small;
  words = refl;
  views = refl;
  gathers = record { shape_is = refl; dealt = refl; within = omega arith; counted = refl; late = λ number late. refl; done = λ some. absurd (omega (arith, some)) };
  draws = λ number v seen. absurd (some-ne-none v (sym seen));
  once = λ block.
      let none = sum_none shape.drawers (λ drawer. times_drawn block (drawn_by [] drawer)) (λ k below. refl) in
      let not_below : ◌≡◌ {A = ℕ} (cond (nat_lt block (min 0 shape.blocks)) 1 0) 0 = grind (arith, nat_tests) in
      omega (arith, none, not_below);
  past = omega arith;
}

-- ---- a seat is dealt

module _ {S : Type 0} (shape : Shape) (s : State S Known) (kept : KeepsDraw shape s) where
  abbrev last : Known
  last = dealt (Gathers kept.gatherer)

  abbrev others : List Known
  others = kept.others ++ last ∷ []

  abbrev with_one : GathererSeat
  with_one = gatherer_in (after_deal (Gathers kept.gatherer))

  still : (number : ℕ) (v : Known) → IsOther shape kept.counter kept.gatherer number v → IsOther shape kept.counter with_one number v
  still number (Draws d) was = record { shape_is = was.shape_is; number_is = was.number_is; fresh = was.fresh; done = was.done }
  still number (Gathers other) was = was
  still number Gone was = was

  true_is_not : ◌≡◌ {A = Bool} false true → ⊥
  true_is_not e = cc

  dealt_one : kept.gatherer.dealt < kept.gatherer.shape.drawers → (views : List Known) → views ≡ Gathers with_one ∷ others → KeepsDraw shape record { words = s.words; homes = s.homes; views = views }
  dealt_one more views views_are =
      let was : IsGatherer shape kept.counter kept.others kept.gatherer = kept.gathers in
      let long : length others ≡ length kept.others + 1 = length-append kept.others (last ∷ []) in
      let added : (f : Known → ℕ) → sum_by f others ≡ sum_by f kept.others + f last = λ f. let all = sum_by-append f kept.others (last ∷ []) in omega (arith, all, sum_by-cons f last []) in
      record {
        counter = kept.counter;
        gatherer = with_one;
        others = others;
        small = kept.small;
        words = kept.words;
        views = views_are;
        gathers = record {
          shape_is = was.shape_is;
          dealt = omega (arith, was.dealt, long);
          within = let drawers = ap (λ (o : Shape). o.drawers) was.shape_is in omega (arith, long, was.dealt, more, drawers);
          counted = let all = added draws_in in omega (arith, all, long, was.counted);
          late = λ number late. was.late number (omega (arith, late, long));
          done = was.done;
        };
        draws = λ number v there. elim (at_end kept.others last v number there) [
          | inl old ↦ still number v (kept.draws number v old)
          | inr new ↦ subst (IsOther shape kept.counter with_one number) new.1
              (record { shape_is = was.shape_is; number_is = was.dealt ∙ sym new.0; fresh = was.late number (omega (arith, new.0)); done = λ no. absurd (true_is_not no) })
        ];
        once = λ block. let all = added (times_in block) in omega (arith, all, kept.once block);
        past = let all = added done_in in omega (arith, all, kept.past);
      }

module _ {S : Type 0} (shape : Shape) (id : ℕ) where
  pub seat_deals : (g : GathererSeat) → g.dealt < g.shape.drawers → Splits (KeepsDraw {S = S} shape) id (Gathers g) (after_deal (Gathers g)) (dealt (Gathers g))
  seat_deals g more s kept seen =
      let at = at_gatherer shape s kept id g seen in
      subst (λ (x : GathererSeat). KeepsDraw shape record { words = s.words; homes = s.homes; views = set s.views id (after_deal (Gathers x)) ++ dealt (Gathers x) ∷ [] }) at.1
      (dealt_one shape s kept (subst (λ (x : GathererSeat). x.dealt < x.shape.drawers) (sym at.1) more) (set s.views id (after_deal (Gathers kept.gatherer)) ++ dealt (Gathers kept.gatherer) ∷ [])
      (λ i. set (kept.views i) (at.0 i) (after_deal (Gathers kept.gatherer)) ++ dealt (Gathers kept.gatherer) ∷ []))
