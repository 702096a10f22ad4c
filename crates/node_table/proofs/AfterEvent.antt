-- The pool after the event of a step, or after none, and the events that lead to it.
use Rattle.std.proofs.Common.{◌≡◌, ℕ, List, None, Some, Option, refl, sym, subst, inl, inr}
use Rattle.std.proofs.lemmas.Bool.{cases_eq}
use Rattle.queue_core.specs.Mailbox.{IsHeld, Mailbox}
use Rattle.queue_core.specs.Events.{Event, after}
use Rattle.queue_core.specs.Pool.{Pool, PoolLeads}
use Rattle.queue_core.specs.Pool.PoolLeads.{more}
use Rattle.queue_core.specs.Pooled.{Pooled}
use Rattle.queue_core.specs.PoolShows.{ShowsPool}
use Rattle.queue_core.specs.PoolLaws.{ShowsAfterIn}
use Rattle.queue_core.proofs.PoolPosts.{box_other, box_own, same_field}
use Rattle.atomic_table.specs.Table.{State}
use Rattle.queue_core.specs.declared.step.Step.{Step}
use Rattle.queue_core.specs.PoolLaws.{event_in}
use Rattle.queue_core.specs.PoolSteps.{stepped_in}
use Rattle.node_table.specs.declared.seats.Known.{Known}
use Rattle.node_table.specs.declared.seats.Posting.{Posting}
use Rattle.node_table.specs.declared.seats.Shape.{Shape}
use Rattle.node_table.specs.Rule.{KeepsAs, KeepsNodes, KeepsOn, events_after, later_in}

abbrev pub later : Option Event → Mailbox → Mailbox
later None m = m
later (Some event) m = after event m

module _ (q : Pool) (b : ℕ) where
  -- in its mailbox it is what comes of the event
  pub later_own : (event : Option Event) → (later_in event b q).boxes b ≡ later event (q.boxes b)
  later_own None = refl
  later_own (Some event) = box_own q b event

  -- and the others are as they were
  pub later_other : (event : Option Event) (d : ℕ) → ¬ (d ≡ b) → (later_in event b q).boxes d ≡ q.boxes d
  later_other None d other = refl
  later_other (Some event) d other = box_other q b event d other

  -- where the event changes no items of its mailbox, it changes none
  pub later_items : (event : Option Event) → (later event (q.boxes b)).items ≡ (q.boxes b).items → (d : ℕ) → ((later_in event b q).boxes d).items ≡ (q.boxes d).items
  later_items None same d = refl
  later_items (Some event) same d = same_field (λ m. m.items) q b event same d

  -- what was held is held still, where it is so in the mailbox of the event
  pub later_held : (event : Option Event) → ((p k : ℕ) → IsHeld (q.boxes b) p k → IsHeld (later event (q.boxes b)) p k) → (d p k : ℕ) → IsHeld (q.boxes d) p k → IsHeld ((later_in event b q).boxes d) p k
  later_held event still d p k held = elim (cases_eq d b) [
    | inl same ↦ subst (λ (d : ℕ). IsHeld ((later_in event b q).boxes d) p k) (sym same) (subst (λ m. IsHeld m p k) (sym (later_own event)) (still p k (subst (λ (d : ℕ). IsHeld (q.boxes d) p k) same held)))
    | inr other ↦ subst (λ m. IsHeld m p k) (sym (later_other event d other)) held
  ]

  -- what the law of a step tells
  pub told_leads : (event : Option Event) (ring : ℕ) (n : Pooled) (events : List (ℕ × Event)) → PoolLeads ring events q → ShowsAfterIn event ring b q n → PoolLeads ring (events_after event b events) (later_in event b q)
  told_leads None ring n events leads told = leads
  told_leads (Some event) ring n events leads told = more events q b event leads told.0

  pub told_shows : (event : Option Event) (ring : ℕ) (n : Pooled) → ShowsAfterIn event ring b q n → ShowsPool n (later_in event b q)
  told_shows None ring n told = told
  told_shows (Some event) ring n told = told.1

-- ---- the rule after a step

-- Where a step is due and has this event, what is under the rule by the events with that one is so by the step.
pub on_event : (shape : Shape) (s : State Posting Known) (kept : KeepsNodes shape s) (b : ℕ) (x : Step) (event : Option Event) (n : Pooled) (t : State Posting Known)
    → stepped_in kept.core b x ≡ Some n → event_in kept.core kept.pool b x ≡ event
    → KeepsAs shape (events_after event b kept.events) (later_in event b kept.pool) n t → KeepsOn shape s kept b x t
on_event shape s kept b x event n t due is keeps =
    (n, due, subst (λ e. KeepsAs shape (events_after e b kept.events) (later_in e b kept.pool) n t) (sym is) keeps)

-- What is under the rule stands so by its own events.
pub as_it_is : (shape : Shape) (s : State Posting Known) (kept : KeepsNodes shape s) → KeepsAs shape kept.events kept.pool kept.core s
as_it_is shape s kept = record { rule = kept; events_are = refl; pool_is = refl; core_is = refl }
