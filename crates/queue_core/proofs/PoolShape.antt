-- A step of a pool leaves as many senders and mailboxes as there were, and the ring as long as it was.
use Rattle.std.proofs.Common.{◌≡◌, ◌∙◌, ℕ, Bool, None, Some, ap, length, refl, subst}
use Rattle.std.specs.Prelude.{if◌then◌else◌}
use Rattle.std.proofs.lemmas.List.{length-set}
use Rattle.queue_core.specs.declared.reader.ReaderPoint.{ReaderPoint}
use Rattle.queue_core.specs.declared.reader.ReaderPoint.TheVariants as reads
use Rattle.queue_core.specs.declared.step.Step.{Step}
use Rattle.queue_core.specs.declared.step.Step.TheVariants as step
use Rattle.queue_core.specs.declared.step.Stepped.{Stepped}
use Rattle.queue_core.specs.declared.step.Stepped.TheVariants.{Moved, NotNow}
use Rattle.queue_core.specs.Pooled.{Pooled, reader_in}
use Rattle.queue_core.specs.PoolSteps.{goes_to, has_next, head_at, is_at_stub, is_last, next_at, stepped_in, stub_link_at, stub_null_at, stub_swap_at, takes}
use Rattle.queue_core.proofs.StepLemmas.{chosen, chosen_some, mapped, passed, some_is}

module _ (c : Pooled) (b : ℕ) where
  abbrev HasShape : Pooled → Type 0
  HasShape n = (n.ring ≡ c.ring) × (length n.heads ≡ length c.heads) × (length n.senders ≡ length c.senders)

  either : (test : Bool) (x y : Pooled) → HasShape x → HasShape y → HasShape (if test then x else y)
  either test x y left right = chosen HasShape test x y (λ _. left) (λ _. right)

  module _ (n : Pooled) where
    shape_next : (point : ReaderPoint) → next_at point b c ≡ Some n → HasShape n
    shape_next point =
        elim point as (λ pt. next_at pt b c ≡ Some n → HasShape n) [
          | reads.Rest ↦ λ e. chosen_some HasShape (is_at_stub b c) _ _ n e (either (has_next b c) _ _ (refl, refl, refl) (refl, refl, refl)) (either (has_next b c) _ _ (refl, refl, refl) (refl, refl, refl))
          | reads.Second ↦ λ e. subst HasShape (passed _ _ n e).1 (either (has_next b c) (takes b c) (goes_to b reads.NodeHead c) (refl, refl, refl) (refl, refl, refl))
          | reads.Last ↦ λ e. some_is HasShape _ n e (either (has_next b c) _ _ (refl, refl, refl) (refl, refl, refl))
          | _ ↦ λ e. cc
        ]

    shape_head : (point : ReaderPoint) → head_at point b c ≡ Some n → HasShape n
    shape_head point =
        elim point as (λ pt. head_at pt b c ≡ Some n → HasShape n) [
          | reads.StubHead ↦ λ e. some_is HasShape _ n e (refl, refl, refl)
          | reads.NodeHead ↦ λ e. some_is HasShape _ n e (either (is_last b c) _ _ (refl, refl, refl) (refl, refl, refl))
          | _ ↦ λ e. cc
        ]

    shape_null : (point : ReaderPoint) → stub_null_at point b c ≡ Some n → HasShape n
    shape_null point = elim point as (λ pt. stub_null_at pt b c ≡ Some n → HasShape n) [ reads.Null ↦ λ e. some_is HasShape _ n e (refl, refl, refl) | _ ↦ λ e. cc ]

    shape_swap : (point : ReaderPoint) → stub_swap_at point b c ≡ Some n → HasShape n
    shape_swap point = elim point as (λ pt. stub_swap_at pt b c ≡ Some n → HasShape n) [ reads.Swap ↦ λ e. some_is HasShape _ n e (refl, length-set c.heads b _, refl) | _ ↦ λ e. cc ]

    shape_link : (point : ReaderPoint) → stub_link_at point b c ≡ Some n → HasShape n
    shape_link point = elim point as (λ pt. stub_link_at pt b c ≡ Some n → HasShape n) [ reads.Link before ↦ λ e. some_is HasShape _ n e (refl, refl, refl) | _ ↦ λ e. cc ]

    pub shape_kept : (s : Step) → stepped_in c b s ≡ Some n → HasShape n
    shape_kept (step.LoadTurn p line amount) e = subst HasShape (passed _ _ n e).1 (either _ _ _ (refl, refl, length-set c.senders p _) (refl, refl, length-set c.senders p _))
    shape_kept (step.StoreLine p) e = subst HasShape (mapped _ _ n e).2 (refl, refl, length-set c.senders p _)
    shape_kept (step.EndLine p) e = subst HasShape (passed _ _ n e).1 (refl, refl, length-set c.senders p _)
    shape_kept (step.StoreAmount p) e = subst HasShape (mapped _ _ n e).2 (refl, refl, length-set c.senders p _)
    shape_kept (step.StoreNull p) e = subst HasShape (mapped _ _ n e).2 (refl, refl, length-set c.senders p _)
    shape_kept (step.SwapHead p) e = subst HasShape (mapped _ _ n e).2 (refl, length-set c.heads b _, length-set c.senders p _)
    shape_kept (step.StoreLink p) e = subst HasShape (mapped _ _ n e).2 (refl, refl, length-set c.senders p _)
    shape_kept step.LoadNext e = shape_next (reader_in c b).point e
    shape_kept step.LoadHead e = shape_head (reader_in c b).point e
    shape_kept step.StubNull e = shape_null (reader_in c b).point e
    shape_kept step.StubSwap e = shape_swap (reader_in c b).point e
    shape_kept step.StubLink e = shape_link (reader_in c b).point e
    shape_kept (step.LoadLine k) e = subst HasShape (passed _ _ n e).1 (refl, refl, refl)
    shape_kept (step.LoadAmount k) e = subst HasShape (passed _ _ n e).1 (refl, refl, refl)
    shape_kept (step.GiveBack k) e = subst HasShape (passed _ _ n e).1 (refl, refl, refl)

-- what a step leaves, where it was due and where it was not
pub mailboxes_kept : (result : Stepped) (c n : Pooled) (b : ℕ) (s : Step) → length c.heads ≡ 1 → (result ≡ Moved → stepped_in c b s ≡ Some n) → (result ≡ NotNow → (stepped_in c b s ≡ None) × (n ≡ c)) → length n.heads ≡ 1
mailboxes_kept Moved c n b s one moved not_now = (shape_kept c b n s (moved refl)).1 ∙ one
mailboxes_kept NotNow c n b s one moved not_now = ap (λ (c : Pooled). length c.heads) (not_now refl).1 ∙ one
