-- How many senders were not taken in: all at first, at most one fewer after each that is taken in; and where there are some, there is one.
use Rattle.std.proofs.Common.{arith, ◌≡◌, ◌<◌, ◌≤◌, ◌+◌, ℕ, zero, suc, List, Option, Some, None, cond, ap, subst, sym, refl, ⊎_elim}
use Rattle.std.proofs.lemmas.Bool.Decides.{eqb_tells}
use Rattle.std.proofs.lemmas.Option.{none-some}
use Rattle.queue_core.specs.declared.item.Item.{Item}
use Rattle.mail_box.specs.Mails.{Begins, IsAwaited, ReceiverView, SenderView, opened_receiver, put_at, with_sender}
use Rattle.mail_box.specs.Awaited.{awaited_in, one_if_unknown, unknown_below}

none_known : (n : ℕ) → unknown_below n (λ number. None) ≡ n
none_known zero = refl
none_known (suc n) = omega (arith, none_known n)

at_most_one : (o : Option (List Item)) → one_if_unknown o ≤ 1
at_most_one None = omega arith
at_most_one (Some sent) = omega arith

abbrev UnknownBelow : ℕ → (ℕ → Option (List Item)) → Type 0
UnknownBelow n known = (number : ℕ) × (number < n) × (known number ≡ None)

last_or_before : (n : ℕ) (known : ℕ → Option (List Item)) (o : Option (List Item)) → known n ≡ o → (0 < unknown_below n known → UnknownBelow n known)
    → 0 < unknown_below n known + one_if_unknown o → UnknownBelow (suc n) known
last_or_before n known None e before some = (n, omega arith, e)
last_or_before n known (Some sent) e before some = let found = before (omega (arith, some)) in (found.0, omega (arith, found.1), found.2)

some_unknown : (n : ℕ) (known : ℕ → Option (List Item)) → 0 < unknown_below n known → UnknownBelow n known
some_unknown zero known some = absurd (omega (arith, some))
some_unknown (suc n) known some = last_or_before n known (known n) refl (some_unknown n known) some

module _ (place : ℕ) (value : Option (List Item)) (known : ℕ → Option (List Item)) where
  untouched : (n : ℕ) → n ≤ place → unknown_below n (put_at place value known) ≡ unknown_below n known
  untouched zero past = refl
  untouched (suc n) past =
      ⊎_elim (λ e. absurd (omega (arith, e.1, past)))
      (λ e. let before = untouched n (omega (arith, past)) in let here = ap (λ b. one_if_unknown (cond b value (known n))) e.0 in omega (arith, before, here)) (eqb_tells n place)

  one_fewer : (n : ℕ) → unknown_below n known ≤ unknown_below n (put_at place value known) + 1
  one_fewer zero = omega arith
  one_fewer (suc n) =
      ⊎_elim
      (λ e. let before = untouched n (omega (arith, e.1)) in let here = at_most_one (known n) in omega (arith, before, here))
      (λ e. let before = one_fewer n in let here = ap (λ b. one_if_unknown (cond b value (known n))) e.0 in omega (arith, before, here)) (eqb_tells n place)

module _ {Name : Type 0} where
  pub opens_awaiting : (mailbox : Name) (senders : ℕ) → awaited_in (opened_receiver mailbox senders) ≡ senders
  opens_awaiting mailbox senders = none_known senders

  pub opens_beginning : (mailbox : Name) (senders : ℕ) → Begins (opened_receiver mailbox senders)
  opens_beginning mailbox senders number sent known = absurd (none-some sent known)

  pub one_taken_in : (old new : ReceiverView Name) (s : SenderView Name) → new ≡ with_sender old s → awaited_in old ≤ awaited_in new + 1
  one_taken_in old new s known = subst (λ r. awaited_in old ≤ awaited_in r + 1) (sym known) (one_fewer s.number (Some s.sent) old.known old.senders)

  pub is_awaited : (r : ReceiverView Name) → 0 < awaited_in r → IsAwaited r
  is_awaited r some = some_unknown r.senders r.known some
