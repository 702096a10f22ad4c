-- The first entry that is left is passed: what the links show of it.
use Rattle.std.proofs.Common.{◌≡◌, ◌∙◌, ◌<◌, ◌+◌, ◌-◌, ℕ, true, false, List, drop, length, ap, sym, subst, inl, inr, arith}
use Rattle.std.proofs.lemmas.Bool.{cases_lt, false_from_ne_true, false≢true}
use Rattle.std.proofs.lemmas.List.{drop_more, get_or-drop, length-drop}
use Rattle.queue_core.specs.declared.entry.Entry.{Entry}
use Rattle.queue_core.specs.declared.entry.Entry.TheVariants.{Of, Stub}
use Rattle.queue_core.specs.declared.sender.SenderPoint.{SenderPoint}
use Rattle.queue_core.specs.declared.sender.SenderPoint.TheVariants as sends
use Rattle.queue_core.specs.declared.reader.ReaderPoint.{ReaderPoint}
use Rattle.queue_core.specs.Mailbox.{Mailbox, left_entries}
use Rattle.queue_core.specs.Events.{MayPass, after}
use Rattle.queue_core.specs.Events.Event.{Pass}
use Rattle.queue_core.specs.Chain.{IsChain, entry_at}
use Rattle.queue_core.specs.StoredWords.{link_to, null}
use Rattle.queue_core.specs.Links.{ComesAfter, IsOwedByReader, IsOwedBySender, IsTailAt, Links, ShowLinks, is_in_flight, last_of}
use Rattle.queue_core.proofs.ChainLemmas.{pass}

module _ (m : Mailbox) (k : Links) (shows : ShowLinks k m) (next : ¬ (k.next k.tail ≡ null)) where
  abbrev left : List Entry
  left = left_entries m

  next_first : ¬ (k.next (k.node (entry_at left 0)) ≡ null)
  next_first is = next (ap k.next shows.chain.tail_is ∙ is)

  pub successor : 1 < length left
  successor = elim (cases_lt 1 (length left)) [
    | inl more ↦ more
    | inr one ↦
        let last : length left - 1 ≡ 0 = omega (arith, one) in
        absurd (next_first (rw last at shows.chain.end))
  ]

  next_linked : is_in_flight m (entry_at left 1) ≡ false
  next_linked = false_from_ne_true (is_in_flight m (entry_at left 1)) (λ flies. next_first (rw flies at (shows.chain.links 0 successor)))

  pub may_pass : MayPass m
  may_pass = record { successor = successor; first_linked = shows.chain.first_linked; next_linked = next_linked }

  -- what is read at the tail is the link to the next entry
  pub next_is : k.next k.tail - 1 ≡ k.node (entry_at left 1)
  next_is =
      let first : k.next (k.node (entry_at left 0)) ≡ link_to (k.node (entry_at left 1)) = rw next_linked at (shows.chain.links 0 successor) in
      let tail : k.next k.tail ≡ link_to (k.node (entry_at left 1)) = ap k.next shows.chain.tail_is ∙ first in
      omega (arith, tail)

  abbrev m' : Mailbox
  m' = after Pass m

  pub left_is : left_entries m' ≡ drop 1 left
  left_is =
      let some : m.passed < length m.order = omega (arith, shows.chain.some, length-drop m.passed m.order) in
      sym (ap (drop 1) (drop_more m.order m.passed Stub some))

  module _ (tail : ℕ) (tail_is : tail ≡ k.next k.tail - 1) (point : ReaderPoint) where
    abbrev k' : Links
    k' = record { node = k.node; next = k.next; head = k.head; tail = tail; points = k.points; point = point }

    chain_passed : IsChain k.node k.next (is_in_flight m) k.head tail (left_entries m')
    chain_passed =
        subst (IsChain k.node k.next (is_in_flight m) k.head tail) (sym left_is)
        (subst (λ t. IsChain k.node k.next (is_in_flight m) k.head t (drop 1 left)) (sym (tail_is ∙ next_is)) (pass k.node k.next (is_in_flight m) k.head k.tail left shows.chain successor next_linked))

    comes_still : (e : Entry) (n : ℕ) → is_in_flight m e ≡ true → ComesAfter k m e n → ComesAfter k' m' e n
    comes_still e n flies after =
        let later : 0 < after.0 = elim (cases_lt 0 after.0) [
          | inl some ↦ some
          | inr none ↦
              let second : 1 ≡ after.0 + 1 = omega (arith, none) in
              absurd (false≢true (sym next_linked ∙ (ap (is_in_flight m) (ap (entry_at left) second ∙ after.2) ∙ flies)))
        ] in
        let at : (i : ℕ) → entry_at (left_entries m') i ≡ entry_at left (1 + i) = λ i. ap (λ xs. entry_at xs i) left_is ∙ get_or-drop 1 left i Stub in
        let long : length (left_entries m') ≡ length left - 1 = ap (λ (xs : List Entry). length xs) left_is ∙ length-drop 1 left in
        let here : 1 + (after.0 - 1) ≡ after.0 = omega (arith, later) in
        let there : 1 + (after.0 - 1 + 1) ≡ after.0 + 1 = omega (arith, later) in (
          after.0 - 1,
          omega (arith, after.1, later, long),
          at (after.0 - 1 + 1) ∙ ap (entry_at left) there ∙ after.2,
          ap k.node (at (after.0 - 1) ∙ ap (entry_at left) here) ∙ after.3,
        )

    owed_still : (q : ℕ) (pt : SenderPoint) → IsOwedBySender k m q pt → IsOwedBySender k' m' q pt
    owed_still q pt = elim pt as (λ pt. IsOwedBySender k m q pt → IsOwedBySender k' m' q pt) [
      | sends.Link i n ↦ λ o. (o.0, o.1, o.2, comes_still (Of q (last_of m q)) n o.2 o.3, o.4)
      | _ ↦ λ o. o
    ]

    -- the reader is at a point at which it owes no link
    pub pass_shows : IsOwedByReader k' m' point → IsTailAt k' m' point → ShowLinks k' m'
    pass_shows owed at = record {
      chain = chain_passed;
      senders = λ q. let was = shows.senders q in record { in_flight = owed_still q (k.points q) was.in_flight; at_hand = was.at_hand };
      reader = record { in_flight = owed; at_tail = at };
    }
