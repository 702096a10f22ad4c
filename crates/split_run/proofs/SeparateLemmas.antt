-- The mailboxes of a run, each by itself: the senders are handed out, and taken in again.
use Rattle.std.proofs.Common.{ℤ, arith, ◌≡◌, ◌∙◌, ◌<◌, ◌≤◌, ◌+◌, ◌++◌, ◌∷◌, [], ℕ, zero, suc, Bool, true, false, List, None, Option, Some, append_assoc, cond, get_or, length, map, replicate, set, ap, sym, refl, subst, ⊎_elim}
use Rattle.std.specs.Prelude.{◌==◌, option_map}
use Rattle.std.specs.List.{HoldsAt}
use mathlib.Core.List.{map-map}
use Rattle.std.proofs.lemmas.Bool.Decides.{eqb_tells}
use Rattle.std.proofs.lemmas.List.{get_or-map, get_or_at, get_or-set_other, get_or-set_same, length-append, length-map, length-set, map_push, map-set, set-get_or}
use Rattle.queue_core.specs.declared.item.Posted.{Posted}
use Rattle.queue_core.specs.declared.item.Posted.TheVariants.{Full, Sent}
use Rattle.queue_core.specs.Matches.{MatchPosted}
use Rattle.mail_box.specs.Mails.{Begins, ReceiverView, SenderView, opened_receiver, opened_sender, with_end, with_post, with_sender}
use Rattle.split_run.specs.Reading.{inboxes_by}
use Rattle.split_run.specs.Opening.{AreMailboxes, HaveOneMore}
use Rattle.split_run.specs.Running.{HaveTakenInEach, MayTakeIn}
use Rattle.split_run.specs.Sending.{HasEndedAt, HaveSent, postings_to, with_posts}
use Rattle.split_run.proofs.OpeningLemmas.{changed_at, mailbox_more, no_mailbox, some_of}
use Rattle.split_run.proofs.SendingLemmas.{as_it_is, with_none}

-- a walk along a list that has passed so many of its things
pub record HasPassed {A : Type 0} (n : ℕ) (left all : List A) : Type 0 where
  pub done : List A
  pub size : length done ≡ n
  pub whole : done ++ left ≡ all

pub one_passed : {A : Type 0} {n : ℕ} {left all : List A} {x : A} {rest : List A} → HasPassed n left all → left ≡ x ∷ rest → HasPassed (n + 1) rest all
one_passed {x = x} {rest = rest} h is = record {
  done = h.done ++ x ∷ [];
  size = length-append h.done (x ∷ []) ∙ ap (λ (k : ℕ). k + 1) h.size;
  whole = append_assoc h.done (x ∷ []) rest ∙ ap (λ l. h.done ++ l) (sym is) ∙ h.whole;
}

pub next_at : {A : Type 0} {n : ℕ} {left all : List A} {x : A} {rest : List A} → HasPassed n left all → left ≡ x ∷ rest → (d : A) → get_or all n d ≡ x
next_at {n = n} {x = x} {rest = rest} h is d = ap (λ l. get_or l n d) (sym h.whole ∙ ap (λ l. h.done ++ l) is) ∙ get_or_at h.done x rest d n h.size

pub next_below : {A : Type 0} {n : ℕ} {left all : List A} {x : A} {rest : List A} → HasPassed n left all → left ≡ x ∷ rest → n < length all
next_below {x = x} {rest = rest} h is = omega (arith, h.size, ap length (sym h.whole ∙ ap (λ l. h.done ++ l) is) ∙ length-append h.done (x ∷ rest))

pub all_passed : {A : Type 0} {n : ℕ} {left all : List A} → HasPassed n left all → length left ≡ 0 → n ≡ length all
all_passed {left = left} h none = omega (arith, h.size, none, ap length h.whole, length-append h.done left)

-- the senders of the first so many accounts are taken in, each at its mailbox
pub record HaveTakenIn {Name : Type 0} (n : ℕ) (senders : List (SenderView Name)) (was now : List (Option (ReceiverView Name))) : Type 0 where
  pub count : length now ≡ length was
  pub done : (account : ℕ) (s : SenderView Name) (r : ReceiverView Name) → account < n → get_or was account None ≡ Some r → (get_or now account None ≡ Some (with_sender r (get_or senders account s))) × Begins (with_sender r (get_or senders account s))
  pub others : (account : ℕ) → n ≤ account → get_or now account None ≡ get_or was account None

module _ {Name : Type 0} where
  module _ (before : List (SenderView Name)) (account : ℕ) (v : SenderView Name) (below : account < length before) where
    -- one sender has changed, where the others are as before
    changed : (f : Bool → SenderView Name → SenderView Name) → ((t : SenderView Name) → v ≡ f true (get_or before account t)) → ((t : SenderView Name) → f false t ≡ t)
        → (other : ℕ) (t : SenderView Name) → get_or (set before account v) other t ≡ f (other == account) (get_or before other t)
    changed f is same other t =
        ⊎_elim
        (λ e. ap (λ n. get_or (set before account v) n t) e.1 ∙ get_or-set_same before account v t below ∙ is t ∙ (λ i. f (sym e.0 i) (get_or before (sym e.1 i) t)))
        (λ e. get_or-set_other before account other v t e.1 ∙ sym (same (get_or before other t)) ∙ ap (λ b. f b (get_or before other t)) (sym e.0))
        (eqb_tells other account)

    one_sent : (line : ℕ) (amount : ℤ) → ((t : SenderView Name) → v ≡ with_post (get_or before account t) line amount) → HaveSent false before (set before account v) (postings_to account ((line, amount) ∷ []))
    one_sent line amount is = record {
      count = length-set before account v;
      each = λ other t lt.
          as_it_is false (get_or (set before account v) other t) (with_posts (get_or before other t) (postings_to account ((line, amount) ∷ []) other))
          (changed (λ b s. with_posts s (cond b ((line, amount) ∷ []) [])) is with_none other t);
    }

    one_ended : ((t : SenderView Name) → v ≡ with_end (get_or before account t)) → HasEndedAt account before (set before account v)
    one_ended is = record { count = length-set before account v; each = λ other t lt. changed (λ b s. cond b (with_end s) s) is (λ t. refl) other t }

module _ {S Name : Type 0} (sender : S → SenderView Name) (all : List S) (account : ℕ) (x : S) (below : account < length (map sender all)) where
  inside : account < length all
  inside = omega (arith, below, length-map all sender)

  -- the sender of an account, as a clause sees it
  pub seen_there : (t : SenderView Name) → get_or (map sender all) account t ≡ sender (get_or all account x)
  seen_there t = get_or-map sender all account x t inside

  unchanged : (y : S) → sender y ≡ sender (get_or all account x) → map sender (set all account y) ≡ map sender all
  unchanged y is =
      map-set sender all account y ∙ ap (set (map sender all) account) (is ∙ sym (seen_there (sender x))) ∙ set-get_or (map sender all) account (sender x)

  -- it has sent a posting, or not
  pub sent_or_not : (line : ℕ) (amount given : ℤ) (y : S) (posted : Posted) → given ≡ amount
      → MatchPosted posted (sender y ≡ with_post (sender (get_or all account x)) line given) ((sender y ≡ sender (get_or all account x)) × ((sender (get_or all account x)).nodes ≤ length (sender (get_or all account x)).sent))
      → MatchPosted posted (HaveSent false (map sender all) (map sender (set all account y)) (postings_to account ((line, amount) ∷ []))) (map sender (set all account y) ≡ map sender all)
  sent_or_not line amount given y Sent same is =
      subst (λ l. HaveSent false (map sender all) l (postings_to account ((line, amount) ∷ []))) (sym (map-set sender all account y))
      (one_sent (map sender all) account (sender y) below line amount (λ t. is ∙ (λ i. with_post (sym (seen_there t) i) line (same i))))
  sent_or_not line amount given y Full same is = unchanged y is.0

  -- it has ended, or not
  pub ended_or_not : (y : S) (posted : Posted)
      → MatchPosted posted (sender y ≡ with_end (sender (get_or all account x))) ((sender y ≡ sender (get_or all account x)) × ((sender (get_or all account x)).nodes ≤ length (sender (get_or all account x)).sent))
      → MatchPosted posted (HasEndedAt account (map sender all) (map sender (set all account y))) (map sender (set all account y) ≡ map sender all)
  ended_or_not y Sent is =
      subst (HasEndedAt account (map sender all)) (sym (map-set sender all account y)) (one_ended (map sender all) account (sender y) below (λ t. is ∙ ap with_end (sym (seen_there t))))
  ended_or_not y Full is = unchanged y is.0

-- no list has a sender
no_lists : {S V : Type 0} (f : S → V) (n : ℕ) → map (map f) (replicate n []) ≡ replicate n []
no_lists f zero = refl
no_lists f (suc n) = ap (λ l. [] ∷ l) (no_lists f n)

module _ {W S Name : Type 0} (items : W → List S) (sender : S → SenderView Name) where
  abbrev seen : List W → List (List (SenderView Name))
  seen lists = map (λ own. map sender (items own)) lists

  by_map : (lists : List W) → map (map sender) (map items lists) ≡ seen lists
  by_map lists = map-map (map sender) items lists

  pub none_opened : (workers nodes most : ℕ) (lists : List W) → map items lists ≡ replicate workers [] → AreMailboxes workers 0 nodes most (seen lists) []
  none_opened workers nodes most lists none =
      subst (λ l. AreMailboxes workers 0 nodes most l []) (sym (sym (by_map lists) ∙ ap (map (map sender)) none ∙ no_lists sender workers)) (no_mailbox workers nodes most)

  -- one sender more for each, as a clause sees them
  one_more_seen : (before after : List W) (more : List S) → length more ≡ length before → HaveOneMore (map items before) more (map items after) → HaveOneMore (seen before) (map sender more) (seen after)
  one_more_seen before after more enough one = record {
    count = length-map after (λ own. map sender (items own)) ∙ sym (length-map after items) ∙ one.count ∙ length-map before items ∙ sym (length-map before (λ own. map sender (items own)));
    each = λ worker s lt.
        let low : worker < length (map items before) = omega (arith, lt, length-map before items, length-map before (λ own. map sender (items own))) in
        let there : worker < length more = omega (arith, low, enough, length-map before items) in
        let at : (lists : List W) → worker < length (map items lists) → get_or (seen lists) worker [] ≡ map sender (get_or (map items lists) worker []) =
        λ lists lt. ap (λ l. get_or l worker []) (sym (by_map lists)) ∙ get_or-map (map sender) (map items lists) worker [] [] lt in
        let d = some_of more worker there in
        at after (omega (arith, low, one.count)) ∙ ap (map sender) (one.each worker d low) ∙ map_push sender (get_or (map items before) worker []) (get_or more worker d)
        ∙ (λ i. sym (at before low) i ++ sym (get_or-map sender more worker d s there) i ∷ []);
  }

  module _ {R : Type 0} (receiver : R → ReceiverView Name) (workers nodes most : ℕ) where
    -- one mailbox more
    pub one_opened : (accounts : ℕ) (before after : List W) (more : List S) (inboxes inboxes' : List (Option R)) (r : R) → AreMailboxes workers accounts nodes most (seen before) (inboxes_by receiver inboxes)
        → length more ≡ length before → HaveOneMore (map items before) more (map items after) → inboxes' ≡ inboxes ++ Some r ∷ []
        → receiver r ≡ opened_receiver (receiver r).mailbox workers → length more ≡ workers → ((i : ℕ) → i < workers → HoldsAt (λ s. sender s ≡ opened_sender (receiver r).mailbox i nodes most) more i)
        → AreMailboxes workers (accounts + 1) nodes most (seen after) (inboxes_by receiver inboxes')
    one_opened accounts before after more inboxes inboxes' r are enough one pushed fresh count opened =
        mailbox_more workers nodes most accounts (seen before) (seen after) (inboxes_by receiver inboxes) (inboxes_by receiver inboxes') (receiver r).mailbox (map sender more) are (one_more_seen before after more enough one)
        (ap (inboxes_by receiver) pushed ∙ map_push (option_map receiver) inboxes (Some r) ∙ ap (λ v. inboxes_by receiver inboxes ++ Some v ∷ []) fresh)
        (λ worker s low. let there : worker < length more = omega (arith, low, count) in let d = some_of more worker there in get_or-map sender more worker d s there ∙ opened worker low d)

-- the next sender is taken in
module _ {S R Name : Type 0} (sender : S → SenderView Name) (receiver : R → ReceiverView Name) where
  pub record IsNext (was items : List (Option R)) (all own left rest : List S) (n : ℕ) (x : S) (place : Option R) : Type 0 where
    pub same : all ≡ own
    pub count : length (map sender own) ≡ length (inboxes_by receiver was)
    pub ended : MayTakeIn (inboxes_by receiver was) (map sender own)
    pub passed : HasPassed n left all
    pub is : left ≡ x ∷ rest
    pub taken : HaveTakenIn n (map sender all) (inboxes_by receiver was) (inboxes_by receiver items)
    pub at : place ≡ get_or items n place

  pub is_next : (was items : List (Option R)) (place : Option R) {all own left rest : List S} {n : ℕ} {x : S} → all ≡ own → length (map sender own) ≡ length (inboxes_by receiver was) → MayTakeIn (inboxes_by receiver was) (map sender own) → HasPassed n left all → left ≡ x ∷ rest
      → HaveTakenIn n (map sender all) (inboxes_by receiver was) (inboxes_by receiver items) → place ≡ get_or items n place → IsNext was items all own left rest n x place
  is_next was items place same count ended passed is taken at = record { same = same; count = count; ended = ended; passed = passed; is = is; taken = taken; at = at }

  module _ {was items : List (Option R)} {all own left rest : List S} {n : ℕ} {x : S} {place : Option R} (next : IsNext was items all own left rest n x place) where
    here : (s : SenderView Name) → get_or (map sender all) n s ≡ sender x
    here s = get_or-map sender all n x s (next_below next.passed next.is) ∙ ap sender (next_at next.passed next.is x)

    pub is_within : n < length items
    is_within = omega (arith, next_below next.passed next.is, ap length next.same, next.count, length-map own sender, next.taken.count, length-map items (option_map receiver))

    expected : (v : ReceiverView Name) × (get_or (inboxes_by receiver was) n None ≡ Some v) × ((sender x).mailbox ≡ v.mailbox) × ((sender x).is_ended ≡ true)
    expected =
        let s = sender x in
        let has = next.ended n s (omega (arith, is_within, next.taken.count, length-map items (option_map receiver))) in
        let at : get_or (map sender own) n s ≡ s = ap (λ l. get_or (map sender l) n s) (sym next.same) ∙ here s in
        (has.0, has.1, sym (ap (λ v. v.mailbox) at) ∙ has.2, sym (ap (λ v. v.is_ended) at) ∙ has.3)

    stands : option_map receiver place ≡ Some expected.0
    stands = ap (option_map receiver) next.at ∙ sym (get_or-map (option_map receiver) items n place None is_within) ∙ next.taken.others n (omega arith) ∙ expected.1

    pub next_there : place ≡ None → ⊥
    next_there none = let e = stands in let f = ap (option_map receiver) none in absurd (cc)

    module _ (r : R) (there : place ≡ Some r) where
      is_expected : receiver r ≡ expected.0
      is_expected = let e = sym (ap (option_map receiver) there) ∙ stands in cc

      pub its_mailbox : (sender x).mailbox ≡ (receiver r).mailbox
      its_mailbox = expected.2 ∙ ap (λ v. v.mailbox) (sym is_expected)

      pub its_end : (sender x).is_ended ≡ true
      its_end = expected.3

      pub one_taken_in : (new : R) → receiver new ≡ with_sender (receiver r) (sender x) → Begins (receiver new) → HaveTakenIn (n + 1) (map sender all) (inboxes_by receiver was) (inboxes_by receiver (set items n (Some new)))
      one_taken_in new is begins =
          let now = inboxes_by receiver items in
          let y : Option (ReceiverView Name) = Some (receiver new) in
          let put : inboxes_by receiver (set items n (Some new)) ≡ set now n y = map-set (option_map receiver) items n (Some new) in
          let low : n < length now = omega (arith, is_within, length-map items (option_map receiver)) in
          record {
            count = ap length put ∙ length-set now n y ∙ next.taken.count;
            done = λ k s v below at.
                let P : Option (ReceiverView Name) → Type 0 = λ o. (o ≡ Some (with_sender v (get_or (map sender all) k s))) × Begins (with_sender v (get_or (map sender all) k s)) in
                changed_at now (inboxes_by receiver (set items n (Some new))) y None n k put low P
                (λ other. next.taken.done k s v (omega (arith, below, other)) at)
                (λ same.
                let both : Some expected.0 ≡ Some v = sym expected.1 ∙ subst (λ m. get_or (inboxes_by receiver was) m None ≡ Some v) same at in
                let v_is : receiver r ≡ v = let e = is_expected in cc in
                let s_is : get_or (map sender all) k s ≡ sender x = ap (λ m. get_or (map sender all) m s) same ∙ here s in
                let whole : receiver new ≡ with_sender v (get_or (map sender all) k s) = is ∙ (λ i. with_sender (v_is i) (sym s_is i)) in
                (ap Some whole, subst Begins whole begins));
            others = λ k from.
                changed_at now (inboxes_by receiver (set items n (Some new))) y None n k put low (λ o. o ≡ get_or (inboxes_by receiver was) k None)
                (λ other. next.taken.others k (omega (arith, from)))
                (λ same. absurd (omega (arith, same, from)));
          }

  -- so are all
  pub all_taken_in : (was items : List (Option R)) (all own left : List S) (n : ℕ) → all ≡ own → length (map sender own) ≡ length (inboxes_by receiver was) → HasPassed n left all → length left ≡ 0
      → HaveTakenIn n (map sender all) (inboxes_by receiver was) (inboxes_by receiver items)
      → HaveTakenInEach (inboxes_by receiver was) (map sender own) (inboxes_by receiver items)
  all_taken_in was items all own left n same count passed none taken account s r lt there =
      subst (λ l. (get_or (inboxes_by receiver items) account None ≡ Some (with_sender r (get_or (map sender l) account s))) × Begins (with_sender r (get_or (map sender l) account s))) same
      (taken.done account s r (omega (arith, lt, count, length-map own sender, ap length same, all_passed passed none)) there)
