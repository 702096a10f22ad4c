-- What a change of one pass does to the receiver.
use Rattle.std.proofs.Common.{arith, ◌≡◌, ◌<◌, ◌≤◌, ◌+◌, ℕ, zero, suc, Bool, true, false, true≢false, List, [], ◌∷◌, ◌++◌, All, Option, Some, None, cond, length, map, get_or, set, sym, refl, ap, ◌∙◌, subst, vec_len, ⊎_elim}
use Rattle.std.proofs.Math.Seq.{map-set_same}
use Rattle.std.proofs.lemmas.List.{get_or-map, get_or_default, get_or_append_left, get_or_push, length_push, get_or-set_other, get_or-set_same, length-map, map-set}
use Rattle.std.proofs.lemmas.List.Elements.{All-push, All-tail}
use Rattle.std.proofs.lemmas.Bool.{cases_lt}
use Rattle.std.proofs.lemmas.Bool.Decides.{eqb_tells}
use Rattle.queue_core.specs.declared.item.Item.{Item}
use Rattle.queue_core.specs.declared.item.Took.{Took}
use Rattle.queue_core.specs.declared.item.Took.TheVariants.{Busy, Empty, Held}
use Rattle.crossbeam_queue.specs.declared.array_queue.Doing.{Doing}
use Rattle.crossbeam_queue.specs.declared.array_queue.Slotted.{Slotted}
use Rattle.crossbeam_queue.specs.Passes.{IsPassOf, IsSamePass, Pass, ruled_capacity, view}
use Rattle.mail_box.specs.declared.lane.Log.{Log}
use Rattle.mail_box.specs.declared.lane_mail.Lanes.{Lanes}
use Rattle.queue_core.specs.Items.{IsFirstOf}
use Rattle.queue_core.specs.Matches.{MatchTook}
use Rattle.mail_box.specs.Mails.{Begins, IsWhole, ReceiverView, SenderView, opened_receiver, opened_sender, put_at, with_item, with_sender}
use Rattle.mail_box.specs.Lanes.{AreOpened, AreSeated, BeginsLane, MayTake, log}
use Rattle.mail_box.specs.LaneViews.{IsWholeAmong, got_by, known_by, receiver_at}

-- one element was replaced
get_or_put : {A : Type 0} (xs : List A) (k : ℕ) (y d : A) (n : ℕ) → k < length xs → get_or (set xs k y) n d ≡ put_at k y (λ m. get_or xs m d) n
get_or_put xs k y d n below =
    ⊎_elim (λ e. ap (λ m. get_or (set xs k y) m d) e.1 ∙ get_or-set_same xs k y d below ∙ sym (ap (λ b. cond b y (get_or xs n d)) e.0))
    (λ e. get_or-set_other xs k n y d e.1 ∙ sym (ap (λ b. cond b y (get_or xs n d)) e.0)) (eqb_tells n k)

abbrev at_each : {A B : Type 0} → (A → B) → List A → B → ℕ → B
at_each f xs d n = get_or (map f xs) n d

put_set : {A B : Type 0} (f : A → B) (xs : List A) (k : ℕ) (y : A) (d : B) → k < length xs → at_each f (set xs k y) d ≡ put_at k (f y) (at_each f xs d)
put_set f xs k y d below i n = (ap (λ l. get_or l n d) (map-set f xs k y) ∙ get_or_put (map f xs) k (f y) d n (subst (λ m. k < m) (sym (length-map xs f)) below)) i

-- an element was replaced that looks the same
keep_set : {A B : Type 0} (f : A → B) (xs : List A) (k : ℕ) (y e : A) (d : B) → f y ≡ f (get_or xs k e) → at_each f (set xs k y) d ≡ at_each f xs d
keep_set f xs k y e d same i n = get_or (map-set_same f xs k y e same i) n d

module _ {Q A : Type 0} where
  -- a pass was replaced by what a call left of it
  pub seated_again : (lanes : List (Slotted (Option Item) (Doing Item Log) Q A)) (passes : List (Pass Item Log)) (k : ℕ) (old new : Pass Item Log)
      → length passes ≡ length lanes → AreSeated lanes passes → old ≡ get_or passes k old → IsSamePass old new → AreSeated lanes (set passes k new)
  seated_again lanes passes k old new beside own is same j lane pass below =
      let lane_at = get_or lanes j lane in
      ⊎_elim
      (λ e.
      let was : IsPassOf lane_at old = subst (λ p. IsPassOf lane_at p) (ap (λ m. get_or passes m old) e.1 ∙ sym is) (own j lane old below) in
      let now : IsPassOf lane_at new = (same.0 ∙ was.0, same.2 ∙ was.1) in
      subst (λ p. IsPassOf lane_at p) (sym (ap (λ m. get_or (set passes k new) m pass) e.1 ∙ get_or-set_same passes k new pass (omega arith))) now)
      (λ e. subst (λ p. IsPassOf lane_at p) (sym (get_or-set_other passes k j new pass e.1)) (own j lane pass below))
      (eqb_tells j k)

-- nothing was taken
pub finds_none : (mailbox : Lanes) (passes : List (Pass Item Log)) (k : ℕ) (old new : Pass Item Log) → old ≡ get_or passes k old → view new ≡ view old
    → receiver_at mailbox (set passes k new) ≡ receiver_at mailbox passes
finds_none mailbox passes k old new is same i =
    record {
      mailbox = mailbox;
      senders = (receiver_at mailbox passes).senders;
      got = keep_set got_by passes k new old [] (ap (λ (v : Log). v.got) same ∙ ap got_by is) i;
      known = keep_set known_by passes k new old None (ap (λ (v : Log). cond v.sends (Some v.sent) None) same ∙ ap known_by is) i;
    }

-- an item was taken
pub takes_one : (mailbox : Lanes) (passes : List (Pass Item Log)) (k : ℕ) (old new : Pass Item Log) (item : Item) → k < length passes → old ≡ get_or passes k old
    → view new ≡ log (view old).sends true (view old).sent ((view old).got ++ item ∷ [])
    → receiver_at mailbox (set passes k new) ≡ with_item (receiver_at mailbox passes) (record { mailbox = mailbox; sender = k; item = item })
takes_one mailbox passes k old new item below is now i =
    let was : get_or (map got_by passes) k [] ≡ (view old).got = get_or-map got_by passes k old [] below ∙ ap got_by (sym is) in
    record {
      mailbox = mailbox;
      senders = (receiver_at mailbox passes).senders;
      got = (put_set got_by passes k new [] below ∙ ap (λ l. put_at k l (λ n. get_or (map got_by passes) n [])) (ap (λ (v : Log). v.got) now ∙ ap (λ l. l ++ item ∷ []) (sym was))) i;
      known = keep_set known_by passes k new old None (ap (λ (v : Log). cond v.sends (Some v.sent) None) now ∙ ap known_by is) i;
    }

-- a sender was taken in
pub takes_sender : (mailbox : Lanes) (passes : List (Pass Item Log)) (k : ℕ) (old new : Pass Item Log) (s : SenderView Lanes) → k < length passes → old ≡ get_or passes k old
    → s.number ≡ k → view new ≡ log true true s.sent (view old).got
    → receiver_at mailbox (set passes k new) ≡ with_sender (receiver_at mailbox passes) s
takes_sender mailbox passes k old new s below is number now i =
    record {
      mailbox = mailbox;
      senders = (receiver_at mailbox passes).senders;
      got = keep_set got_by passes k new old [] (ap (λ (v : Log). v.got) now ∙ ap got_by is) i;
      known = (put_set known_by passes k new None below ∙ (λ j. put_at (sym number j) (ap (λ (v : Log). cond v.sends (Some v.sent) None) now j) (λ n. get_or (map known_by passes) n None))) i;
    }

-- the pass of a sender that was taken in
pub record IsKnownAt (passes : List (Pass Item Log)) (number : ℕ) (sent : List Item) (pass : Pass Item Log) : Type 0 where
  pub below : number < length passes
  pub is : get_or passes number pass ≡ pass
  pub sends : (view pass).sends ≡ true
  pub sent_is : (view pass).sent ≡ sent
  pub got_is : get_or (map got_by passes) number [] ≡ (view pass).got

known_to : (sends : Bool) (sent known : List Item) → cond sends (Some known) None ≡ Some sent → (sends ≡ true) × (known ≡ sent)
known_to true sent known e = (refl, cc)
known_to false sent known e = cc

pub known_at : (passes : List (Pass Item Log)) (number : ℕ) (sent : List Item) → get_or (map known_by passes) number None ≡ Some sent → (pass : Pass Item Log) × IsKnownAt passes number sent pass
known_at [] zero sent e = cc
known_at [] (suc number) sent e = cc
known_at (pass ∷ passes) zero sent e =
    let k = known_to (view pass).sends sent (view pass).sent e in
    (pass, record { below = omega arith; is = refl; sends = k.0; sent_is = k.1; got_is = refl })
known_at (pass ∷ passes) (suc number) sent e =
    let k = known_at passes number sent e in
    (k.0, record { below = omega (arith, k.1.below); is = k.1.is; sends = k.1.sends; sent_is = k.1.sent_is; got_is = k.1.got_is })

pub begins_all : (mailbox : Lanes) (passes : List (Pass Item Log)) → All (λ pass. BeginsLane (view pass)) passes → Begins (receiver_at mailbox passes)
begins_all mailbox passes all number sent e =
    let k = known_at passes number sent e in
    let here : BeginsLane (view k.0) = subst (λ p. BeginsLane (view p)) k.1.is (all number k.0 k.1.below) in
    let P : List Item × List Item → Type 0 = λ y. IsFirstOf y.0 y.1 in
    subst P (λ i. (sym k.1.got_is i, k.1.sent_is i)) (here k.1.sends)

-- a lane in which nothing was found has given all, if its sender was taken in
pub whole_lane : (mailbox : Lanes) (passes : List (Pass Item Log)) (lane : ℕ) (old : Pass Item Log) → old ≡ get_or passes lane old → ((view old).sends ≡ true → (view old).sent ≡ (view old).got)
    → IsWholeAmong lane (lane + 1) (receiver_at mailbox passes)
whole_lane mailbox passes lane old is all number from to sent e =
    let k = known_at passes number sent e in
    let here : number ≡ lane = omega arith in
    let same : k.0 ≡ old = sym k.1.is ∙ get_or_default passes number k.0 old k.1.below ∙ ap (λ n. get_or passes n old) here ∙ sym is in
    let sends : (view old).sends ≡ true = ap (λ (p : Pass Item Log). (view p).sends) (sym same) ∙ k.1.sends in
    k.1.got_is ∙ ap got_by same ∙ sym (all sends) ∙ ap (λ (p : Pass Item Log). (view p).sent) (sym same) ∙ k.1.sent_is

pub whole_more : (r : ReceiverView Lanes) (from lane : ℕ) → IsWholeAmong from lane r → IsWholeAmong lane (lane + 1) r → IsWholeAmong from (lane + 1) r
whole_more r from lane before here number low high =
    ⊎_elim (λ e. here number (omega (arith, e.1)) high) (λ e. before number low (omega (arith, e.1))) (eqb_tells number lane)

-- a lane was added
pub seated_push : {Q A : Type 0} (lanes : List (Slotted (Option Item) (Doing Item Log) Q A)) (passes : List (Pass Item Log)) (lane : Slotted (Option Item) (Doing Item Log) Q A) (pass : Pass Item Log)
    → length passes ≡ length lanes → AreSeated lanes passes → IsPassOf lane pass → AreSeated (lanes ++ lane ∷ []) (passes ++ pass ∷ [])
seated_push {Q} {A} lanes passes lane pass beside own last j l p below =
    let P : Slotted (Option Item) (Doing Item Log) Q A × Pass Item Log → Type 0 = λ y. IsPassOf y.0 y.1 in
    let size : length (lanes ++ lane ∷ []) ≡ length lanes + 1 = length_push lanes lane in
    ⊎_elim (λ e. subst P (λ i. (sym (get_or_push lanes lane l j (sym e.1)) i, sym (get_or_push passes pass p j (beside ∙ sym e.1)) i)) last)
    (λ e.
    let low : j < length lanes = omega (arith, e.1) in
    subst P (λ i. (sym (get_or_append_left lanes (lane ∷ []) l j low) i, sym (get_or_append_left passes (pass ∷ []) p j (subst (λ m. j < m) (sym beside) low)) i)) (own j l p low)) (eqb_tells j (length lanes))

pub opened_more : {Q A : Type 0} (lanes lanes' : List (Slotted (Option Item) (Doing Item Log) Q A)) (sending sending' taking taking' : List (Pass Item Log)) (lane : Slotted (Option Item) (Doing Item Log) Q A) (sender taker : Pass Item Log)
    (count nodes : ℕ) → lanes' ≡ lanes ++ lane ∷ [] → sending' ≡ sending ++ sender ∷ [] → taking' ≡ taking ++ taker ∷ [] → AreOpened lanes sending taking count nodes
    → (ruled_capacity lane ≡ nodes) × IsPassOf lane sender × IsPassOf lane taker → (view sender ≡ log true false [] []) × (view taker ≡ log false true [] [])
    → AreOpened lanes' sending' taking' (count + 1) nodes
opened_more {Q} {A} lanes lanes' sending sending' taking taking' lane sender taker count nodes e f t was own views =
    let P : List (Slotted (Option Item) (Doing Item Log) Q A) × List (Pass Item Log) × List (Pass Item Log) → Type 0 = λ y. AreOpened y.0 y.1 y.2 (count + 1) nodes in
    subst P (λ i. (sym e i, sym f i, sym t i))
    (record {
      count = (length_push lanes lane ∙ ap (λ n. n + 1) was.count.0, length_push sending sender ∙ ap (λ n. n + 1) was.count.1, length_push taking taker ∙ ap (λ n. n + 1) was.count.2);
      room = All-push (λ l. ruled_capacity l ≡ nodes) lanes lane was.room own.0;
      senders_own = seated_push lanes sending lane sender (was.count.1 ∙ sym was.count.0) was.senders_own own.1;
      receiver_own = seated_push lanes taking lane taker (was.count.2 ∙ sym was.count.0) was.receiver_own own.2;
      senders_views = All-push (λ p. view p ≡ log true false [] []) sending sender was.senders_views views.0;
      receiver_views = All-push (λ p. view p ≡ log false true [] []) taking taker was.receiver_views views.1;
    })

-- nothing was taken and no sender was taken in
same_at : {A B : Type 0} (f : A → B) (xs : List A) (d : B) → All (λ x. f x ≡ d) xs → (n : ℕ) → at_each f xs d n ≡ d
same_at f [] d all zero = refl
same_at f [] d all (suc n) = refl
same_at f (x ∷ xs) d all zero = all 0 x (omega arith)
same_at f (x ∷ xs) d all (suc n) = same_at f xs d (All-tail (λ y. f y ≡ d) x xs all) n

pub opens_receiver : (mailbox : Lanes) (passes : List (Pass Item Log)) → All (λ pass. view pass ≡ log false true [] []) passes → receiver_at mailbox passes ≡ opened_receiver mailbox (vec_len mailbox.lanes)
opens_receiver mailbox passes all i =
    record {
      mailbox = mailbox;
      senders = vec_len mailbox.lanes;
      got = λ n. same_at got_by passes [] (λ k d below. ap (λ (v : Log). v.got) (all k d below)) n i;
      known = λ n. same_at known_by passes None (λ k d below. ap (λ (v : Log). cond v.sends (Some v.sent) None) (all k d below)) n i;
    }

pub opens_roles : (passes : List (Pass Item Log)) → All (λ pass. view pass ≡ log false true [] []) passes → All (λ pass. MayTake (view pass)) passes × All (λ pass. BeginsLane (view pass)) passes
opens_roles passes all =
    ((λ k d below. ap (λ (v : Log). v.takes) (all k d below)), λ k d below sends. absurd (true≢false (sym sends ∙ ap (λ (v : Log). v.sends) (all k d below))))

-- nothing was found in any lane
pub whole_all : (mailbox : Lanes) (passes : List (Pass Item Log)) (turn : ℕ) → IsWholeAmong turn (length passes) (receiver_at mailbox passes) → IsWholeAmong 0 turn (receiver_at mailbox passes) → IsWhole (receiver_at mailbox passes)
whole_all mailbox passes turn late early number sent e =
    let k = known_at passes number sent e in
    let below = k.1.below in
    ⊎_elim (λ (h : number < turn). early number (omega arith) h sent e) (λ (h : turn ≤ number). late number h below sent e) (cases_lt number turn)

-- a sender that was just seated
pub opens_sender : (m m' : Lanes) (number most : ℕ) (sent : List Item) → m' ≡ m → sent ≡ []
    → record { mailbox = m'; number = number; nodes = m'.nodes; left = most; is_ended = false; sent = sent } ≡ opened_sender m number m.nodes most
opens_sender m m' number most sent e f i = record { mailbox = e i; number = number; nodes = (e i).nodes; left = most; is_ended = false; sent = f i }

-- a mailbox of lanes is never busy
pub never_busy : {H : Type 0} (took : Took H) (held : H → Type 0) (empty busy : Type 0) → MatchTook took held empty ⊥ → MatchTook took held empty busy
never_busy (Held h) held empty busy t = t
never_busy Empty held empty busy t = t
never_busy Busy held empty busy t = absurd t
