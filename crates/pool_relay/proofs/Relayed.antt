-- What a tally knows that has gathered two receivers and taken in two senders.
use Rattle.std.proofs.Common.{List, MatchOption, Option, Some, ap, arith, false, filter, length, map, refl, subst, sym, take, ℕ, zero, suc, [], ◌≡◌, ◌<◌, ◌∙◌, ◌∷◌, ◌==◌}
use Rattle.std.specs.List.{list_any}
use Rattle.queue_core.specs.declared.item.Item.{Item}
use Rattle.queue_core.specs.declared.item.Item.TheVariants.{Post}
use Rattle.queue_core.specs.Items.{is_end}
use Rattle.queue_core.specs.Endings.{HasEnd}
use Rattle.queue_core.proofs.Endings.{all_received}
use Rattle.pool_box.specs.Pools.{Begins, ReceiverView, SenderView, TallyView, put_at, with_receiver, with_sender}
use Rattle.pool_relay.specs.declared.posting.Posting.{Posting}
use Rattle.pool_relay.specs.Postings.{HasGot, closed, posts_to}

no_end : (posts : List Posting) → list_any is_end (map (λ posting. Post posting.line posting.amount) posts) ≡ false
no_end [] = refl
no_end (posting ∷ posts) = no_end posts

module _ {Name : Type 0} where
  -- what was received of a sender, where both were taken in
  received : (t : TallyView Name) (b p : ℕ) (got sent : ℕ → List Item) (posts : List Posting) → Begins t → t.got b ≡ Some got → t.known p ≡ Some sent → sent b ≡ closed b posts → HasEnd (got p) → HasGot t b p (closed b posts)
  received t b p got sent posts begins gathered known is has =
      let first = subst (λ (whole : List Item). take (length (got p)) whole ≡ got p) is (begins b p got sent gathered known) in
      let same : got p ≡ closed b posts = all_received (got p) (closed b posts) (posts_to b posts, no_end (filter (λ (posting : Posting). b == posting.mailbox) posts), refl) first has in
      subst (λ (o : Option (ℕ → List Item)). MatchOption o ⊥ (λ got. got p ≡ closed b posts)) (sym gathered) same

  -- all that is known of a tally that has two receivers and two senders
  pub record HasAll (t : TallyView Name) (here there : ReceiverView Name) (first second : SenderView Name) : Type 0 where
    pub old : TallyView Name
    pub with_here : TallyView Name
    pub with_both : TallyView Name
    pub with_first : TallyView Name
    pub one : with_here ≡ with_receiver old here
    pub two : with_both ≡ with_receiver with_here there
    pub three : with_first ≡ with_sender with_both first
    pub four : t ≡ with_sender with_first second
    pub begins : Begins t
    pub mailboxes : (here.mailbox ≡ 0) × (there.mailbox ≡ 1)
    pub numbers : (first.number ≡ 0) × (second.number ≡ 1)
    pub ends : (p : ℕ) → p < 2 → HasEnd (here.got p) × HasEnd (there.got p)

  module _ (t : TallyView Name) (here there : ReceiverView Name) (first second : SenderView Name) (h : HasAll t here there first second) where
    together : t ≡ with_sender (with_sender (with_receiver (with_receiver h.old here) there) first) second
    together = h.four ∙ ap (λ v. with_sender v second) (h.three ∙ ap (λ v. with_sender v first) (h.two ∙ ap (λ v. with_receiver v there) h.one))

    got_here : t.got 0 ≡ Some here.got
    got_here =
        let P : ℕ × ℕ → Type 0 = λ y. put_at y.1 (Some there.got) (put_at y.0 (Some here.got) h.old.got) 0 ≡ Some here.got in
        ap (λ (v : TallyView Name). v.got 0) together ∙ subst P (λ i. (sym h.mailboxes.0 i, sym h.mailboxes.1 i)) refl

    got_there : t.got 1 ≡ Some there.got
    got_there =
        let P : ℕ × ℕ → Type 0 = λ y. put_at y.1 (Some there.got) (put_at y.0 (Some here.got) h.old.got) 1 ≡ Some there.got in
        ap (λ (v : TallyView Name). v.got 1) together ∙ subst P (λ i. (sym h.mailboxes.0 i, sym h.mailboxes.1 i)) refl

    knows_first : t.known 0 ≡ Some first.sent
    knows_first =
        let P : ℕ × ℕ → Type 0 = λ y. put_at y.1 (Some second.sent) (put_at y.0 (Some first.sent) h.old.known) 0 ≡ Some first.sent in
        ap (λ (v : TallyView Name). v.known 0) together ∙ subst P (λ i. (sym h.numbers.0 i, sym h.numbers.1 i)) refl

    knows_second : t.known 1 ≡ Some second.sent
    knows_second =
        let P : ℕ × ℕ → Type 0 = λ y. put_at y.1 (Some second.sent) (put_at y.0 (Some first.sent) h.old.known) 1 ≡ Some second.sent in
        ap (λ (v : TallyView Name). v.known 1) together ∙ subst P (λ i. (sym h.numbers.0 i, sym h.numbers.1 i)) refl

    -- what was received of a sender that it knows
    all_of : (p : ℕ) (sent : ℕ → List Item) (posts : List Posting) → p < 2 → t.known p ≡ Some sent → ((b : ℕ) → b < 2 → sent b ≡ closed b posts) → (b : ℕ) → b < 2 → HasGot t b p (closed b posts)
    all_of p sent posts small known is zero low = received t 0 p here.got sent posts h.begins got_here known (is 0 low) (h.ends p small).0
    all_of p sent posts small known is (suc zero) low = received t 1 p there.got sent posts h.begins got_there known (is 1 low) (h.ends p small).1
    all_of p sent posts small known is (suc (suc b)) low = absurd (omega (arith, low))

    pub all_of_first : (posts : List Posting) → ((b : ℕ) → b < 2 → first.sent b ≡ closed b posts) → (b : ℕ) → b < 2 → HasGot t b 0 (closed b posts)
    all_of_first posts is = all_of 0 first.sent posts (omega (arith)) knows_first is

    pub all_of_second : (posts : List Posting) → ((b : ℕ) → b < 2 → second.sent b ≡ closed b posts) → (b : ℕ) → b < 2 → HasGot t b 1 (closed b posts)
    all_of_second posts is = all_of 1 second.sent posts (omega (arith)) knows_second is

-- two end marks, by number
pub both_ended : (got : ℕ → List Item) → HasEnd (got 0) → HasEnd (got 1) → (p : ℕ) → p < 2 → HasEnd (got p)
both_ended got first second zero low = first
both_ended got first second (suc zero) low = second
both_ended got first second (suc (suc p)) low = absurd (omega (arith, low))
