-- One mailbox more is opened, and one sender or receiver more is handed out.
use Rattle.std.proofs.Common.{add-one, arith, ◌≡◌, ◌≢◌, ◌∙◌, ◌<◌, ◌≤◌, ◌+◌, ◌%◌, ◌++◌, ◌∷◌, [], ℕ, Bool, true, false, List, None, Option, Some, cond, get_or, length, map, replicate, set, ap, sym, refl, subst, ⊎_elim}
use Rattle.std.specs.Prelude.{◌==◌, ◌&&◌, nat_lt, option_map}
use Rattle.std.proofs.lemmas.Bool.{cases_lt}
use Rattle.std.proofs.lemmas.Bool.Decides.{eqb_tells, nat_tests}
use Rattle.std.proofs.lemmas.List.{get_or-map, map-set, get_or-replicate, get_or_append_left, get_or-set_other, get_or-set_same, get_or_push, length-append, length-replicate, length-set}
use Rattle.mail_box.specs.Mails.{ReceiverView, SenderView, opened_receiver, opened_sender}
use Rattle.split_run.specs.Reading.{AreUntouched}
use Rattle.split_run.specs.Opening.{AreDealt, AreLeft, AreMailboxes, HaveOneMore, OthersAreLeft}

-- a list that got one element more
pub pushed_at : {A : Type 0} (xs ys : List A) (y d : A) (n k : ℕ) → ys ≡ xs ++ y ∷ [] → length xs ≡ n → k < n + 1 → (P : A → Type 0) → (k < n → P (get_or xs k d)) → (k ≡ n → P y) → P (get_or ys k d)
pushed_at xs ys y d n k pushed size below P before last =
    ⊎_elim
    (λ (h : k < n). subst P (sym (ap (λ l. get_or l k d) pushed ∙ get_or_append_left xs (y ∷ []) d k (omega (arith, h, size)))) (before h))
    (λ (h : n ≤ k).
    let same : k ≡ n = omega (arith, h, below) in
    subst P (sym (ap (λ l. get_or l k d) pushed ∙ get_or_push xs y d k (size ∙ sym same))) (last same))
    (cases_lt k n)

-- a list of which one element changed
pub changed_at : {A : Type 0} (xs ys : List A) (y d : A) (n k : ℕ) → ys ≡ set xs n y → n < length xs → (P : A → Type 0) → (k ≢ n → P (get_or xs k d)) → (k ≡ n → P y) → P (get_or ys k d)
changed_at xs ys y d n k changed within P before here =
    ⊎_elim
    (λ e. subst P (sym (ap (λ l. get_or l k d) changed ∙ ap (λ (i : ℕ). get_or (set xs n y) i d) e.1 ∙ get_or-set_same xs n y d within)) (here e.1))
    (λ e. subst P (sym (ap (λ l. get_or l k d) changed ∙ get_or-set_other xs n k y d e.1)) (before e.1))
    (eqb_tells k n)

-- some value of a list that is not empty
pub some_of : {A : Type 0} (xs : List A) (k : ℕ) → k < length xs → A
some_of [] k lt = absurd (omega (arith, lt))
some_of (x ∷ xs) k lt = x

-- one element further on
pub at_next : {X : Type 0} (x : X) (xs : List X) (k : ℕ) (d : X) → get_or (x ∷ xs) (k + 1) d ≡ get_or xs k d
at_next x xs k d = rw add-one refl

-- the places before this one are dealt
pub record IsDealtUpTo {V : Type 0} (readers reader place : ℕ) (was left own : List (Option V)) : Type 0 where
  pub count : length left ≡ length was
  pub dealt : length own ≡ place
  pub own_at : (account : ℕ) → account < place → get_or own account None ≡ cond (reader == account % readers) (get_or was account None) None
  pub left_at : (account : ℕ) → account < length was → get_or left account None ≡ cond (nat_lt account place && (reader == account % readers)) None (get_or was account None)

module _ {V : Type 0} (readers reader : ℕ) (was : List (Option V)) where
  pub none_dealt : IsDealtUpTo readers reader 0 was was []
  none_dealt = record {
    count = refl;
    dealt = refl;
    own_at = λ account below. absurd (omega (arith, below));
    left_at = λ account lt.
        let none : nat_lt account 0 ≡ false = grind (arith, nat_tests) in
        sym (ap (λ b. cond (b && (reader == account % readers)) None (get_or was account None)) none);
  }

  pub dealt_more : (place : ℕ) (left own left' own' : List (Option V)) (x : Option V) → IsDealtUpTo readers reader place was left own → place < length was → x ≡ get_or left place None
      → left' ≡ set left place (cond (reader == place % readers) None x) → own' ≡ own ++ cond (reader == place % readers) x None ∷ []
      → IsDealtUpTo readers reader (place + 1) was left' own'
  dealt_more place left own left' own' x is within here put pushed =
      let not_before : nat_lt place place ≡ false = grind (arith, nat_tests) in
      let mine : Bool = reader == place % readers in
      let stays : x ≡ get_or was place None = here ∙ is.left_at place within ∙ ap (λ b. cond (b && mine) None (get_or was place None)) not_before in
      record {
        count = ap length put ∙ length-set left place (cond mine None x) ∙ is.count;
        dealt = ap length pushed ∙ length-append own (cond mine x None ∷ []) ∙ ap (λ (n : ℕ). n + 1) is.dealt;
        own_at = λ account below.
            pushed_at own own' (cond mine x None) None place account pushed is.dealt below (λ o. o ≡ cond (reader == account % readers) (get_or was account None) None) (is.own_at account)
            (λ same. subst (λ (k : ℕ). cond mine x None ≡ cond (reader == k % readers) (get_or was k None) None) (sym same) (ap (λ o. cond mine o None) stays));
        left_at = λ account lt.
            changed_at left left' (cond mine None x) None place account put (omega (arith, within, is.count)) (λ o. o ≡ cond (nat_lt account (place + 1) && (reader == account % readers)) None (get_or was account None))
            (λ other. let same : nat_lt account place ≡ nat_lt account (place + 1) = grind (arith, nat_tests, other) in is.left_at account lt ∙ ap (λ b. cond (b && (reader == account % readers)) None (get_or was account None)) same)
            (λ same.
            let now : nat_lt place (place + 1) ≡ true = grind (arith, nat_tests) in
            subst (λ (k : ℕ). cond mine None x ≡ cond (nat_lt k (place + 1) && (reader == k % readers)) None (get_or was k None)) (sym same)
            (ap (cond mine None) stays ∙ sym (ap (λ b. cond (b && mine) None (get_or was place None)) now)));
      }

  pub all_dealt : (left own : List (Option V)) (place : ℕ) → place ≡ length was → IsDealtUpTo readers reader place was left own → AreDealt readers reader was own
  all_dealt left own place whole is = record { count = is.dealt ∙ whole; each = λ account lt. is.own_at account (omega (arith, lt, whole)) }

  pub others_left : (left own : List (Option V)) (place : ℕ) → place ≡ length was → IsDealtUpTo readers reader place was left own → OthersAreLeft readers reader was left
  others_left left own place whole is account lt =
      let done : nat_lt account place ≡ true = grind (arith, nat_tests, lt, whole) in
      is.left_at account lt ∙ ap (λ b. cond (b && (reader == account % readers)) None (get_or was account None)) done

-- the first so many have a sender more
pub record HaveOneMoreUpTo {V : Type 0} (number : ℕ) (was : List (List V)) (senders : List V) (now : List (List V)) : Type 0 where
  pub count : length now ≡ length was
  pub done : (worker : ℕ) (s : V) → worker < number → get_or now worker [] ≡ get_or was worker [] ++ get_or senders worker s ∷ []
  pub others : (worker : ℕ) → number ≤ worker → worker < length was → get_or now worker [] ≡ get_or was worker []

module _ {V : Type 0} (was : List (List V)) (senders : List V) where
  pub none_given : HaveOneMoreUpTo 0 was senders was
  none_given = record { count = refl; done = λ worker s below. absurd (omega (arith, below)); others = λ worker from lt. refl }

  pub one_given : (number : ℕ) (now now' : List (List V)) (sender : V) → HaveOneMoreUpTo number was senders now → number < length was → ((s : V) → get_or senders number s ≡ sender)
      → now' ≡ set now number (get_or now number [] ++ sender ∷ []) → HaveOneMoreUpTo (number + 1) was senders now'
  one_given number now now' sender have within is put =
      let given = get_or now number [] ++ sender ∷ [] in
      let inside : number < length now = omega (arith, within, have.count) in
      record {
        count = ap length put ∙ length-set now number given ∙ have.count;
        done = λ worker s below.
            changed_at now now' given [] number worker put inside (λ l. l ≡ get_or was worker [] ++ get_or senders worker s ∷ [])
            (λ other. have.done worker s (omega (arith, below, other)))
            (λ same.
            subst (λ (k : ℕ). given ≡ get_or was k [] ++ get_or senders k s ∷ []) (sym same)
            (λ i. have.others number (omega arith) within i ++ sym (is s) i ∷ []));
        others = λ worker from lt.
            changed_at now now' given [] number worker put inside (λ l. l ≡ get_or was worker [])
            (λ other. have.others worker (omega (arith, from)) lt)
            (λ same. absurd (omega (arith, same, from)));
      }

module _ {Name : Type 0} (workers nodes most : ℕ) where
  -- no mailbox yet
  pub no_mailbox : AreMailboxes {Name = Name} workers 0 nodes most (replicate workers []) []
  no_mailbox = record {
    count = length-replicate workers [];
    places = refl;
    whole = λ worker below. ap length (get_or-replicate workers worker [] [] below);
    each = λ account below. absurd (omega (arith, below));
  }

  -- one mailbox more
  pub mailbox_more : (accounts : ℕ) (senders senders' : List (List (SenderView Name))) (inboxes inboxes' : List (Option (ReceiverView Name))) (mailbox : Name) (more : List (SenderView Name))
      → AreMailboxes workers accounts nodes most senders inboxes → HaveOneMore senders more senders' → inboxes' ≡ inboxes ++ Some (opened_receiver mailbox workers) ∷ []
      → ((worker : ℕ) (s : SenderView Name) → worker < workers → get_or more worker s ≡ opened_sender mailbox worker nodes most)
      → AreMailboxes workers (accounts + 1) nodes most senders' inboxes'
  mailbox_more accounts senders senders' inboxes inboxes' mailbox more are one pushed opened =
      let longer : (worker : ℕ) → worker < workers → get_or senders' worker [] ≡ get_or senders worker [] ++ opened_sender mailbox worker nodes most ∷ [] =
      λ worker below. let s = opened_sender mailbox worker nodes most in one.each worker s (omega (arith, below, are.count)) ∙ ap (λ v. get_or senders worker [] ++ v ∷ []) (opened worker s below) in
      record {
        count = one.count ∙ are.count;
        places = ap length pushed ∙ length-append inboxes (Some (opened_receiver mailbox workers) ∷ []) ∙ ap (λ (n : ℕ). n + 1) are.places;
        whole = λ worker below. ap length (longer worker below) ∙ length-append (get_or senders worker []) (opened_sender mailbox worker nodes most ∷ []) ∙ ap (λ (n : ℕ). n + 1) (are.whole worker below);
        each = λ account below.
            ⊎_elim
            (λ (h : account < accounts).
            let before = are.each account h in (
              before.0,
              ap (λ l. get_or l account None) pushed ∙ get_or_append_left inboxes (Some (opened_receiver mailbox workers) ∷ []) None account (omega (arith, h, are.places)) ∙ before.1,
              λ worker s low.
                  ap (λ l. get_or l account s) (longer worker low) ∙ get_or_append_left (get_or senders worker []) (opened_sender mailbox worker nodes most ∷ []) s account (omega (arith, h, are.whole worker low)) ∙ before.2 worker s low,
            ))
            (λ (h : accounts ≤ account).
            let same : account ≡ accounts = omega (arith, h, below) in (
              mailbox,
              ap (λ l. get_or l account None) pushed ∙ get_or_push inboxes (Some (opened_receiver mailbox workers)) None account (are.places ∙ sym same),
              λ worker s low. ap (λ l. get_or l account s) (longer worker low) ∙ get_or_push (get_or senders worker []) (opened_sender mailbox worker nodes most) s account (are.whole worker low ∙ sym same),
            ))
            (cases_lt account accounts);
      }

-- what is not taken is nothing, seen either way
pub cond_none : {A B : Type 0} (f : A → B) (b : Bool) (x : Option A) → option_map f (cond b None x) ≡ cond b None (option_map f x)
cond_none f true x = refl
cond_none f false x = refl

pub cond_taken : {A B : Type 0} (f : A → B) (b : Bool) (x : Option A) → option_map f (cond b x None) ≡ cond b (option_map f x) None
cond_taken f true x = refl
cond_taken f false x = refl

-- an element of a list that got one more
pub given_at : {W V : Type 0} (f : W → List V) (all : List W) (number : ℕ) (x new : W) (v : V) → number < length all → x ≡ get_or all number x → f new ≡ f x ++ v ∷ []
    → map f (set all number new) ≡ set (map f all) number (get_or (map f all) number [] ++ v ∷ [])
given_at f all number x new v within at more =
    let there : f x ≡ get_or (map f all) number [] = sym (get_or-map f all number x [] within ∙ ap f (sym at)) in
    map-set f all number new ∙ ap (set (map f all) number) (more ∙ ap (λ l. l ++ v ∷ []) there)

module _ {V : Type 0} (readers reader : ℕ) (was left : List (Option V)) (is : AreLeft readers reader was left) where
  pub dealt_of_left : (own : List (Option V)) → AreDealt readers reader left own → AreDealt readers reader was own
  dealt_of_left own of = record {
    count = of.count ∙ is.count;
    each = λ account lt.
        of.each account (omega (arith, lt, is.count))
        ∙ ⊎_elim
        (λ e.
        let mine : (reader == account % readers) ≡ true = e.0 in
        let same : reader ≡ account % readers = e.1 in
        let not_before : nat_lt (account % readers) reader ≡ false = grind (arith, nat_tests, same) in
        ap (λ o. cond (reader == account % readers) o None) (is.each account lt ∙ ap (λ b. cond b None (get_or was account None)) not_before))
        (λ e. ap (λ b. cond b (get_or left account None) None) e.0 ∙ sym (ap (λ b. cond b (get_or was account None) None) e.0))
        (eqb_tells reader (account % readers));
  }

  pub left_more : (left' : List (Option V)) → length left' ≡ length left → OthersAreLeft readers reader left left'
      → AreLeft readers (reader + 1) was left'
  left_more left' count others = record {
    count = count ∙ is.count;
    each = λ account lt.
        others account (omega (arith, lt, is.count))
        ∙ ap (cond (reader == account % readers) None) (is.each account lt)
        ∙ both account;
  }
    where
      both : (account : ℕ) → cond (reader == account % readers) None (cond (nat_lt (account % readers) reader) None (get_or was account None)) ≡ cond (nat_lt (account % readers) (reader + 1)) None (get_or was account None)
      both account =
          ⊎_elim
          (λ e.
          let same : reader ≡ account % readers = e.1 in
          let now : nat_lt (account % readers) (reader + 1) ≡ true = grind (arith, nat_tests, same) in
          ap (λ b. cond b None (cond (nat_lt (account % readers) reader) None (get_or was account None))) e.0 ∙ sym (ap (λ b. cond b None (get_or was account None)) now))
          (λ e.
          let other : reader ≢ account % readers = e.1 in
          let same : nat_lt (account % readers) reader ≡ nat_lt (account % readers) (reader + 1) = grind (arith, nat_tests, other) in
          ap (λ b. cond b None (cond (nat_lt (account % readers) reader) None (get_or was account None))) e.0 ∙ ap (λ b. cond b None (get_or was account None)) same)
          (eqb_tells reader (account % readers))

pub all_left : {V : Type 0} (readers : ℕ) (was : List (Option V)) → AreLeft readers 0 was was
all_left readers was = record {
  count = refl;
  each = λ account lt. let none : nat_lt (account % readers) 0 ≡ false = grind (arith, nat_tests) in sym (ap (λ b. cond b None (get_or was account None)) none);
}

-- what was dealt is untouched where all was
pub untouched_dealt : {Name : Type 0} (workers readers reader : ℕ) (was own : List (Option (ReceiverView Name))) → AreDealt readers reader was own → AreUntouched workers (length was) was → AreUntouched workers (length was) own
untouched_dealt {Name = Name} workers readers reader was own of untouched account lt r is = go (reader == account % readers) (sym (of.each account lt) ∙ is)
  where
    go : (b : Bool) → cond b (get_or was account None) None ≡ Some r → (r.senders ≡ workers) × (r.got ≡ (λ sender. []))
    go true at = untouched account lt r at
    go false at = absurd (cc)
