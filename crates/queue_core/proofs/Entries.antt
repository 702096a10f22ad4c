-- Lists of entries: what is among them, and those of one sender.
use Rattle.std.proofs.Common.{◌≡◌, ◌∙◌, ◌≤◌, ◌<◌, ◌+◌, ◌-◌, ◌++◌, ◌∷◌, ◌⊎◌, [], ℕ, Bool, true, false, List, Option, zero, suc, filter, length, take, drop, map, get_or, ap, sym, refl, subst, inl, inr, arith}
use Rattle.std.specs.Prelude.{◌==◌}
use Rattle.std.specs.List.{enumerate_from, filter_map, list_any, range_with_len}
use Rattle.std.proofs.lemmas.Bool.{and_from, and_parts, cases_Bool, cases_lt, eq-eqb, eqb-true, false≢true, or_cases, or_left, or_parts, or_right, false_from_ne_true}
use Rattle.std.proofs.lemmas.List.{append-nil, get_or-take, length-append, length-take-le, take-append-drop, take_all, take_at}
use Rattle.std.proofs.lemmas.List.Elements.{filter-append}
use Rattle.std.proofs.lemmas.List.Folds.{list_any-append}
use Rattle.std.proofs.lemmas.List.FromFn.{fill_by_all, take-map-range_with_len}
use Rattle.std.proofs.lemmas.Map.Views.{any-filter_same}
use Rattle.queue_core.specs.declared.entry.Entry.{Entry}
use Rattle.queue_core.specs.declared.entry.Entry.TheVariants.{Of, Stub}
use Rattle.queue_core.specs.declared.item.Item.{Item}
use Rattle.queue_core.specs.declared.item.Item.TheVariants.{End}
use Rattle.queue_core.specs.Mailbox.{Mailbox, is_among, is_same, item_at, received_at}
use Rattle.queue_core.specs.Events.{is_of}
use Rattle.queue_core.specs.Chain.{entry_at}

-- entries that the test finds the same are the same
pub same_true : (e f : Entry) → is_same e f ≡ true → e ≡ f
same_true (Of p k) (Of q j) same =
    let parts = and_parts (p == q) (k == j) same in
    let first : p ≡ q = eqb-true p q parts.0 in
    let second : k ≡ j = eqb-true k j parts.1 in
    cc
same_true (Of p k) Stub same = absurd (false≢true same)
same_true Stub (Of q j) same = absurd (false≢true same)
same_true Stub Stub same = refl

pub same_self : (e : Entry) → is_same e e ≡ true
same_self (Of p k) = and_from (p == p) (k == k) (eq-eqb p p refl) (eq-eqb k k refl)
same_self Stub = refl

-- what is among some entries is among more
pub among_more : (e : Entry) (xs ys : List Entry) → is_among e xs ≡ true → is_among e (xs ++ ys) ≡ true
among_more e xs ys among = list_any-append (is_same e) xs ys ∙ or_left (is_among e xs) (is_among e ys) among

pub among_cases : (e : Entry) (xs ys : List Entry) → is_among e (xs ++ ys) ≡ true → (is_among e xs ≡ true) ⊎ (is_among e ys ≡ true)
among_cases e xs ys among = or_cases (is_among e xs) (is_among e ys) (sym (list_any-append (is_same e) xs ys) ∙ among)

-- an entry among one
pub among_one : (e f : Entry) → is_among e (f ∷ []) ≡ true → e ≡ f
among_one e f among = elim (or_cases (is_same e f) false among) [
  | inl same ↦ same_true e f same
  | inr none ↦ absurd (false≢true none)
]

pub among_last : (e : Entry) (xs : List Entry) → is_among e (xs ++ e ∷ []) ≡ true
among_last e xs = list_any-append (is_same e) xs (e ∷ []) ∙ or_right (is_among e xs) (is_among e (e ∷ [])) (or_left (is_same e e) false (same_self e))

-- an entry among those and one more
pub among_push : (e f : Entry) (xs : List Entry) → is_among e (xs ++ f ∷ []) ≡ true → (is_among e xs ≡ true) ⊎ (e ≡ f)
among_push e f xs among = elim (among_cases e xs (f ∷ []) among) [
  | inl old ↦ inl old
  | inr new ↦ inr (among_one e f new)
]

-- what is among those that a test keeps is among all
pub among_kept : (keep : Entry → Bool) (e : Entry) (xs : List Entry) → is_among e (filter keep xs) ≡ true → is_among e xs ≡ true
among_kept keep e [] among = among
among_kept keep e (x ∷ xs) among = elim (cases_Bool (keep x)) [
  | inl kept ↦ elim (or_cases (is_same e x) (is_among e (filter keep xs)) (rw kept at among)) [
    | inl same ↦ or_left (is_same e x) (is_among e xs) same
    | inr rest ↦ or_right (is_same e x) (is_among e xs) (among_kept keep e xs rest)
  ]
  | inr left ↦ or_right (is_same e x) (is_among e xs) (among_kept keep e xs (rw left at among))
]

-- what is among the first ones is among all
pub among_first : (e : Entry) (n : ℕ) (xs : List Entry) → is_among e (take n xs) ≡ true → is_among e xs ≡ true
among_first e n xs among = subst (λ l. is_among e l ≡ true) (take-append-drop n xs) (among_more e (take n xs) (drop n xs) among)

pub among_rest : (e : Entry) (n : ℕ) (xs : List Entry) → is_among e (drop n xs) ≡ true → is_among e xs ≡ true
among_rest e n xs among =
    subst (λ l. is_among e l ≡ true) (take-append-drop n xs)
    (list_any-append (is_same e) (take n xs) (drop n xs) ∙ or_right (is_among e (take n xs)) (is_among e (drop n xs)) among)

-- the first of some entries is among them
pub head_among : (xs : List Entry) (d : Entry) → 0 < length xs → is_among (get_or xs 0 d) xs ≡ true
head_among [] d some = absurd (omega (arith, some))
head_among (x ∷ xs) d some = or_left (is_same x x) (is_among x xs) (same_self x)

-- a test that nothing passes keeps nothing
pub none_kept : (keep : Entry → Bool) (xs : List Entry) → list_any keep xs ≡ false → filter keep xs ≡ []
none_kept keep [] none = refl
none_kept keep (x ∷ xs) none =
    let parts = or_parts (keep x) (list_any keep xs) none in
    rw parts.0 (none_kept keep xs parts.1)

-- fewer are kept of the entries behind the first
pub fewer_kept : (keep : Entry → Bool) (x : Entry) (xs : List Entry) → length (filter keep xs) ≤ length (filter keep (x ∷ xs))
fewer_kept keep x xs = elim (cases_Bool (keep x)) [
  | inl kept ↦ rw kept (omega arith)
  | inr left ↦ rw left (omega arith)
]

-- the entries of one sender
abbrev pub own : ℕ → List Entry → List Entry
own p entries = filter (is_of p) entries

-- and how many they are
abbrev pub count_own : ℕ → List Entry → ℕ
count_own p entries = length (own p entries)

-- a sender's first entries in turn
abbrev pub in_turn : (sender count : ℕ) → List Entry
in_turn p n = map (Of p) (range_with_len 0 n)

-- an entry of a sender is among its own where it is among all
pub among_own : (p k : ℕ) (xs : List Entry) → is_among (Of p k) (own p xs) ≡ is_among (Of p k) xs
among_own p k xs = any-filter_same (is_same (Of p k)) (is_of p) true only xs
  where
    only : (e : Entry) → is_same (Of p k) e ≡ true → is_of p e ≡ true
    only (Of q j) same = eq-eqb q p (sym (eqb-true p q (and_parts (p == q) (k == j) same).0))
    only Stub same = absurd (false≢true same)

-- the entries at consecutive places
numbered_among : (p k a n : ℕ) → a ≤ k → k < a + n → is_among (Of p k) (map (Of p) (range_with_len a n)) ≡ true
numbered_among p k a zero low high = absurd (omega (arith, low, high))
numbered_among p k a (suc n) low high = elim (cases_lt a k) [
  | inl later ↦ or_right (is_same (Of p k) (Of p a)) (is_among (Of p k) (map (Of p) (range_with_len (a + 1) n))) (numbered_among p k (a + 1) n (omega (arith, later)) (omega (arith, high)))
  | inr here ↦ or_left (is_same (Of p k) (Of p a)) (is_among (Of p k) (map (Of p) (range_with_len (a + 1) n))) (and_from (p == p) (k == a) (eq-eqb p p refl) (eq-eqb k a (omega (arith, low, here))))
]

pub among_numbered : (p k a n : ℕ) → is_among (Of p k) (map (Of p) (range_with_len a n)) ≡ true → (a ≤ k) × (k < a + n)
among_numbered p k a zero among = absurd (false≢true among)
among_numbered p k a (suc n) among = elim (or_cases (is_same (Of p k) (Of p a)) (is_among (Of p k) (map (Of p) (range_with_len (a + 1) n))) among) [
  | inl same ↦ let is : k ≡ a = eqb-true k a (and_parts (p == p) (k == a) same).1 in (omega (arith, is), omega (arith, is))
  | inr rest ↦ let bounds = among_numbered p k (a + 1) n rest in (omega (arith, bounds.0), omega (arith, bounds.1))
]

-- Entries of a sender that are in turn: those at the places below their count are among them, and no others.
pub turn_among : (p k : ℕ) (xs : List Entry) → own p xs ≡ in_turn p (count_own p xs) → k < count_own p xs → is_among (Of p k) xs ≡ true
turn_among p k xs turn below = sym (among_own p k xs) ∙ (ap (is_among (Of p k)) turn ∙ numbered_among p k 0 (count_own p xs) (omega arith) (omega (arith, below)))

pub among_turn : (p k : ℕ) (xs : List Entry) → own p xs ≡ in_turn p (count_own p xs) → is_among (Of p k) xs ≡ true → k < count_own p xs
among_turn p k xs turn among =
    let there : is_among (Of p k) (in_turn p (count_own p xs)) ≡ true = ap (is_among (Of p k)) (sym turn) ∙ (among_own p k xs ∙ among) in
    omega (arith, (among_numbered p k 0 (count_own p xs) there).1)

-- the first of entries that are in turn are in turn
pub first_turn : (p n : ℕ) (xs : List Entry) → own p xs ≡ in_turn p (count_own p xs) → own p (take n xs) ≡ in_turn p (count_own p (take n xs))
first_turn p n xs turn =
    let split : own p (take n xs) ++ own p (drop n xs) ≡ own p xs = sym (filter-append (is_of p) (take n xs) (drop n xs)) ∙ ap (own p) (take-append-drop n xs) in
    let some : count_own p (take n xs) ≤ count_own p xs = omega (arith, ap (λ (l : List Entry). length l) split, length-append (own p (take n xs)) (own p (drop n xs))) in
    sym (take_at (own p (take n xs)) (own p (drop n xs)) (count_own p (take n xs)) refl)
    ∙ (ap (take (count_own p (take n xs))) (split ∙ turn) ∙ take-map-range_with_len (Of p) 0 (count_own p xs) (count_own p (take n xs)) some)

-- the first of some entries are no more than all
pub first_count : (p n : ℕ) (xs : List Entry) → count_own p (take n xs) ≤ count_own p xs
first_count p n xs =
    let split : own p (take n xs) ++ own p (drop n xs) ≡ own p xs = sym (filter-append (is_of p) (take n xs) (drop n xs)) ∙ ap (own p) (take-append-drop n xs) in
    omega (arith, ap (λ (l : List Entry). length l) split, length-append (own p (take n xs)) (own p (drop n xs)))

-- one more entry of the sender, and one that is none of its
pub own_push : (p k : ℕ) (xs : List Entry) → own p (xs ++ Of p k ∷ []) ≡ own p xs ++ Of p k ∷ []
own_push p k xs = filter-append (is_of p) xs (Of p k ∷ []) ∙ ap (λ l. own p xs ++ l) by
  where
    by : own p (Of p k ∷ []) ≡ Of p k ∷ []
    by = rw (eq-eqb p p refl) refl

pub own_other : (p : ℕ) (e : Entry) (xs : List Entry) → is_of p e ≡ false → own p (xs ++ e ∷ []) ≡ own p xs
own_other p e xs other = filter-append (is_of p) xs (e ∷ []) ∙ (ap (λ l. own p xs ++ l) by ∙ append-nil (own p xs))
  where
    by : own p (e ∷ []) ≡ []
    by = rw other refl

-- the item of an entry
abbrev pub item_of : Mailbox → Entry → Item
item_of m (Of p k) = item_at m p k
item_of m Stub = End

-- what is received of a sender are the items of its entries
pub received_own : (m : Mailbox) (p : ℕ) (xs : List Entry) → map (λ pair. pair.1) (filter (λ pair. pair.0 == p) (filter_map (received_at m) xs)) ≡ map (item_of m) (own p xs)
received_own m p [] = refl
received_own m p (Stub ∷ xs) = received_own m p xs
received_own m p (Of q k ∷ xs) = elim (cases_Bool (q == p)) [
  | inl its ↦ rw its (ap (λ l. item_at m q k ∷ l) (received_own m p xs))
  | inr other ↦ rw other (received_own m p xs)
]

map_twice : {X Y Z : Type 0} (f : X → Y) (g : Y → Z) (xs : List X) → map g (map f xs) ≡ map (λ x. g (f x)) xs
map_twice f g [] = refl
map_twice f g (x ∷ xs) = ap (λ l. g (f x) ∷ l) (map_twice f g xs)

-- the items of a sender's first entries are its first items
pub items_in_turn : (m : Mailbox) (p n : ℕ) → n ≤ length (m.items p) → map (item_of m) (in_turn p n) ≡ take n (m.items p)
items_in_turn m p n some =
    map_twice (Of p) (item_of m) (range_with_len 0 n)
    ∙ sym (fill_by_all (item_at m p) (take n (m.items p)) n End (length-take-le n (m.items p) some) (λ k below. get_or-take n (m.items p) k End below))

-- Where a test holds at the places below a bound and at no others, it keeps the first elements.
pub first_placed : {X : Type 0} (test : ℕ → Bool) (n : ℕ) → ((k : ℕ) → k < n → test k ≡ true) → ((k : ℕ) → n ≤ k → test k ≡ false)
    → (a : ℕ) (xs : List X) → map (λ placed. placed.1) (filter (λ placed. test placed.0) (enumerate_from a xs)) ≡ take (n - a) xs
first_placed test n below above a [] = sym (take_all (n - a) [] (omega arith))
first_placed test n below above a (x ∷ xs) = elim (cases_lt a n) [
  | inl here ↦
      let more : n - a ≡ suc (n - (a + 1)) = omega (arith, here) in
      rw (below a here, more) (ap (λ l. x ∷ l) (first_placed test n below above (a + 1) xs))
  | inr past ↦
      let none : n - a ≡ 0 = omega (arith, past) in
      let after : n - (a + 1) ≡ 0 = omega (arith, past) in
      rw (above a past, none) (first_placed test n below above (a + 1) xs ∙ ap (λ (i : ℕ). take i xs) after)
]

-- what is read of some entries is among them
pub read_among : (xs : List Entry) (i : ℕ) (d : Entry) → i < length xs → is_among (get_or xs i d) xs ≡ true
read_among [] i d within = absurd (omega (arith, within))
read_among (x ∷ xs) zero d within = or_left (is_same x x) (is_among x xs) (same_self x)
read_among (x ∷ xs) (suc i) d within = or_right (is_same (get_or xs i d) x) (is_among (get_or xs i d) xs) (read_among xs i d (omega (arith, within)))

-- what is kept passes the test
pub kept_passes : (keep : Entry → Bool) (e : Entry) (xs : List Entry) → is_among e (filter keep xs) ≡ true → keep e ≡ true
kept_passes keep e [] among = absurd (false≢true among)
kept_passes keep e (x ∷ xs) among = elim (cases_Bool (keep x)) [
  | inl kept ↦ elim (or_cases (is_same e x) (is_among e (filter keep xs)) (rw kept at among)) [
    | inl same ↦ ap keep (same_true e x same) ∙ kept
    | inr rest ↦ kept_passes keep e xs rest
  ]
  | inr left ↦ kept_passes keep e xs (rw left at among)
]

-- another entry is among one more where it is among those before
pub among_other : (x f : Entry) (xs : List Entry) → ¬ (x ≡ f) → is_among x (xs ++ f ∷ []) ≡ is_among x xs
among_other x f xs other = elim (cases_Bool (is_among x xs)) [
  | inl there ↦ among_more x xs (f ∷ []) there ∙ sym there
  | inr none ↦ false_from_ne_true (is_among x (xs ++ f ∷ [])) (λ among. elim (among_push x f xs among) [
    | inl old ↦ false≢true (sym none ∙ old)
    | inr same ↦ other same
  ]) ∙ sym none
]

-- where a test keeps one of some entries, it keeps a first one
pub first_kept : (keep : Entry → Bool) (e : Entry) (xs : List Entry) → is_among e xs ≡ true → keep e ≡ true → (f : Entry) × (rest : List Entry) × (filter keep xs ≡ f ∷ rest)
first_kept keep e [] among keeps = absurd (false≢true among)
first_kept keep e (x ∷ xs) among keeps = elim (cases_Bool (keep x)) [
  | inl kept ↦ (x, filter keep xs, rw kept refl)
  | inr left ↦ elim (or_cases (is_same e x) (is_among e xs) among) [
    | inl same ↦ absurd (false≢true (sym left ∙ (ap keep (sym (same_true e x same)) ∙ keeps)))
    | inr later ↦ let found = first_kept keep e xs later keeps in (found.0, found.1, rw left found.2)
  ]
]

-- two maps that agree on some entries give the same
pub same_received : {X : Type 0} (f g : Entry → Option X) (xs : List Entry) → ((e : Entry) → is_among e xs ≡ true → f e ≡ g e) → filter_map f xs ≡ filter_map g xs
same_received f g [] same = refl
same_received f g (x ∷ xs) same =
    let rest : filter_map f xs ≡ filter_map g xs = same_received f g xs (λ e among. same e (or_right (is_same e x) (is_among e xs) among)) in
    let first : f x ≡ g x = same x (or_left (is_same x x) (is_among x xs) (same_self x)) in
    rw (first, rest) refl

-- the only entry of a list
pub only : (xs : List Entry) → length xs ≡ 1 → is_among Stub xs ≡ true → entry_at xs 0 ≡ Stub
only [] size among = absurd (omega (arith, size))
only (x ∷ []) size among = sym (among_one Stub x among)
only (x ∷ y ∷ xs) size among = absurd (omega (arith, size))

-- the only entry is the first
pub alone : (xs : List Entry) → length xs ≡ 1 → entry_at xs 0 ≡ Stub → xs ≡ Stub ∷ []
alone [] size is = absurd (omega (arith, size))
alone (x ∷ []) size is = ap (λ e. e ∷ []) is
alone (x ∷ y ∷ xs) size is = absurd (omega (arith, size))
