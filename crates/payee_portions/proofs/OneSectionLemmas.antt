-- The portions of a work stand together in a list in order.
use Rattle.std.proofs.Common.{◌≡◌, ◌∙◌, ◌≤◌, ◌<◌, ◌∷◌, ◌++◌, [], ℕ, ℤ, zero, suc, All, Bool, true, false, List, None, Option, Some, Less, Equal, Greater, IsSorted, ap, append-nil, arith, cond, drop, filter, get_or, inl, inr, is_gt, is_lt, length, length-drop, nat_cmp, nat_eq, one-add, refl, slice_get, sym, take, take-append-drop, take_while}
use Rattle.std.specs.Bool.{⊤}
use Rattle.std.specs.Cmp.{IsTotalOrder, alike_right, nat_cmp_total, on_total, then_total, tied_itself}
use Rattle.std.specs.Cmp.Lexicographic.{bytes_decides, nat_list_cmp_total, nat_list_eq_equiv, pointwise, slice_cmp, texts_ties}
use Rattle.std.specs.List.{cons_option}
use Rattle.std.specs.Option.{option_map}
use Rattle.std.specs.Ordering.{is_eq, ordering_reverse, ordering_then}
use Rattle.std.specs.declared.cmp.Ordering.{Ordering}
use Rattle.std.proofs.lemmas.Bool.{cases_Bool, false≢true}
use Rattle.std.proofs.lemmas.List.Elements.{All-cons, All-drop, All-head, All-nil, All-tail, All-take, filter-append}
use Rattle.std.proofs.lemmas.List.Sorted.{All-permutation, ranks_by, sorted_far}
use Rattle.std.proofs.lemmas.List.Sums.{take_while-cons}
use Rattle.cwr_share.specs.Registered.{Registered}
use Rattle.line_split.specs.UsageLine.{UsageLine}
use Rattle.payee_portions.specs.Portions.{AreListed, Portion, by_title, portion_by, portions_of}
use Rattle.payee_portions.specs.Sections.{is_of, section_length, sections_from, sections_of}

-- by title and work alone
abbrev by_work : Portion → Portion → Ordering
by_work portion other = ordering_then (slice_cmp nat_cmp portion.title other.title) (slice_cmp nat_cmp portion.line.work other.line.work)

by_work_total : IsTotalOrder by_work
by_work_total = then_total (on_total (λ (p : Portion). p.title) nat_list_cmp_total) (on_total (λ (p : Portion). p.line.work) nat_list_cmp_total)

by_title_total : IsTotalOrder by_title
by_title_total =
    then_total (on_total (λ (p : Portion). p.title) nat_list_cmp_total)
    (then_total (on_total (λ (p : Portion). p.line.work) nat_list_cmp_total) (on_total (λ (p : Portion). p.row) nat_cmp_total))

-- the portion does not stand behind the other
abbrev IsUpTo : Portion → Portion → Type 0
IsUpTo portion other = is_gt (by_work portion other) ≡ false

abbrev IsInOrder : List Portion → Type 0
IsInOrder [] = ⊤
IsInOrder (first ∷ later) = All (IsUpTo first) later × IsInOrder later

not_back : (o other last : Ordering) → is_lt (ordering_then o (ordering_then other last)) ≡ false → is_gt (ordering_reverse (ordering_then o other)) ≡ false
not_back Less other last is = absurd (false≢true (sym is))
not_back Equal Less last is = absurd (false≢true (sym is))
not_back Equal Equal last is = refl
not_back Equal Greater last is = refl
not_back Greater other last is = refl

up_to : (portion other : Portion) → is_lt (by_title other portion) ≡ false → IsUpTo portion other
up_to portion other is =
    ap is_gt (by_work_total.antisymm portion other)
    ∙ not_back (slice_cmp nat_cmp other.title portion.title) (slice_cmp nat_cmp other.line.work portion.line.work) (nat_cmp other.row portion.row) is

in_order : (list : List Portion) → ((i j : ℕ) (d : Portion) → i ≤ j → j < length list → is_lt (by_title (get_or list j d) (get_or list i d)) ≡ false) → IsInOrder list
in_order [] up = tt
in_order (first ∷ later) up = (
  λ k d below. up_to first (get_or later k d) (up 0 (suc k) d (omega arith) (omega (arith, below))),
  in_order later (λ i j d le below. up (suc i) (suc j) d (omega (arith, le)) (omega (arith, below))),
)

sorted_in_order : (list : List Portion) → IsSorted by_title list → IsInOrder list
sorted_in_order list up = in_order list (sorted_far (λ (x y : Portion). is_lt (by_title x y)) (ranks_by by_title_total (λ (p : Portion). p)) list up)

in_order-drop : (n : ℕ) (list : List Portion) → IsInOrder list → IsInOrder (drop n list)
in_order-drop zero list up = up
in_order-drop (suc n) [] up = up
in_order-drop (suc n) (first ∷ later) up = in_order-drop n later up.1

-- ---- titles

abbrev IsTitled : (List ℕ → List ℕ) → Portion → Type 0
IsTitled title_of portion = portion.title ≡ title_of portion.line.work

module _ (table : List (ℕ × List ℕ)) (registered : Registered) (usage : List UsageLine) (title_of : List ℕ → List ℕ) (account : ℕ) where
  titled : (statement : List (ℕ × ℤ)) → All (IsTitled title_of) (portions_of table registered usage title_of account statement)
  titled [] = All-nil (IsTitled title_of)
  titled (posting ∷ statement) = by (slice_get usage posting.0) (titled statement)
    where
      by : (line : Option UsageLine) → All (IsTitled title_of) (portions_of table registered usage title_of account statement)
          → All (IsTitled title_of) (cons_option (option_map (portion_by table registered title_of account posting) line) (portions_of table registered usage title_of account statement))
      by None rest = rest
      by (Some line) rest =
          All-cons (IsTitled title_of) (portion_by table registered title_of account posting line) (portions_of table registered usage title_of account statement) refl rest

-- ---- one work

neither_before : (o : Ordering) → is_gt o ≡ false → is_gt (ordering_reverse o) ≡ false → is_eq o ≡ true
neither_before Less one other = absurd (false≢true (sym other))
neither_before Equal one other = refl
neither_before Greater one other = absurd (false≢true (sym one))

second_tie : (o other : Ordering) → is_eq (ordering_then o other) ≡ true → is_eq other ≡ true
second_tie Less other is = absurd (false≢true is)
second_tie Equal other is = is
second_tie Greater other is = absurd (false≢true is)

-- of three in order, where the first and the last are of one work the middle one is of it too
module _ (title_of : List ℕ → List ℕ) (first middle last : Portion) (here : IsTitled title_of first) (there : IsTitled title_of last) where
  between : IsUpTo first middle → IsUpTo middle last → is_of first.line.work last ≡ true → is_of first.line.work middle ≡ true
  between one two same =
      let work : last.line.work ≡ first.line.work = (bytes_decides last.line.work first.line.work).0 same in
      let title : last.title ≡ first.title = there ∙ (ap title_of work ∙ sym here) in
      let tie : by_work last first ≡ Equal = (λ i. ordering_then (slice_cmp nat_cmp (title i) first.title) (slice_cmp nat_cmp (work i) first.line.work)) ∙ tied_itself by_work_total first in
      let back : is_gt (by_work middle first) ≡ false = ap is_gt (sym (alike_right by_work_total last first middle tie)) ∙ two in
      let level : is_eq (by_work middle first) ≡ true = neither_before (by_work middle first) back (ap is_gt (sym (by_work_total.antisymm first middle)) ∙ one) in
      texts_ties middle.line.work first.line.work ∙ second_tie (slice_cmp nat_cmp middle.title first.title) (slice_cmp nat_cmp middle.line.work first.line.work) level

not_true : (b : Bool) → (b ≡ true → ⊥) → b ≡ false
not_true true isnt = absurd (isnt refl)
not_true false isnt = refl

-- how many of them are of the work, from the front on
abbrev run : (work : List ℕ) → List Portion → ℕ
run work list = length (take_while (is_of work) list)

run-more : (work : List ℕ) (portion : Portion) (list : List Portion) → is_of work portion ≡ true → run work (portion ∷ list) ≡ suc (run work list)
run-more work portion list is = ap (λ (l : List Portion). length l) (take_while-cons (is_of work) portion list ∙ ap (λ (b : Bool). cond b (portion ∷ take_while (is_of work) list) []) is)

run-none : (work : List ℕ) (portion : Portion) (list : List Portion) → is_of work portion ≡ false → run work (portion ∷ list) ≡ 0
run-none work portion list is = ap (λ (l : List Portion). length l) (take_while-cons (is_of work) portion list ∙ ap (λ (b : Bool). cond b (portion ∷ take_while (is_of work) list) []) is)

inside : (work : List ℕ) (list : List Portion) → All (λ portion. is_of work portion ≡ true) (take (run work list) list)
inside work [] = All-nil (λ (portion : Portion). is_of work portion ≡ true)
inside work (portion ∷ list) = elim (cases_Bool (is_of work portion)) [
  | inl is ↦
      rw (run-more work portion list is)
      (All-cons (λ (portion : Portion). is_of work portion ≡ true) portion (take (run work list) list) is (inside work list))
  | inr isnt ↦
      rw (run-none work portion list isnt) (All-nil (λ (portion : Portion). is_of work portion ≡ true))
]

module _ (title_of : List ℕ → List ℕ) (first : Portion) (here : IsTitled title_of first) where
  abbrev IsOther : Portion → Type 0
  IsOther portion = is_of first.line.work portion ≡ false

  outside : (later : List Portion) → IsInOrder (first ∷ later) → All (IsTitled title_of) later → All IsOther (drop (run first.line.work later) later)
  outside [] up told = All-nil IsOther
  outside (next ∷ later) up told = elim (cases_Bool (is_of first.line.work next)) [
    | inl is ↦
        rw (run-more first.line.work next later is)
        (outside later (All-tail (IsUpTo first) next later up.0, up.1.1) (All-tail (IsTitled title_of) next later told))
    | inr isnt ↦
        rw (run-none first.line.work next later isnt)
        (All-cons IsOther next later isnt (λ k d below. not_true (is_of first.line.work (get_or later k d)) (λ same.
        false≢true (sym isnt
        ∙ between title_of first next (get_or later k d) here (All-tail (IsTitled title_of) next later told k d below) (All-head (IsUpTo first) next later up.0) (up.1.0 k d below) same))))
  ]

-- ---- the section is what a filter leaves

filter_all : (p : Portion → Bool) (list : List Portion) → All (λ portion. p portion ≡ true) list → filter p list ≡ list
filter_all p [] passes = refl
filter_all p (portion ∷ list) passes =
    ap (λ (b : Bool). cond b (portion ∷ filter p list) (filter p list)) (All-head (λ (portion : Portion). p portion ≡ true) portion list passes)
    ∙ ap (λ (l : List Portion). portion ∷ l) (filter_all p list (All-tail (λ (portion : Portion). p portion ≡ true) portion list passes))

filter_none : (p : Portion → Bool) (list : List Portion) → All (λ portion. p portion ≡ false) list → filter p list ≡ []
filter_none p [] fails = refl
filter_none p (portion ∷ list) fails =
    ap (λ (b : Bool). cond b (portion ∷ filter p list) (filter p list)) (All-head (λ (portion : Portion). p portion ≡ false) portion list fails)
    ∙ filter_none p list (All-tail (λ (portion : Portion). p portion ≡ false) portion list fails)

module _ (title_of : List ℕ → List ℕ) (first : Portion) (later : List Portion) (up : IsInOrder (first ∷ later)) (told : All (IsTitled title_of) (first ∷ later)) where
  abbrev list : List Portion
  list = first ∷ later

  abbrev work : List ℕ
  work = first.line.work

  abbrev section : List Portion
  section = take (section_length list) list

  abbrev rest : List Portion
  rest = drop (section_length list) list

  section_of_it : All (λ portion. is_of work portion ≡ true) section
  section_of_it =
      rw (one-add (run work later))
      (All-cons (λ (portion : Portion). is_of work portion ≡ true) first (take (run work later) later) ((bytes_decides work work).1 refl) (inside work later))

  rest_of_others : All (λ portion. is_of work portion ≡ false) rest
  rest_of_others =
      rw (one-add (run work later))
      (outside title_of first (All-head (IsTitled title_of) first later told) later up (All-tail (IsTitled title_of) first later told))

  parted : (p : Portion → Bool) → filter p list ≡ filter p section ++ filter p rest
  parted p = ap (λ (l : List Portion). filter p l) (sym (take-append-drop (section_length list) list)) ∙ filter-append p section rest

  is_section : (portion : Portion) → is_of work portion ≡ true → filter (is_of portion.line.work) list ≡ section
  is_section portion is =
      ap (λ (w : List ℕ). filter (is_of w) list) ((bytes_decides portion.line.work work).0 is)
      ∙ (parted (is_of work)
      ∙ ((λ i. filter_all (is_of work) section section_of_it i ++ filter_none (is_of work) rest rest_of_others i) ∙ append-nil section))

  is_behind : (portion : Portion) → is_of work portion ≡ false → filter (is_of portion.line.work) list ≡ filter (is_of portion.line.work) rest
  is_behind portion isnt =
      parted (is_of portion.line.work)
      ∙ ap (λ (l : List Portion). l ++ filter (is_of portion.line.work) rest) (filter_none (is_of portion.line.work) section (λ k d below.
      let own : (get_or section k d).line.work ≡ work = (bytes_decides (get_or section k d).line.work work).0 (section_of_it k d below) in
      ap (λ (w : List ℕ). pointwise nat_eq w portion.line.work) own ∙ (nat_list_eq_equiv.symm work portion.line.work ∙ isnt)))

module _ (title_of : List ℕ → List ℕ) (listed : List Portion) where
  -- the section has all portions of its works
  abbrev IsWhole : List Portion → Type 0
  IsWhole section = All (λ portion. filter (is_of portion.line.work) listed ≡ section) section

  -- all portions of its work are in the list
  abbrev IsWholeIn : List Portion → Portion → Type 0
  IsWholeIn list portion = filter (is_of portion.line.work) listed ≡ filter (is_of portion.line.work) list

  whole : (n : ℕ) (list : List Portion) → length list ≤ n → IsInOrder list → All (IsTitled title_of) list → All (IsWholeIn list) list → All IsWhole (sections_from n list)
  unfolding sections_from
  whole zero list few up told left = All-nil IsWhole
  whole (suc n) [] few up told left = All-nil IsWhole
  whole (suc n) (first ∷ later) few up told left =
      let size = section_length (first ∷ later) in
      let after = drop size (first ∷ later) in
      let fewer : length after ≤ n = omega (arith, few, length-drop size (first ∷ later)) in
      let within = All-take (IsWholeIn (first ∷ later)) size (first ∷ later) left in
      let behind = All-drop (IsWholeIn (first ∷ later)) size (first ∷ later) left in
      All-cons IsWhole (take size (first ∷ later)) (sections_from n after)
      (λ k d below. within k d below ∙ is_section title_of first later up told (get_or (take size (first ∷ later)) k d) (section_of_it title_of first later up told k d below))
      (whole n after fewer (in_order-drop size (first ∷ later) up) (All-drop (IsTitled title_of) size (first ∷ later) told)
      (λ k d below. behind k d below ∙ is_behind title_of first later up told (get_or after k d) (rest_of_others title_of first later up told k d below)))

module _ (table : List (ℕ × List ℕ)) (registered : Registered) (usage : List UsageLine) (title_of : List ℕ → List ℕ) (account : ℕ) where
  pub one_section : (statement : List (ℕ × ℤ)) (listed : List Portion) → AreListed (portions_of table registered usage title_of account statement) listed
      → All (λ section. All (λ portion. filter (is_of portion.line.work) listed ≡ section) section) (sections_of listed)
  one_section statement listed are =
      whole title_of listed (length listed) listed (omega arith) (sorted_in_order listed are.order)
      (All-permutation (IsTitled title_of) (portions_of table registered usage title_of account statement) listed are.same (titled table registered usage title_of account statement))
      (λ k d below. refl)
