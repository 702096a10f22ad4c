-- Portions by territory.
use Rattle.std.proofs.Common.{◌≡◌, ◌∙◌, ◌+ℤ◌, ◌+◌, ◌==◌, ◌<◌, ◌⊎◌, ◌∷◌, ◌++◌, [], ℕ, ℤ, zero, suc, pos, Bool, List, true, false, ap, arith, cond, get_or, inl, inr, length, refl, subst, sym, take}
use Rattle.std.specs.Bool.{⊤}
use Rattle.std.specs.List.{All, Contains, sum_by}
use Rattle.std.proofs.lemmas.Bool.{cases_Bool, eq-eqb, eqb-false, eqb-true, ne_eqb}
use Rattle.std.proofs.lemmas.Int.{ints}
use Rattle.std.proofs.lemmas.List.{length-append, map_more}
use Rattle.std.proofs.lemmas.List.Elements.{All-contains, All-head, All-push, All-tail, Contains-get_or, filter-append}
use Rattle.std.proofs.lemmas.List.Kept.{AllPairs-from_increasing}
use Rattle.std.proofs.lemmas.List.Sums.{sum_by-cons}
use Rattle.line_split.proofs.IntSums.{int_sum_by-cons}
use Rattle.line_split.specs.Signs.{int_sum_by}
use Rattle.payee_portions.specs.Lands.{AreTerritories, is_in, portions_in}
use Rattle.payee_portions.specs.Portions.{Portion}
use Rattle.payee_portions.specs.Shown.{portion_shown, portions_shown}
use Rattle.payee_portions.specs.Sums.{sum_of}
use Rattle.payee_portions.specs.declared.portion.Portion as kept

-- ---- what is of each comes to the whole

-- each code is below those behind it
abbrev IsRising : List ℕ → Type 0
IsRising [] = ⊤
IsRising (code ∷ codes) = All (λ other. code < other) codes × IsRising codes

is_rising : (codes : List ℕ) → ((i j d : ℕ) → i < j → j < length codes → get_or codes i d < get_or codes j d) → IsRising codes
is_rising [] up = tt
is_rising (code ∷ codes) up = (
  λ k d below. up 0 (suc k) d (omega arith) (omega (arith, below)),
  is_rising codes (λ i j d less below. up (suc i) (suc j) d (omega (arith, less)) (omega (arith, below))),
)

behind : (code : ℕ) (codes : List ℕ) (territory : ℕ) → (territory == code) ≡ false → Contains (code ∷ codes) territory → Contains codes territory
behind code codes territory isnt (zero, below, is) = absurd (eqb-false territory code isnt (sym is))
behind code codes territory isnt (suc k, below, is) = (k, omega (arith, below), is)

module _ (f : ℕ → ℤ) (territory : ℕ) (amount : ℤ) where
  -- with an amount more at one code
  abbrev with_more : ℕ → ℤ
  with_more code = cond (territory == code) (amount +ℤ f code) (f code)

  more_elsewhere : (codes : List ℕ) → All (λ code. territory < code) codes → int_sum_by with_more codes ≡ int_sum_by f codes
  more_elsewhere [] past = refl
  more_elsewhere (code ∷ codes) past =
      let first : territory < code = All-head (λ (c : ℕ). territory < c) code codes past in
      let here : with_more code ≡ f code = ap (λ (b : Bool). cond b (amount +ℤ f code) (f code)) (ne_eqb territory code (λ is. omega (arith, is, first))) in
      let later = more_elsewhere codes (All-tail (λ (c : ℕ). territory < c) code codes past) in
      int_sum_by-cons with_more code codes ∙ ((λ i. here i +ℤ later i) ∙ sym (int_sum_by-cons f code codes))

  more_here : (codes : List ℕ) → IsRising codes → Contains codes territory → int_sum_by with_more codes ≡ amount +ℤ int_sum_by f codes
  more_here [] up has = absurd (omega (arith, has.1))
  more_here (code ∷ codes) up has = elim (cases_Bool (territory == code)) [
    | inl is ↦
        let here : with_more code ≡ amount +ℤ f code = ap (λ (b : Bool). cond b (amount +ℤ f code) (f code)) is in
        let past = subst (λ (c : ℕ). All (λ other. c < other) codes) (sym (eqb-true territory code is)) up.0 in
        omega (arith, ints, int_sum_by-cons with_more code codes, int_sum_by-cons f code codes, here, more_elsewhere codes past)
    | inr isnt ↦
        let here : with_more code ≡ f code = ap (λ (b : Bool). cond b (amount +ℤ f code) (f code)) isnt in
        let later = more_here codes up.1 (behind code codes territory isnt has) in
        omega (arith, ints, int_sum_by-cons with_more code codes, int_sum_by-cons f code codes, here, later)
  ]

none_each : {X : Type 0} (xs : List X) → int_sum_by (λ x. pos 0) xs ≡ pos 0
none_each [] = refl
none_each (x ∷ xs) = none_each xs

module _ (weight : Portion → ℤ) where
  abbrev weight_in : List Portion → ℕ → ℤ
  weight_in listed code = int_sum_by weight (portions_in code listed)

  with_first : (b : Bool) (portion : Portion) (list : List Portion)
      → int_sum_by weight (cond b (portion ∷ list) list) ≡ cond b (weight portion +ℤ int_sum_by weight list) (int_sum_by weight list)
  with_first true portion list = int_sum_by-cons weight portion list
  with_first false portion list = refl

  weighed : (listed : List Portion) (codes : List ℕ) → IsRising codes → All (λ portion. Contains codes portion.line.territory) listed
      → int_sum_by (weight_in listed) codes ≡ int_sum_by weight listed
  weighed [] codes up all = none_each codes
  weighed (portion ∷ later) codes up all =
      let first = All-head (λ (p : Portion). Contains codes p.line.territory) portion later all in
      let rest = weighed later codes up (All-tail (λ (p : Portion). Contains codes p.line.territory) portion later all) in
      (λ i. int_sum_by (λ (code : ℕ). with_first (portion.line.territory == code) portion (portions_in code later) i) codes)
      ∙ (more_here (weight_in later) portion.line.territory (weight portion) codes up first
      ∙ (ap (λ (s : ℤ). weight portion +ℤ s) rest ∙ sym (int_sum_by-cons weight portion later)))

rising_of : (listed : List Portion) (codes : List ℕ) → AreTerritories listed codes → IsRising codes
rising_of listed codes are = is_rising codes (AllPairs-from_increasing codes are.rising)

pub territories_summed : (listed : List Portion) (codes : List ℕ) → AreTerritories listed codes
    → int_sum_by (λ code. sum_of (portions_in code listed)) codes ≡ sum_of listed
territories_summed listed codes are = weighed (λ (portion : Portion). portion.amount) listed codes (rising_of listed codes are) are.all

-- ---- and so do the counts

one_each : {X : Type 0} (xs : List X) → int_sum_by (λ x. pos 1) xs ≡ pos (length xs)
one_each [] = refl
one_each {X} (x ∷ xs) = omega (arith, ints, int_sum_by-cons (λ (x : X). pos 1) x xs, one_each xs)

as_signed : {X : Type 0} (f : X → ℕ) (xs : List X) → int_sum_by (λ x. pos (f x)) xs ≡ pos (sum_by f xs)
as_signed f [] = refl
as_signed f (x ∷ xs) = omega (arith, ints, int_sum_by-cons (λ x. pos (f x)) x xs, sum_by-cons f x xs, as_signed f xs)

pub territories_counted : (listed : List Portion) (codes : List ℕ) → AreTerritories listed codes
    → sum_by (λ code. length (portions_in code listed)) codes ≡ length listed
territories_counted listed codes are =
    let parts : int_sum_by (λ (code : ℕ). pos (length (portions_in code listed))) codes ≡ int_sum_by (λ (portion : Portion). pos 1) listed =
    (λ i. int_sum_by (λ (code : ℕ). sym (one_each (portions_in code listed)) i) codes)
    ∙ weighed (λ (portion : Portion). pos 1) listed codes (rising_of listed codes are) are.all in
    omega (arith, ints, parts, as_signed (λ (code : ℕ). length (portions_in code listed)) codes, one_each listed)

-- ---- one portion more

module _ (portions : List Portion) (portion : Portion) (codes next : List ℕ) (are : AreTerritories portions codes)
    (rising : (k : ℕ) → k + 1 < length next → get_or next k 0 < get_or next (k + 1) 0)
    (kept : (other : ℕ) → Contains codes other → Contains next other) (noted : Contains next portion.line.territory)
    (no_other : (other : ℕ) → Contains next other → (other ≡ portion.line.territory) ⊎ Contains codes other) where
  parted : (code : ℕ) → length (portions_in code (portions ++ portion ∷ [])) ≡ length (portions_in code portions) + length (portions_in code (portion ∷ []))
  parted code = ap (λ (l : List Portion). length l) (filter-append (is_in code) portions (portion ∷ [])) ∙ length-append (portions_in code portions) (portions_in code (portion ∷ []))

  has_one : (code : ℕ) → Contains next code → 0 < length (portions_in code (portions ++ portion ∷ []))
  has_one code has = elim (no_other code has) [
    | inl is ↦
        let one : length (portions_in code (portion ∷ [])) ≡ 1 =
        ap (λ (b : Bool). length (cond b (portion ∷ []) [])) (eq-eqb portion.line.territory code (sym is)) in
        omega (arith, parted code, one)
    | inr before ↦
        omega (arith, parted code, All-contains (λ (c : ℕ). 0 < length (portions_in c portions)) codes code are.some before)
  ]

  territory_more : AreTerritories (portions ++ portion ∷ []) next
  territory_more = record {
    rising = rising;
    all =
        All-push (λ (p : Portion). Contains next p.line.territory) portions portion
        (λ k d below. kept (get_or portions k d).line.territory (are.all k d below)) noted;
    some = λ k d below. has_one (get_or next k d) (Contains-get_or next k d below);
  }

-- those of the portions so far, and of the next
pub territories_more : (list : List kept.Portion) (place : ℕ) (d : kept.Portion) (codes next : List ℕ) → place < length list
    → AreTerritories (portions_shown (take place list)) codes
    → ((k : ℕ) → k + 1 < length next → get_or next k 0 < get_or next (k + 1) 0)
    → ((other : ℕ) → Contains codes other → Contains next other) → Contains next (get_or list place d).line.territory
    → ((other : ℕ) → Contains next other → (other ≡ (get_or list place d).line.territory) ⊎ Contains codes other)
    → AreTerritories (portions_shown (take (place + 1) list)) next
territories_more list place d codes next within are rising kept noted no_other =
    subst (λ (l : List Portion). AreTerritories l next) (sym (map_more portion_shown list place d within))
    (territory_more (portions_shown (take place list)) (portion_shown (get_or list place d)) codes next are rising kept noted no_other)
