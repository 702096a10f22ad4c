-- The digits of a number, in groups and the last of them, and what a reader makes of them.
use Rattle.std.proofs.Common.{◌≡◌, ◌≢◌, ◌⊎◌, ℕ, ℤ, zero, suc, ◌+◌, ◌-◌, ◌/◌, ◌%◌, ◌^◌, ◌<◌, ◌≤◌, ◌&&◌, true, false, cond, List, [], ◌∷◌, ◌++◌, length, get_or}
use Rattle.std.proofs.Common.{drop, pos, negsuc, refl, sym, ap, ◌∙◌, arith, ⊎_elim, length-append, length-drop, append_assoc, append-nil}
use Rattle.std.specs.Prelude.{◌==◌, decimal, filter, nat_le, nat_lt, unsigned_abs}
use Rattle.std.specs.Str.Parse.{AllDigits, digits_value}
use Rattle.std.proofs.Math.Nat.{div-div-eq-div-mul, div-one, div-le_self, pow-succ'}
use Rattle.std.proofs.lemmas.Bool.{and_from, and_left, and_right, cases_Bool, cond-true, cond-false, eq-eqb, le-leb, le-ltb, lt-ltb, ne_eqb}
use Rattle.std.proofs.lemmas.Fmt.{decimal_is_IsNumeral_wide}
use Rattle.std.proofs.lemmas.Int.Digits.{digits_value_push}
use Rattle.std.proofs.lemmas.List.{drop_all, drop_more}
use Rattle.std.proofs.lemmas.List.Elements.{filter-append}
use Rattle.std.proofs.lemmas.Str.Parse.{digit_from_value}
use Rattle.std.proofs.lemmas.Str.{digit_value_digit}
use Rattle.page_text.specs.Figures.{amount_text, count_text, grouped, is_digit, last_digits, narrow_space, number_in, size_text}

-- the last digits, from the left
pub last_digits_front : (count n : ℕ) → last_digits (suc count) n ≡ (48 + n / 10 ^ count % 10) ∷ last_digits count n
unfolding last_digits
last_digits_front zero n = ap (λ q. (48 + q % 10) ∷ []) (sym (div-one n))
last_digits_front (suc count) n =
    let same : n / 10 / 10 ^ count ≡ n / 10 ^ suc count = div-div-eq-div-mul n 10 (10 ^ count) ∙ ap (λ m. n / m) (sym (pow-succ' 10 count)) in
    ap (λ ds. ds ++ (48 + n % 10) ∷ []) (last_digits_front count (n / 10)) ∙ ap (λ q. (48 + q % 10) ∷ last_digits (suc count) n) same

-- one more of the digits that are left
pub digits_step : (left n : ℕ) → 0 < left → (front whole : List ℕ) → front ++ last_digits left n ≡ whole
    → (front ++ (48 + n / 10 ^ (left - 1) % 10) ∷ []) ++ last_digits (left - 1) n ≡ whole
digits_step zero n some front whole is = absurd (omega arith)
digits_step (suc k) n some front whole is =
    let same : suc k - 1 ≡ k = omega arith in
    rw same (append_assoc front ((48 + n / 10 ^ k % 10) ∷ []) (last_digits k n) ∙ ap (λ t. front ++ t) (sym (last_digits_front k n)) ∙ is)

-- at the end none are left
pub digits_end : (left n : ℕ) → left ≡ 0 → (front whole : List ℕ) → front ++ last_digits left n ≡ whole → front ≡ whole
unfolding last_digits
digits_end left n none front whole is = sym (append-nil front) ∙ (rw none at is)

-- there are as many as were asked for
pub length-last_digits : (count n : ℕ) → length (last_digits count n) ≡ count
unfolding last_digits
length-last_digits zero n = refl
length-last_digits (suc count) n = omega (arith, length-append (last_digits count (n / 10)) ((48 + n % 10) ∷ []), length-last_digits count (n / 10))

-- behind the digits of what is in front of them they write the number
pub value_before : (count n : ℕ) (ds : List ℕ) → digits_value 10 ds ≡ n / 10 ^ count → digits_value 10 (ds ++ last_digits count n) ≡ n
unfolding last_digits
value_before zero n ds is = ap (digits_value 10) (append-nil ds) ∙ is ∙ div-one n
value_before (suc count) n ds is =
    let same : n / 10 / 10 ^ count ≡ n / 10 ^ suc count = div-div-eq-div-mul n 10 (10 ^ count) ∙ ap (λ m. n / m) (sym (pow-succ' 10 count)) in
    let front = value_before count (n / 10) ds (is ∙ sym same) in
    let value = digit_value_digit (48 + n % 10) (omega arith, omega arith) in
    ap (digits_value 10) (sym (append_assoc ds (last_digits count (n / 10)) ((48 + n % 10) ∷ [])))
    ∙ digits_value_push 10 (ds ++ last_digits count (n / 10)) (48 + n % 10) ∙ omega (arith, front, value)

-- a digit that others follow, in groups
abbrev digit_before : ℕ → ℕ → List ℕ
digit_before digit left = cond ((left % 3 == 0) && nat_lt 0 left) (digit ∷ narrow_space) (digit ∷ [])

grouped_step : (ds : List ℕ) (i : ℕ) → i < length ds → grouped (drop i ds) ≡ digit_before (get_or ds i 0) (length ds - i - 1) ++ grouped (drop (i + 1) ds)
unfolding grouped
grouped_step ds i inside =
    let left : length (drop (i + 1) ds) ≡ length ds - i - 1 = simp length-drop (omega arith) in
    ap grouped (drop_more ds i 0 inside) ∙ ap (λ n. digit_before (get_or ds i 0) n ++ grouped (drop (i + 1) ds)) left

-- a group ends behind a digit
pub group_ends : (ds : List ℕ) (i : ℕ) → i < length ds → (length ds - i - 1) % 3 ≡ 0 → 0 < length ds - i - 1 → (front whole : List ℕ)
    → front ++ grouped (drop i ds) ≡ whole → ((front ++ get_or ds i 0 ∷ []) ++ narrow_space) ++ grouped (drop (i + 1) ds) ≡ whole
group_ends ds i inside third some front whole is =
    let left = length ds - i - 1 in
    let rest = grouped (drop (i + 1) ds) in
    let test = and_from (left % 3 == 0) (nat_lt 0 left) (eq-eqb (left % 3) 0 third) (lt-ltb 0 left some) in
    let first = cond-true ((left % 3 == 0) && nat_lt 0 left) (get_or ds i 0 ∷ narrow_space) (get_or ds i 0 ∷ []) test in
    ap (λ t. t ++ rest) (append_assoc front (get_or ds i 0 ∷ []) narrow_space) ∙ append_assoc front (get_or ds i 0 ∷ narrow_space) rest
    ∙ ap (λ t. front ++ (t ++ rest)) (sym first) ∙ ap (λ t. front ++ t) (sym (grouped_step ds i inside)) ∙ is

-- or goes on
pub group_goes_on : (ds : List ℕ) (i : ℕ) → i < length ds → ((length ds - i - 1) % 3 ≢ 0) ⊎ (length ds - i - 1 ≡ 0) → (front whole : List ℕ)
    → front ++ grouped (drop i ds) ≡ whole → (front ++ get_or ds i 0 ∷ []) ++ grouped (drop (i + 1) ds) ≡ whole
group_goes_on ds i inside why front whole is =
    let left = length ds - i - 1 in
    let rest = grouped (drop (i + 1) ds) in
    let test : ((left % 3 == 0) && nat_lt 0 left) ≡ false = ⊎_elim
    (λ (apart : left % 3 ≢ 0). and_left (left % 3 == 0) (nat_lt 0 left) (ne_eqb (left % 3) 0 apart))
    (λ (none : left ≡ 0). and_right (left % 3 == 0) (nat_lt 0 left) (le-ltb 0 left (omega arith)))
    why in
    let first = cond-false ((left % 3 == 0) && nat_lt 0 left) (get_or ds i 0 ∷ narrow_space) (get_or ds i 0 ∷ []) test in
    append_assoc front (get_or ds i 0 ∷ []) rest
    ∙ ap (λ t. front ++ (t ++ rest)) (sym first) ∙ ap (λ t. front ++ t) (sym (grouped_step ds i inside)) ∙ is

-- behind the last digit nothing is left
pub group_is_last : (ds : List ℕ) (i : ℕ) → length ds ≤ i → (front whole : List ℕ) → front ++ grouped (drop i ds) ≡ whole → front ≡ whole
unfolding grouped
group_is_last ds i past front whole is = sym (append-nil front) ∙ (rw (drop_all i ds past) at is)

-- each byte is a digit
abbrev pub AreDigits : List ℕ → Type 0
AreDigits [] = Unit {0}
AreDigits (d ∷ ds) = (48 ≤ d) × (d ≤ 57) × AreDigits ds

pub is_digit_from : (d : ℕ) → 48 ≤ d → d ≤ 57 → is_digit d ≡ true
is_digit_from d low high = and_from (nat_le 48 d) (nat_le d 57) (le-leb 48 d low) (le-leb d 57 high)

AreDigits-push : (ds : List ℕ) (d : ℕ) → AreDigits ds → 48 ≤ d → d ≤ 57 → AreDigits (ds ++ d ∷ [])
AreDigits-push [] d are low high = (low, high, tt)
AreDigits-push (a ∷ ds) d are low high = (are.0, are.1, AreDigits-push ds d are.2 low high)

pub AreDigits-last_digits : (count n : ℕ) → AreDigits (last_digits count n)
unfolding last_digits
AreDigits-last_digits zero n = tt
AreDigits-last_digits (suc count) n = AreDigits-push (last_digits count (n / 10)) (48 + n % 10) (AreDigits-last_digits count (n / 10)) (omega arith) (omega arith)

AreDigits-from_all : (ds : List ℕ) → AllDigits 10 ds → AreDigits ds
AreDigits-from_all [] all = tt
AreDigits-from_all (d ∷ ds) all = let range = digit_from_value d all.0 in (omega arith, omega arith, AreDigits-from_all ds all.1)

-- a reader finds all of them
filter-digits : (ds : List ℕ) → AreDigits ds → filter is_digit ds ≡ ds
filter-digits [] are = refl
filter-digits (d ∷ ds) are = cond-true (is_digit d) _ _ (is_digit_from d are.0 are.1) ∙ ap (λ t. d ∷ t) (filter-digits ds are.2)

-- and finds them in groups
filter-grouped : (ds : List ℕ) → AreDigits ds → filter is_digit (grouped ds) ≡ ds
unfolding grouped
filter-grouped [] are = refl
filter-grouped (d ∷ ds) are =
    let digit = is_digit_from d are.0 are.1 in
    let test = (length ds % 3 == 0) && nat_lt 0 (length ds) in
    let apart : filter is_digit (d ∷ narrow_space) ≡ d ∷ [] = cond-true (is_digit d) _ _ digit in
    let close : filter is_digit (d ∷ []) ≡ d ∷ [] = cond-true (is_digit d) _ _ digit in
    let first : filter is_digit (cond test (d ∷ narrow_space) (d ∷ [])) ≡ d ∷ [] = ⊎_elim
    (λ yes. ap (filter is_digit) (cond-true test (d ∷ narrow_space) (d ∷ []) yes) ∙ apart)
    (λ no. ap (filter is_digit) (cond-false test (d ∷ narrow_space) (d ∷ []) no) ∙ close)
    (cases_Bool test) in
    filter-append is_digit (cond test (d ∷ narrow_space) (d ∷ [])) (grouped ds) ∙ ap (λ t. t ++ filter is_digit (grouped ds)) first
    ∙ ap (λ t. d ∷ t) (filter-grouped ds are.2)

AreDigits-decimal : (n : ℕ) → n < 10 ^ 64 → AreDigits (decimal n)
AreDigits-decimal n h = AreDigits-from_all (decimal n) (decimal_is_IsNumeral_wide n h).0.1

pub count_reads : (n : ℕ) → n < 10 ^ 64 → number_in (count_text n) ≡ n
count_reads n h = ap (digits_value 10) (filter-grouped (decimal n) (AreDigits-decimal n h)) ∙ (decimal_is_IsNumeral_wide n h).1

-- of an amount without its sign a reader finds the digits in front of the point, and those behind it
filter-size : (decimals size : ℕ) → size < 10 ^ 64 → filter is_digit (size_text decimals size) ≡ decimal (size / 10 ^ decimals) ++ last_digits decimals size
unfolding last_digits
filter-size zero size h =
    let q = size / 10 ^ 0 in
    let small : q < 10 ^ 64 = omega (arith, div-le_self size (10 ^ 0)) in
    filter-append is_digit (count_text q) [] ∙ ap (λ t. t ++ []) (filter-grouped (decimal q) (AreDigits-decimal q small))
filter-size (suc k) size h =
    let q = size / 10 ^ suc k in
    let behind = last_digits (suc k) size in
    let small : q < 10 ^ 64 = omega (arith, div-le_self size (10 ^ suc k)) in
    let some : nat_lt 0 (suc k) ≡ true = lt-ltb 0 (suc k) (omega arith) in
    ap (λ t. filter is_digit (count_text q ++ t)) (cond-true (nat_lt 0 (suc k)) (46 ∷ behind) [] some) ∙ filter-append is_digit (count_text q) (46 ∷ behind)
    ∙ ap (λ t. t ++ filter is_digit behind) (filter-grouped (decimal q) (AreDigits-decimal q small))
    ∙ ap (λ t. decimal q ++ t) (filter-digits behind (AreDigits-last_digits (suc k) size))

size_reads : (decimals size : ℕ) → size < 10 ^ 64 → number_in (size_text decimals size) ≡ size
size_reads decimals size h =
    let q = size / 10 ^ decimals in
    let small : q < 10 ^ 64 = omega (arith, div-le_self size (10 ^ decimals)) in
    ap (digits_value 10) (filter-size decimals size h) ∙ value_before decimals size (decimal q) (decimal_is_IsNumeral_wide q small).1

pub amount_reads : (decimals : ℕ) (amount : ℤ) → unsigned_abs amount < 10 ^ 64 → number_in (amount_text decimals amount) ≡ unsigned_abs amount
amount_reads decimals (pos n) h = size_reads decimals n h
amount_reads decimals (negsuc n) h = size_reads decimals (suc n) h
