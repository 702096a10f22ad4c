-- The statements of a book come to the amounts of its lines.
use Rattle.std.proofs.Common.{◌≡◌, ◌∙◌, ◌+◌, ◌<◌, ◌∷◌, [], ℕ, zero, suc, ℤ, pos, ◌+ℤ◌, unsigned_abs, Bool, true, false, List, length, map, get_or, All, ap, refl, sym, inl, inr, arith, filter}
use Rattle.std.specs.Prelude.{◌==◌, if◌then◌else◌, nat_lt}
use Rattle.std.specs.List.{enumerate_from}
use Rattle.std.proofs.lemmas.Bool.{cases_eq, eq-eqb, ne_eqb}
use Rattle.std.proofs.lemmas.Bool.Decides.{nat_tests}
use Rattle.std.proofs.lemmas.Int.{ints}
use Rattle.std.proofs.lemmas.List.Elements.{All-tail}
use Rattle.line_split.specs.Signs.{int_sum_by}
use Rattle.line_split.specs.UsageLine.{UsageLine}
use Rattle.line_split.proofs.IntSums.{int_sum_below, int_sum_below-add, int_sum_below-none, int_sum_by-cons, int_sum_by-places, int_sum_by_same, int_sums_exchanged, none_plus, plus_none, same_int_sums}
use Rattle.line_split.proofs.Signs.{portions_add_up, signed_portions_below}
use Rattle.cwr_share.specs.ClaimsOn.{claims_on}
use Rattle.cwr_share.specs.Registered.{IsRegistered, Registered}
use Rattle.payee_book.specs.Run.{IsBookOf, portion_for}
use Rattle.payee_book.specs.Statement.{total_of}
use Rattle.split_run.specs.Divisions.{division_by}
use Rattle.split_run.proofs.DivisionLemmas.{claims_below, some_accounts}

-- a number at one place
sum_at : (n a : ℕ) (v : ℤ) → a < n → int_sum_below n (λ i. if a == i then v else pos 0) ≡ v
sum_at zero a v lt = absurd (omega (arith, lt))
sum_at (suc n) zero v lt =
    let rest : int_sum_below n (λ i. if zero == suc i then v else pos 0) ≡ pos 0 =
    same_int_sums n (λ i. if zero == suc i then v else pos 0) (λ i. pos 0) (λ i lt. rw (ne_eqb zero (suc i) (λ is. absurd (omega (arith, is)))) refl) ∙ int_sum_below-none n in
    ap (λ (s : ℤ). v +ℤ s) rest ∙ plus_none v
sum_at (suc n) (suc a) v lt =
    let rest : int_sum_below n (λ i. if suc a == suc i then v else pos 0) ≡ v =
    same_int_sums n (λ i. if suc a == suc i then v else pos 0) (λ i. if a == i then v else pos 0) (λ i lt. elim (cases_eq a i) [
      | inl same ↦ rw (eq-eqb (suc a) (suc i) (ap suc same), eq-eqb a i same) refl
      | inr other ↦ rw (ne_eqb (suc a) (suc i) (λ is. other (omega (arith, is))), ne_eqb a i other) refl
    ]) ∙ sum_at n a v (omega (arith, lt)) in
    let first : (if suc a == 0 then v else pos 0) ≡ pos 0 = rw (ne_eqb (suc a) 0 (λ is. absurd (omega (arith, is)))) refl in
    (λ i. first i +ℤ rest i) ∙ none_plus v

-- the first portion of a division, and the others
pub portion_first : (account : ℕ) (p : ℕ × ℤ) (division : List (ℕ × ℤ)) → portion_for account (p ∷ division) ≡ (if p.0 == account then p.1 else pos 0) +ℤ portion_for account division
portion_first account p division = by (p.0 == account)
  where
    by : (b : Bool) → int_sum_by (λ (e : ℕ × ℤ). e.1) (if b then p ∷ filter (λ e. e.0 == account) division else filter (λ e. e.0 == account) division)
        ≡ (if b then p.1 else pos 0) +ℤ portion_for account division
    by true = int_sum_by-cons (λ (e : ℕ × ℤ). e.1) p (filter (λ e. e.0 == account) division)
    by false = sym (none_plus (portion_for account division))

-- the portions of all accounts are all portions
all_portions : (n : ℕ) (division : List (ℕ × ℤ)) → All (λ account. account < n) (map (λ portion. portion.0) division)
    → int_sum_below n (λ account. portion_for account division) ≡ int_sum_by (λ portion. portion.1) division
all_portions n [] below = int_sum_below-none n
all_portions n (p ∷ division) below =
    let first : p.0 < n = below 0 0 (omega arith) in
    let rest = all_portions n division (All-tail (λ account. account < n) p.0 (map (λ portion. portion.0) division) below) in
    same_int_sums n (λ account. portion_for account (p ∷ division)) (λ account. (if p.0 == account then p.1 else pos 0) +ℤ portion_for account division) (λ account lt. portion_first account p division)
    ∙ (int_sum_below-add n (λ account. if p.0 == account then p.1 else pos 0) (λ account. portion_for account division)
    ∙ ((λ i. sum_at n p.0 p.1 first i +ℤ rest i)
    ∙ sym (int_sum_by-cons (λ (e : ℕ × ℤ). e.1) p division)))

-- a number of no size
no_size : (z : ℤ) → nat_lt 0 (unsigned_abs z) ≡ false → z ≡ pos 0
no_size z is = let none : unsigned_abs z ≡ 0 = grind (arith, nat_tests) in omega (arith, ints, none)

-- the postings of nothing left out
pub total_from : (f : UsageLine → ℤ) (n : ℕ) (usage : List UsageLine)
    → int_sum_by (λ (posting : ℕ × ℤ). posting.1) (filter (λ posting. nat_lt 0 (unsigned_abs posting.1)) (map (λ e. (e.0, f e.1)) (enumerate_from n usage))) ≡ int_sum_by f usage
total_from f n [] = refl
total_from f n (line ∷ usage) =
    by (nat_lt 0 (unsigned_abs (f line))) refl ∙ (ap (λ (s : ℤ). f line +ℤ s) (total_from f (n + 1) usage) ∙ sym (int_sum_by-cons f line usage))
  where
    rest : List (ℕ × ℤ)
    rest = filter (λ posting. nat_lt 0 (unsigned_abs posting.1)) (map (λ e. (e.0, f e.1)) (enumerate_from (n + 1) usage))

    by : (b : Bool) → nat_lt 0 (unsigned_abs (f line)) ≡ b → int_sum_by (λ (posting : ℕ × ℤ). posting.1) (if b then (n, f line) ∷ rest else rest) ≡ f line +ℤ int_sum_by (λ (posting : ℕ × ℤ). posting.1) rest
    by true is = int_sum_by-cons (λ (posting : ℕ × ℤ). posting.1) (n, f line) rest
    by false is = sym (none_plus (int_sum_by (λ (posting : ℕ × ℤ). posting.1) rest)) ∙ ap (λ (z : ℤ). z +ℤ int_sum_by (λ (posting : ℕ × ℤ). posting.1) rest) (sym (no_size (f line) is))

-- the statements of a book come to the amounts of its lines
pub adds_up : (table : List (ℕ × List ℕ)) (registered : Registered) (usage : List UsageLine) (book : List (List (ℕ × ℤ))) → IsRegistered registered
    → IsBookOf (division_by table registered) usage (length registered.accounts) book → int_sum_by total_of book ≡ int_sum_by (λ line. line.amount) usage
adds_up table registered usage book is of_book =
    let n = length registered.accounts in
    let division = division_by table registered in
    let places : int_sum_by total_of book ≡ int_sum_below n (λ i. total_of (get_or book i [])) =
    int_sum_by-places total_of book [] ∙ ap (λ (k : ℕ). int_sum_below k (λ i. total_of (get_or book i []))) of_book.whole in
    places
    ∙ (same_int_sums n (λ i. total_of (get_or book i [])) (λ i. int_sum_by (λ line. portion_for i (division line)) usage) (λ i lt.
    ap total_of (of_book.each i lt) ∙ total_from (λ line. portion_for i (division line)) 0 usage)
    ∙ (int_sums_exchanged n (λ i line. portion_for i (division line)) usage
    ∙ int_sum_by_same (λ line. int_sum_below n (λ i. portion_for i (division line))) (λ line. line.amount) (λ line.
    all_portions n (division line) (signed_portions_below line.amount n (claims_on table registered line) (some_accounts registered is) (claims_below table registered line))
    ∙ portions_add_up line.amount (claims_on table registered line)) usage))
