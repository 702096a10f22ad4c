-- A line and its reversal come to nothing.
use Rattle.std.proofs.Common.{◌≡◌, ◌∙◌, ◌++◌, ◌∷◌, [], ℕ, ℤ, pos, neg_ℤ, ◌+ℤ◌, Bool, true, false, List, map, ap, refl, sym, arith}
use Rattle.std.specs.Prelude.{◌==◌, if◌then◌else◌}
use Rattle.std.proofs.lemmas.Int.{ints}
use Rattle.line_split.specs.Signs.{int_sum_by, signed_portions_of}
use Rattle.line_split.specs.UsageLine.{IsReversalOf, UsageLine}
use Rattle.line_split.proofs.FairSigns.{reversed_portions}
use Rattle.line_split.proofs.IntSums.{int_sum_by-cons, none_plus}
use Rattle.cwr_share.specs.ClaimsOn.{claims_on}
use Rattle.cwr_share.specs.Registered.{Registered}
use Rattle.payee_book.specs.Run.{portion_for, statement_of}
use Rattle.payee_book.specs.Statement.{total_of}
use Rattle.split_run.specs.Divisions.{division_by}
use Rattle.split_run.proofs.AddsUp.{portion_first, total_from}

abbrev negated : List (ℕ × ℤ) → List (ℕ × ℤ)
negated division = map (λ portion. (portion.0, neg_ℤ portion.1)) division

-- a number, or nothing, and what undoes it
undone : (b : Bool) (v s t : ℤ) → s +ℤ t ≡ pos 0 → (if b then v else pos 0) +ℤ s +ℤ ((if b then neg_ℤ v else pos 0) +ℤ t) ≡ pos 0
undone true v s t is = omega (arith, ints, is)
undone false v s t is = omega (arith, ints, is)

-- what a division gives an account, and what the same with the other sign gives it
negated_portion : (account : ℕ) (division : List (ℕ × ℤ)) → portion_for account division +ℤ portion_for account (negated division) ≡ pos 0
negated_portion account [] = refl
negated_portion account (p ∷ division) =
    (λ i. portion_first account p division i +ℤ portion_first account (p.0, neg_ℤ p.1) (negated division) i)
    ∙ undone (p.0 == account) p.1 (portion_for account division) (portion_for account (negated division)) (negated_portion account division)

-- a reversal is divided as its line is, each portion with the other sign
reversed_division : (table : List (ℕ × List ℕ)) (registered : Registered) (line reversal : UsageLine) → IsReversalOf line reversal
    → division_by table registered reversal ≡ negated (division_by table registered line)
reversed_division table registered line reversal is =
    (λ i. signed_portions_of (is.amount i) (claims_on table registered (record { usage = reversal.usage; work = is.work i; territory = is.territory i; right = is.right i; amount = reversal.amount })))
    ∙ reversed_portions line.amount (claims_on table registered line)

pub portions_undone : (table : List (ℕ × List ℕ)) (registered : Registered) (line reversal : UsageLine) (account : ℕ) → IsReversalOf line reversal
    → portion_for account (division_by table registered line) +ℤ portion_for account (division_by table registered reversal) ≡ pos 0
portions_undone table registered line reversal account is =
    ap (λ (division : List (ℕ × ℤ)). portion_for account (division_by table registered line) +ℤ portion_for account division) (reversed_division table registered line reversal is)
    ∙ negated_portion account (division_by table registered line)

-- a sum over two lists, one after the other
sum_of_both : (f : UsageLine → ℤ) (one other : List UsageLine) → int_sum_by f (one ++ other) ≡ int_sum_by f one +ℤ int_sum_by f other
sum_of_both f [] other = sym (none_plus (int_sum_by f other))
sum_of_both f (line ∷ one) other =
    let all = int_sum_by-cons f line (one ++ other) in
    let first = int_sum_by-cons f line one in
    let rest = sum_of_both f one other in
    omega (arith, ints, all, first, rest)

-- a sum over lines two of which come to nothing
sum_undone : (f : UsageLine → ℤ) (line reversal : UsageLine) (before between after : List UsageLine) → f line +ℤ f reversal ≡ pos 0
    → int_sum_by f (before ++ line ∷ (between ++ reversal ∷ after)) ≡ int_sum_by f (before ++ (between ++ after))
sum_undone f line reversal before between after nothing =
    let whole = sum_of_both f before (line ∷ (between ++ reversal ∷ after)) in
    let first = int_sum_by-cons f line (between ++ reversal ∷ after) in
    let later = sum_of_both f between (reversal ∷ after) in
    let second = int_sum_by-cons f reversal after in
    let without = sum_of_both f before (between ++ after) in
    let rest = sum_of_both f between after in
    omega (arith, ints, whole, first, later, second, without, rest, nothing)

pub totals_undone : (table : List (ℕ × List ℕ)) (registered : Registered) (line reversal : UsageLine) (before between after : List UsageLine) (account : ℕ) → IsReversalOf line reversal
    → total_of (statement_of (division_by table registered) (before ++ line ∷ (between ++ reversal ∷ after)) account) ≡ total_of (statement_of (division_by table registered) (before ++ (between ++ after)) account)
totals_undone table registered line reversal before between after account is =
    let portion : UsageLine → ℤ = λ line. portion_for account (division_by table registered line) in
    total_from portion 0 (before ++ line ∷ (between ++ reversal ∷ after))
    ∙ (sum_undone portion line reversal before between after (portions_undone table registered line reversal account is)
    ∙ sym (total_from portion 0 (before ++ (between ++ after))))
