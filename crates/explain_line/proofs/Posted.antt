-- The portions that an explanation shows are the postings of its line.
use Rattle.std.proofs.Common.{◌≡◌, ◌+◌, ◌<◌, ◌==◌, ◌++◌, ◌∷◌, ◌∙◌, [], ℕ, ℤ, List, ap, arith, filter, length, subst, sym, unsigned_abs}
use Rattle.std.specs.List.{enumerate_from}
use Rattle.std.specs.Prelude.{slice_index_or}
use Rattle.cwr_share.specs.ClaimsOn.{claims_on}
use Rattle.cwr_share.proofs.ClaimLemmas.{map_twice}
use Rattle.cwr_share.specs.Registered.{Registered}
use Rattle.line_split.specs.Claims.{base_of, participants_of}
use Rattle.line_split.specs.LargestRemainder.{portion_of}
use Rattle.line_split.specs.Signs.{signed_entry, signed_portions_of}
use Rattle.line_split.specs.UsageLine.{UsageLine}
use Rattle.payee_book.specs.Run.{IsBookOf, portion_for, posting_of, statement_of}
use Rattle.run_inputs.specs.declared.inputs.Tables.{Tables}
use Rattle.explain_line.specs.Explanation.{IsRow, portions_shown}
use Rattle.explain_line.proofs.OneExplanation.{AreAlike, claims_alike}
use Rattle.explain_line.proofs.Postings.{one_at}

-- the portions shown are those of the division
shown_are : (amount : ℤ) (claims : List (ℕ × ℕ)) → signed_portions_of amount claims ≡ portions_shown amount claims
shown_are amount claims =
    map_twice (λ (e : ℕ × (ℕ × ℕ)). (e.1.0, portion_of (unsigned_abs amount) (base_of claims) (participants_of claims) e.0 e.1.1)) (signed_entry amount) (enumerate_from 0 (participants_of claims))

-- in the statements by a reading
posted : (table : List (ℕ × List ℕ)) (registered : Registered) (lines : List UsageLine) (accounts : ℕ) (statements : List (List (ℕ × ℤ))) (place : ℕ) (line : UsageLine) (account : ℕ)
    → IsBookOf (λ other. signed_portions_of other.amount (claims_on table registered other)) lines accounts statements → IsRow lines (place + 1) line → account < accounts
    → filter (λ (posting : ℕ × ℤ). posting.0 == place) (slice_index_or statements account []) ≡ posting_of place (portion_for account (portions_shown line.amount (claims_on table registered line)))
posted table registered lines accounts statements place line account book row within =
    let division : UsageLine → List (ℕ × ℤ) = λ other. signed_portions_of other.amount (claims_on table registered other) in
    let before : place ≡ 0 + length row.before = omega (arith, row.place) in
    ap (filter (λ (posting : ℕ × ℤ). posting.0 == place)) (book.each account within)
    ∙ (ap (λ (l : List UsageLine). filter (λ (posting : ℕ × ℤ). posting.0 == place) (statement_of division l account)) row.split
    ∙ (ap (λ (k : ℕ). filter (λ (posting : ℕ × ℤ). posting.0 == k) (statement_of division (row.before ++ line ∷ row.after) account)) before
    ∙ (one_at (λ other. portion_for account (division other)) 0 row.before line row.after
    ∙ (ap (λ (k : ℕ). posting_of k (portion_for account (division line))) (sym before)
    ∙ ap (λ (l : List (ℕ × ℤ)). posting_of place (portion_for account l)) (shown_are line.amount (claims_on table registered line))))))

-- and in those by another reading of the same inputs
pub posted_alike : (tables of_run : Tables) → AreAlike of_run tables → (statements : List (List (ℕ × ℤ))) (place : ℕ) (line : UsageLine) (account : ℕ)
    → IsBookOf (λ other. signed_portions_of other.amount (claims_on of_run.territories of_run.registry other)) of_run.usage (length of_run.registry.accounts) statements
    → IsRow tables.usage (place + 1) line → account < length tables.registry.accounts
    → filter (λ (posting : ℕ × ℤ). posting.0 == place) (slice_index_or statements account [])
    ≡ posting_of place (portion_for account (portions_shown line.amount (claims_on tables.territories tables.registry line)))
posted_alike tables of_run alike statements place line account book row within =
    let row_of_run : IsRow of_run.usage (place + 1) line = subst (λ (l : List UsageLine). IsRow l (place + 1) line) (sym alike.uses) row in
    posted of_run.territories of_run.registry of_run.usage (length of_run.registry.accounts) statements place line account book row_of_run (omega (arith, within, ap length alike.accounts))
    ∙ ap (λ (claims : List (ℕ × ℕ)). posting_of place (portion_for account (portions_shown line.amount claims)))
    ((claims_alike of_run tables alike line).0 ∙ ap (λ (t : List (ℕ × List ℕ)). claims_on t tables.registry line) alike.territories)
