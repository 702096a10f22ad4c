use Rattle.std.proofs.Common.{◌≤◌, ℕ, All, Err, Global, List, Ok, Result, Vec, ap, arith, length, unsigned_abs}
use Rattle.std.specs.Prelude.{IfOk}
use Rattle.line_split.specs.declared.TheConstants.{MOST_AMOUNT, MOST_LINES}
use Rattle.payee_portions.specs.declared.portion.Portion.{Portion}
use Rattle.residue_documents.specs.Page.{AreFewPortions}
use Rattle.distribution_documents.proofs.Accounts.{few_postings}
use Rattle.distribution_documents.proofs.residue.held_for.Goals as goal

-- few portions that are small can be added
few_and_small : {E : Type 0} (r : Result (Vec Portion Global) E) (n : ℕ) → n ≤ MOST_LINES → IfOk r (λ list. length list.items ≤ n)
    → IfOk r (λ list. All (λ portion. unsigned_abs portion.amount ≤ MOST_AMOUNT) list.items) → IfOk r (λ list. AreFewPortions list.items)
few_and_small (Ok list) n most few small = record { few = omega (arith, few, most); small = small }
few_and_small (Err e) n most few small = tt

pub returns-clause-few : goal.returns-clause-few
returns-clause-few c =
    let book = c.args.documents.now.divided.now.book in
    let few = few_postings _ _ _ book c.requires.divided.divided 0 (omega (arith, c.accounts-accounts.ensures.sound.some)) in
    few_and_small c.held_list.result (length c.lines.result.now)
    (omega (arith, few, c.len-lines.ensures.few, c.len-lines.ensures.lines, ap length c.lines.ensures.postings)) c.held_list.ensures.few c.held_list.ensures.small
