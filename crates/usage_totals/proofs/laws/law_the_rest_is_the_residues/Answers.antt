use Rattle.std.proofs.Common.{◌∙◌, ◌+ℤ◌, ℕ, ℤ, List, ap, sym}
use Rattle.line_split.specs.Signs.{signed_portions_of}
use Rattle.line_split.specs.UsageLine.{UsageLine}
use Rattle.line_split.specs.declared.TheConstants.{RESIDUE}
use Rattle.cwr_share.specs.ClaimsOn.{claims_on}
use Rattle.payee_book.specs.Statement.{total_of}
use Rattle.usage_totals.proofs.RestLemmas.{rest_summed, statement_sum}
use Rattle.usage_totals.proofs.laws.law_the_rest_is_the_residues.Goals as goal

pub returns : goal.returns
returns c = λ table registered lines totals statements are book some.
    (λ i. are.residue i +ℤ (are.unregistered i).amount +ℤ (are.unknown i).amount +ℤ (are.claimed_over i).amount)
    ∙ rest_summed table registered lines
    ∙ sym (statement_sum (λ (line : UsageLine). signed_portions_of line.amount (claims_on table registered line)) RESIDUE lines)
    ∙ ap (λ (statement : List (ℕ × ℤ)). total_of statement) (sym (book.each RESIDUE some))
