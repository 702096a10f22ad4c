use Rattle.std.proofs.Common.{◌≡◌, ◌≤◌, ◌*◌, ◌^◌, sum_by, length, take, unsigned_abs}
use Rattle.line_split.specs.Signs.{int_sum_by}
use Rattle.overview_documents.specs.Payees.{lines_shown}
use Rattle.overview_documents.proofs.Groups.{those_of}
use Rattle.overview_documents.proofs.payees.group_of.Given as goal

-- those of the payees so far, each of which has few portions, and a total of 64 bits
abbrev pub invariant-loop-place : goal.invariant-loop-place
invariant-loop-place l = record {
  payees : l.group.payees ≡ length (those_of l.is_owed (lines_shown (take l.place l.payees)));
  few : l.group.payees ≤ l.place;
  portions : l.group.portions ≡ sum_by (λ payee. payee.count) (those_of l.is_owed (lines_shown (take l.place l.payees)));
  countable : l.group.portions ≤ l.place * 2 ^ 32;
  amount : l.group.amount ≡ int_sum_by (λ payee. payee.total) (those_of l.is_owed (lines_shown (take l.place l.payees)));
  small : unsigned_abs l.group.amount ≤ l.place * 2 ^ 63;
}
