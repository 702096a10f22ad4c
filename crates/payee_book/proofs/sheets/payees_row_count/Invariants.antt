use Rattle.std.proofs.Common.{◌≡◌, ◌-◌, ◌*◌, ◌≤◌, ℕ, List, length}
use Rattle.line_split.specs.UsageLine.{UsageLine}
use Rattle.payee_book.proofs.TextLemmas.{first_rows}
use Rattle.payee_book.proofs.sheets.payees_row_count.Given as goal

-- the rows of the accounts so far are counted, and no statement has very many
abbrev pub invariant-loop-account : goal.invariant-loop-account
invariant-loop-account l = record {
  rows : (usage : List UsageLine) (parties : List (List ℕ)) → length parties ≡ length l.book → l.count ≡ length (first_rows usage parties l.book (l.account - 1));
  small : l.count ≤ l.account * 18446744073709551616;
}
