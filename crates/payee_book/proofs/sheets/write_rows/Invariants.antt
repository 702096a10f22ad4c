use Rattle.std.proofs.Common.{◌≡◌, ◌++◌, ◌-◌, ◌*◌, ◌≤◌, length, map}
use Rattle.csv_table.specs.Written.{text_of}
use Rattle.payee_book.specs.Text.{payees_rows}
use Rattle.payee_book.specs.Waves.{between}
use Rattle.payee_book.proofs.PartLemmas.{reached}
use Rattle.payee_book.proofs.TextLemmas.{first_rows}
use Rattle.payee_book.proofs.sheets.write_rows.Given as goal

-- of the rows of the accounts so far those from the one to the other are written
abbrev pub invariant-loop-account : goal.invariant-loop-account
invariant-loop-account l =
    let parties = map (λ party. party.items) l.parties in record {
      before : l.before ≡ length (first_rows l.usage parties l.book (l.account - 1));
      small : l.before ≤ l.account * 18446744073709551616;
      rows : l.rows.text ≡ l.fn.rows.text ++ text_of (between l.from (reached l.from l.end l.before) (payees_rows l.book l.usage parties));
    }
