use Rattle.std.proofs.Common.{◌≡◌, ◌≤◌, ◌<◌, ◌-◌, ℕ, length, map}
use Rattle.std.specs.Io.KnownBytes.{Appends}
use Rattle.csv_table.specs.Written.{text_of}
use Rattle.payee_book.specs.Text.{payees_rows}
use Rattle.payee_book.specs.Waves.{AreReady, AreWhole, between, text_on}
use Rattle.payee_book.proofs.sheets.write_payees.Given as goal

-- The first rows are passed on, and those after them, so far, are on the written sheets.
abbrev pub invariant-loop-from : goal.invariant-loop-from
invariant-loop-from g l =
    let all = payees_rows l.book l.usage (map (λ party. party.items) l.parties) in record {
      within : l.from ≤ l.count;
      ready : AreReady l.blank.items;
      count : (0 < length l.written.items) × (length l.written.items ≤ 64);
      rows : (passed : ℕ) × (passed ≤ l.from) × Appends (g.W.Write.contents l.fn.out) (g.W.Write.contents l.out) (text_of (between 0 passed all))
          × (AreWhole l.written.items → text_on l.written.items ≡ text_of (between passed l.from all));
    }

abbrev pub decreases-loop-from : goal.decreases-loop-from
decreases-loop-from g l = l.count - l.from
