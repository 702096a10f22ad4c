use Rattle.std.proofs.Common.{rules, ◌≡◌, ◌∙◌, Global, Vec, ap, map, ℕ}
use Rattle.csv_table.specs.Table.{rows_of}
use Rattle.csv_table.specs.Written.{text_of}
use Rattle.payee_book.specs.Text.{rows_of_book}
use Rattle.payee_book.proofs.TextLemmas.{book_reads_back}
use Rattle.payee_book.proofs.book.Book.text.Goals as goal

pub returns-in-Ok-clause-reads_back : goal.returns-in-Ok-clause-reads_back
returns-in-Ok-clause-reads_back g c =
    let parties = map (λ (party : Vec ℕ Global). party.items) c.args.parties.now in
    let is : c.print.new.out.items ≡ text_of (rows_of_book c.args.self.now c.args.usage.now parties c.args.reasons.now) = search rules in
    ap rows_of is ∙ book_reads_back c.args.usage.now parties c.args.self.now c.args.reasons.now
