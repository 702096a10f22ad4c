use Rattle.std.proofs.Common.{◌≡◌, ◌<◌, [], length, map, get_or, ap, subst, arith}
use Rattle.csv_table.specs.Written.{text_of}
use Rattle.payee_book.specs.Text.{residue_rows}
use Rattle.settle_run.specs.Reasons.{AreReasonsFor}
use Rattle.settle_run.specs.Settled.{reason_of}
use Rattle.split_run.specs.Divisions.{division_by}
use Rattle.settle_run.proofs.BookLemmas.{book_lines_below}
use Rattle.settle_run.proofs.SettleLemmas.{book_rows_same}
use Rattle.split_run.proofs.DivisionLemmas.{some_accounts}
use Rattle.settle_run.proofs.statements.book_and_reasons.Goals as goal

pub reasons_of-requires-clause-lines : goal.reasons_of-requires-clause-lines
reasons_of-requires-clause-lines g c κs within =
    let some : 0 < length c.in-Ok.book = omega (arith, some_accounts c.args.tables.now.registry c.requires.sound, c.in-Ok.ensures.book.whole) in
    rw c.lines-residue.ensures.postings
    (book_lines_below (division_by c.args.tables.now.territories c.args.tables.now.registry) c.args.tables.now.usage (length c.args.tables.now.registry.accounts)
    c.in-Ok.book c.in-Ok.ensures.book 0 [] some)

pub returns-clause-lines : goal.returns-clause-lines
returns-clause-lines g c =
    book_lines_below (division_by c.args.tables.now.territories c.args.tables.now.registry) c.args.tables.now.usage (length c.args.tables.now.registry.accounts) c.in-Ok.book c.in-Ok.ensures.book

pub returns-clause-divided : goal.returns-clause-divided
returns-clause-divided g c =
    let owns = map (reason_of c.args.tables.now.territories c.args.tables.now.registry) c.args.tables.now.usage in
    record {
      divided = c.in-Ok.ensures.book;
      adds_up = c.in-Ok.ensures.adds_up;
      reasons_are =
          subst (λ postings. AreReasonsFor owns postings c.in_ok-reasons.reasons.items) c.lines-residue.ensures.postings c.in_ok-reasons.ensures.found;
    }

pub returns-clause-statements : goal.returns-clause-statements
returns-clause-statements g c =
    let table = c.args.tables.now.territories in
    let registered = c.args.tables.now.registry in
    let lines = c.args.tables.now.usage in
    let book = c.in-Ok.book in
    let reasons = c.in_ok-reasons.reasons.items in
    let owns = map (reason_of table registered) lines in
    let residue : residue_rows lines reasons (get_or book 0 []) ≡ residue_rows lines owns (get_or book 0 []) =
    subst (λ postings. residue_rows lines reasons postings ≡ residue_rows lines owns postings) c.lines-residue.ensures.postings c.in_ok-reasons.ensures.rows in
    record {
      statements = book;
      divided = c.in-Ok.ensures.book;
      adds_up = c.in-Ok.ensures.adds_up;
      rows = ap text_of (book_rows_same book lines registered.accounts reasons owns residue);
    }
