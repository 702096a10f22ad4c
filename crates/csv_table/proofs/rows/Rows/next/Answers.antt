use Rattle.std.proofs.Common.{◌≡◌, ◌∙◌, ap, refl, sym}
use Rattle.csv.specs.Records.{fields_of}
use Rattle.csv_table.specs.Walk.{Walk, rows_left}
use Rattle.csv_table.proofs.Walks.{reads_none, reads_row}
use Rattle.csv_table.proofs.rows.Rows.next.Goals as goal

pub returns-clause-found : goal.returns-clause-found
returns-clause-found c found =
    let (trim, ready, config, going) = c.self.invariant c.if-self.false in
    let read = rw found at (c.in-Ok.ensures.reads trim ready) in
    let old : c.args.self.now.left ≡ rows_left c.self.inside.reader = ap (λ (w : Walk). w.left) (sym c.self.view_is) ∙ rw c.if-self.false refl in
    rw found (old ∙ reads_row c.self.inside.reader c.read_byte_record.new.self (fields_of c.read_byte_record.new.row) config going read)

pub returns-clause-end : goal.returns-clause-end
returns-clause-end c found =
    let (trim, ready, config, going) = c.self.invariant c.if-self.false in
    let read = rw found at (c.in-Ok.ensures.reads trim ready) in
    let old : c.args.self.now.left ≡ rows_left c.self.inside.reader = ap (λ (w : Walk). w.left) (sym c.self.view_is) ∙ rw c.if-self.false refl in
    (old ∙ reads_none c.self.inside.reader c.read_byte_record.new.self (fields_of c.read_byte_record.new.row) config going read, rw found refl)
