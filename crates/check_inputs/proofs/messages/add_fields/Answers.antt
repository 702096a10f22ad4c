use Rattle.std.proofs.Common.{codes, decimal, length}
use Rattle.check_inputs.specs.Messages.{around, at}
use Rattle.check_inputs.proofs.Telling.{five_behind}
use Rattle.check_inputs.proofs.messages.add_fields.Goals as goal

pub returns : goal.returns
returns c =
    let row = c.args.row.now.row in
    five_behind c.args.text.now.items c.add.new.text.items c.add_number.new.text.items c.add-2.new.text.items c.add_number-2.new.text.items c.add_around.new.text.items
    (codes "the number of fields is ") (decimal (length row)) (codes ", not ") (decimal c.args.wanted) (around (codes "; the first is '") (at row 0) (codes "'"))
    c.in_ok-add.ensures (rw c.len.ensures at c.in_ok-add_number.ensures) c.in_ok-add-2.ensures c.in_ok-add_number-2.ensures (rw c.field.ensures at c.in_ok-add_around.ensures)
