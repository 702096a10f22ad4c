use Rattle.std.proofs.Common.{decimal}
use Rattle.check_inputs.specs.Form.{part_text, says_text, trailer_text}
use Rattle.check_inputs.proofs.Listing.{difference_in_parts}
use Rattle.check_inputs.proofs.form.add_difference.Goals as goal

pub returns : goal.returns
returns c =
    let it = c.args.it.now in
    difference_in_parts c.args.text.now.items c.args.path.now (decimal it.line) (trailer_text it.is_whole) (says_text it.says it.counted) (part_text it.is_whole) (decimal it.found)
    c.add_path.new.text.items c.add.new.text.items c.add_number.new.text.items c.add-2.new.text.items c.add-3.new.text.items c.add_says.new.text.items c.add-4.new.text.items
    c.add_number-2.new.text.items c.add-5.new.text.items
    c.in_ok-add_path.ensures c.in_ok-add.ensures c.in_ok-add_number.ensures c.in_ok-add-2.ensures (rw c.trailer_of.ensures at c.in_ok-add-3.ensures) c.in_ok-add_says.ensures
    (rw c.part_of.ensures at c.in_ok-add-4.ensures) c.in_ok-add_number-2.ensures c.in_ok-add-5.ensures
