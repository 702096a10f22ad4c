use Rattle.std.proofs.Common.{◌++◌, codes, decimal}
use Rattle.std.specs.Fmt.{signed_decimal}
use Rattle.check_inputs.specs.Messages.{around}
use Rattle.check_inputs.proofs.Telling.{six_behind}
use Rattle.check_inputs.proofs.summary.add_open_work.Goals as goal

pub returns : goal.returns
returns c =
    six_behind c.args.text.now.items c.add_path.new.text.items c.add_around.new.text.items c.add_number.new.text.items c.add.new.text.items c.add_amount_of.new.text.items
    c.add-2.new.text.items
    (c.args.path.now ++ codes ": ") (around (codes "work '") c.args.work.now (codes "' is not claimed in full: lines ")) (decimal c.args.total.lines) (codes ", to the residue ")
    (signed_decimal c.args.total.amount) (codes "\n")
    c.in_ok-add_path.ensures c.in_ok-add_around.ensures c.in_ok-add_number.ensures c.in_ok-add.ensures c.in_ok-add_amount_of.ensures c.in_ok-add-2.ensures
