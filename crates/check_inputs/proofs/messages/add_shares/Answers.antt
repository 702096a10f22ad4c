use Rattle.std.proofs.Common.{[], codes}
use Rattle.cwr_share.specs.Fields.{field_of}
use Rattle.cwr_share.specs.Records.{share_fields}
use Rattle.check_inputs.specs.Messages.{around}
use Rattle.check_inputs.proofs.Telling.{three_behind}
use Rattle.check_inputs.proofs.messages.add_shares.Goals as goal

pub returns : goal.returns
returns c =
    let line = c.args.line.now in
    three_behind c.args.text.now.items c.add_around.new.text.items c.add_around-2.new.text.items c.add_around-3.new.text.items
    (around (codes "PR, MR and SR shares '") (field_of (share_fields line).performing line) (codes "', '"))
    (around [] (field_of (share_fields line).mechanical line) (codes "' and '"))
    (around [] (field_of (share_fields line).synchronisation line) (codes "' are not each five digits up to 10000, or five spaces"))
    (rw (c.of.ensures, c.requires) at c.in_ok-add_around.ensures) (rw (c.of-2.ensures, c.requires) at c.in_ok-add_around-2.ensures) (rw (c.of-3.ensures, c.requires) at c.in_ok-add_around-3.ensures)
