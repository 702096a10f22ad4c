use Rattle.std.proofs.Common.{◌∙◌, sym}
use Rattle.check_inputs.proofs.Listing.{items_in_parts, items_none}
use Rattle.check_inputs.proofs.lists.add_items.Goals as goal

pub returns-then-count-eq0 : goal.returns-then-count-eq0
returns-then-count-eq0 g c items counted are =
    items_none g.T.Listed.words c.args.path.now c.args.what.now c.args.kind.now c.args.text.now.items items (sym counted ∙ c.if-count-eq0.true)

pub returns : goal.returns
returns g c items counted are =
    items_in_parts g.T.Listed.words c.args.path.now c.args.what.now c.args.kind.now c.args.text.now.items items c.args.first.now c.args.count
    c.add_path.new.text.items c.add.new.text.items c.add-2.new.text.items c.add-3.new.text.items c.add_number.new.text.items c.add-4.new.text.items c.add-5.new.text.items
    c.add_list.new.text.items c.add_others.new.text.items c.add-6.new.text.items counted are c.if-count-eq0.false
    c.in_ok-add_path.ensures c.in_ok-add.ensures c.in_ok-add-2.ensures c.in_ok-add-3.ensures c.in_ok-add_number.ensures c.in_ok-add-4.ensures c.in_ok-add-5.ensures
    c.in_ok-add_list.ensures c.in_ok-add_others.ensures c.in_ok-add-6.ensures
