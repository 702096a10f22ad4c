use Rattle.std.proofs.Common.{rules, ◌≡◌, List, length, subst, sym, ℕ}
use Rattle.atomic_table.specs.Table.{opening}
use Rattle.node_table.specs.declared.seats.Posting.{Posting}
use Rattle.node_table.specs.Layout.{slots_in, words_in}
use Rattle.node_table.specs.Rule.{KeepsNodes, nodes_opened}
use Rattle.node_table.proofs.Opening.{table_opens}
use Rattle.node_table.proofs.nodes.open_nodes.Goals as goal

pub new-requires : goal.new-requires
new-requires c =
    let shape = c.args.shape in
    let words : List ℕ = c.in_ok-words.words.items in
    let slots : List Posting = c.in_ok-slots.slots.items in
    let many : length slots ≡ slots_in shape = search rules in
    let told = c.in_ok-words.ensures in
    let wide : length words ≡ words_in shape = search rules in
    subst (λ (ws : List ℕ). KeepsNodes shape (opening ws slots (nodes_opened shape))) (sym c.as_slice.ensures.value)
    (table_opens shape c.requires words wide told.heads told.zeros slots many)
