use Rattle.std.proofs.Common.{◌≡◌, ◌∙◌, ℕ, ap, sym, subst, ◌<◌, []}
use Rattle.atomic_table.specs.Table.{Me}
use Rattle.queue_core.specs.StoredWords.{amount_word, item_of, line_word}
use Rattle.queue_core.proofs.WordsReadBack.{items_read_back}
use Rattle.node_table.specs.declared.seats.Holding.{Holding}
use Rattle.node_table.specs.declared.seats.Known.{Known}
use Rattle.node_table.specs.declared.seats.Known.TheVariants.{Holds}
use Rattle.node_table.specs.declared.seats.Posting.{Posting}
use Rattle.node_table.specs.declared.seats.Shape.{Shape}
use Rattle.node_table.specs.Layout.{nodes_in}
use Rattle.node_table.specs.Asks.{holding_in, receiver_in}
use Rattle.node_table.specs.Tells.{hand_of, handed}
use Rattle.node_table.proofs.nodes.NodeReceiver.hold.Goals as goal

pub invariant_of-result : goal.invariant_of-result
invariant_of-result c =
    let h : Holding = c.requires.at.held in
    let was : c.load_amount-word.new.seat.me ≡ c.args.seat.now.me = c.load_amount-word.ensures.told ∙ c.load_line-line.ensures.told in
    let note : c.hand_out.result.me ≡ (Holds h, []) =
    c.hand_out.ensures.handed.1 ∙ (ap (λ (m : Me Posting Known). (hand_of m.0, [])) (was ∙ c.requires.at.is_receiver) ∙ ap (λ o. (handed o, [])) c.requires.at.hand) in
    let line : c.load_line-line.result ≡ line_word h.item = c.load_line-line.ensures.found h c.requires.at.hand in
    let word : c.load_amount-word.result ≡ amount_word h.item = c.load_amount-word.ensures.found h (ap (λ (m : Me Posting Known). (receiver_in m.0).at_hand) c.load_line-line.ensures.told ∙ c.requires.at.hand) in record {
      me = record {
        holds = ap (λ (m : Me Posting Known). m) note ∙ ap (λ (m : Me Posting Known). (Holds (holding_in m.0), [])) (sym note);
        node_is = ap (λ (m : Me Posting Known). (holding_in m.0).node) note ∙ c.requires.at.node_is;
        number_is = ap (λ (m : Me Posting Known). (holding_in m.0).sender) note ∙ sym c.requires.at.block;
        item_is = ap (λ (m : Me Posting Known). (holding_in m.0).item) note ∙ sym (c.item_of.ensures ∙ (ap (λ (w : ℕ). item_of w c.load_amount-word.result) line ∙ (ap (λ (w : ℕ). item_of (line_word h.item) w) word ∙ items_read_back h.item)));
        low = subst (λ (s : Shape). c.args.node < nodes_in s) (sym (ap (λ (m : Me Posting Known). (holding_in m.0).shape) note ∙ c.requires.at.of_shape)) c.requires.at.low;
      };
    }
