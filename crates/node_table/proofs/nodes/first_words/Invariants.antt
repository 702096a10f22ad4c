use Rattle.std.proofs.Common.{◌≡◌, ◌+◌, ◌<◌, ℕ, get_or, vec_items, vec_len}
use Rattle.node_table.specs.Layout.{head_word, next_word, stub_of, words_in}
use Rattle.node_table.proofs.nodes.first_words.Given as goal

abbrev pub invariant-loop-mailbox : goal.invariant-loop-mailbox
invariant-loop-mailbox l =
    record {
      wide : vec_len l.words ≡ words_in l.shape;
      heads : (b : ℕ) → b < l.mailbox → get_or (vec_items l.words) (head_word l.shape b) 0 ≡ stub_of l.shape b + 1;
      zeros : (n k : ℕ) → k < 4 → get_or (vec_items l.words) (next_word n + k) 0 ≡ 0;
    }
