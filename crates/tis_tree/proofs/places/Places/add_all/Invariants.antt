use Rattle.std.proofs.Common.{◌≡◌, ◌<◌, ◌≤◌, ℕ, bit_or, slice_index}
use Rattle.tis_tree.proofs.places.Places.add_all.Given as goal

abbrev pub invariant-loop-word : goal.invariant-loop-word
invariant-loop-word l = record {
  joined : (k : ℕ) → k < l.word → slice_index l.self.words k ≡ bit_or (slice_index l.initial.self.words k) (slice_index l.places.words k);
  kept : (k : ℕ) → l.word ≤ k → slice_index l.self.words k ≡ slice_index l.initial.self.words k;
}
