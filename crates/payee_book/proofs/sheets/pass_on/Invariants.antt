use Rattle.std.proofs.Common.{◌≡◌, ◌≤◌, ◌<◌, ℕ, true, length, take}
use Rattle.std.specs.Prelude.{slice_index_or}
use Rattle.std.specs.Io.KnownBytes.{Appends}
use Rattle.csv_table.specs.Written.{empty_page}
use Rattle.payee_book.specs.Waves.{text_on}
use Rattle.payee_book.proofs.sheets.pass_on.Given as goal

-- the sheets so far are passed on, and the others are as they were
abbrev pub invariant-loop-place : goal.invariant-loop-place
invariant-loop-place g l = record {
  count : length l.sheets ≡ length l.fn.sheets;
  whole : (k : ℕ) (d : _) → k < l.place → (slice_index_or l.fn.sheets k d).is_whole ≡ true;
  passed : (k : ℕ) (d : _) → k < l.place → (slice_index_or l.sheets k d).rows ≡ empty_page;
  left : (k : ℕ) (d : _) → l.place ≤ k → slice_index_or l.sheets k d ≡ slice_index_or l.fn.sheets k d;
  text : Appends (g.W.Write.contents l.fn.out) (g.W.Write.contents l.out) (text_on (take l.place l.fn.sheets));
}
