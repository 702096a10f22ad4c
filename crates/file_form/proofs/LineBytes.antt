-- How many bytes lines have.
use Rattle.std.proofs.Common.{◌≡◌, ◌≢◌, ◌≤◌, ◌+◌, ◌-◌, ◌==◌, ℕ, suc, List, [], ◌∷◌, length, map, ap, refl, arith, inl, inr}
use Rattle.std.specs.Prelude.{slice_index, sum_by}
use Rattle.std.proofs.lemmas.Bool.{cases_eq, cases_Bool, eq-eqb, ne_eqb}
use Rattle.std.proofs.lemmas.List.{length-take}
use Rattle.std.proofs.lemmas.List.Sums.{sum_by-cons}
use Rattle.csv_table.specs.Pieces.{before_piece, pieces_at}
use Rattle.csv_table.proofs.PieceLemmas.{no_pieces}
use Rattle.cwr_share.specs.Lines.{lines_of, without_return}

-- the bytes of texts, all together
abbrev pub bytes_in : List (List ℕ) → ℕ
bytes_in texts = sum_by (λ (text : List ℕ). length text) texts

bytes_cons : (text : List ℕ) (texts : List (List ℕ)) → bytes_in (text ∷ texts) ≡ length text + bytes_in texts
bytes_cons text texts = sum_by-cons (λ (text : List ℕ). length text) text texts

bytes_before : (byte : ℕ) (pieces : List (List ℕ)) → bytes_in (before_piece byte pieces) ≡ suc (bytes_in pieces)
bytes_before byte [] = refl
bytes_before byte (piece ∷ pieces) = omega (arith, bytes_cons (byte ∷ piece) pieces, bytes_cons piece pieces)

cut_piece : (cut byte : ℕ) (rest : List ℕ) → byte ≡ cut → pieces_at cut (byte ∷ rest) ≡ [] ∷ pieces_at cut rest
unfolding pieces_at
cut_piece cut byte rest is = rw (eq-eqb byte cut is) refl

longer_piece : (cut byte : ℕ) (rest : List ℕ) → byte ≢ cut → pieces_at cut (byte ∷ rest) ≡ before_piece byte (pieces_at cut rest)
unfolding pieces_at
longer_piece cut byte rest differs = rw (ne_eqb byte cut differs) refl

bytes_cut : (cut : ℕ) (text : List ℕ) → bytes_in (pieces_at cut text) ≤ length text
bytes_cut cut [] = rw (no_pieces cut) (omega arith)
bytes_cut cut (byte ∷ rest) = elim (cases_eq byte cut) [
  | inl here ↦ omega (arith, ap bytes_in (cut_piece cut byte rest here), bytes_cons [] (pieces_at cut rest), bytes_cut cut rest)
  | inr other ↦ omega (arith, ap bytes_in (longer_piece cut byte rest other), bytes_before byte (pieces_at cut rest), bytes_cut cut rest)
]

shorter : (line : List ℕ) → length (without_return line) ≤ length line
shorter line = elim (cases_Bool (slice_index line (length line - 1) == 13)) [
  | inl its ↦ rw its (omega (arith, length-take (length line - 1) line))
  | inr other ↦ rw other (omega arith)
]

bytes_shorter : (pieces : List (List ℕ)) → bytes_in (map without_return pieces) ≤ bytes_in pieces
bytes_shorter [] = omega arith
bytes_shorter (piece ∷ pieces) = omega (arith, bytes_cons (without_return piece) (map without_return pieces), bytes_cons piece pieces, shorter piece, bytes_shorter pieces)

-- the lines of a text have no more bytes than it
pub lines_bytes : (bytes : List ℕ) → bytes_in (lines_of bytes) ≤ length bytes
lines_bytes bytes = omega (arith, bytes_shorter (pieces_at 10 bytes), bytes_cut 10 bytes)
