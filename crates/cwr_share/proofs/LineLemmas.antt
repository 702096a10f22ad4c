-- The lines of a text, from its pieces on.
use Rattle.std.proofs.Common.{◌≡◌, ◌≤◌, ◌==◌, ℕ, true, List, [], ◌∷◌, length, map, ap, arith}
use Rattle.std.proofs.lemmas.Bool.{eqb-true}
use Rattle.std.proofs.lemmas.List.{length-map}
use Rattle.csv_table.specs.Pieces.{pieces_at}
use Rattle.csv_table.proofs.PieceLemmas.{no_pieces, pieces_count}
use Rattle.cwr_share.specs.Lines.{lines_of, without_return}

-- a text has at most as many lines as bytes
pub lines_count : (bytes : List ℕ) → length (lines_of bytes) ≤ length bytes
lines_count bytes = omega (arith, length-map (pieces_at 10 bytes) without_return, pieces_count 10 bytes)

-- a text without bytes has no lines
pub none_left : (bytes : List ℕ) → (length bytes == 0) ≡ true → lines_of bytes ≡ []
none_left [] none = ap (map without_return) (no_pieces 10)
none_left (byte ∷ rest) none = absurd (omega (arith, eqb-true (length (byte ∷ rest)) 0 none))
