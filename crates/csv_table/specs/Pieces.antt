-- The pieces of a text that is cut at each byte of one value.
use Rattle.std.specs.Prelude.{ℕ, ◌==◌, ◌∷◌, List, [], if◌then◌else◌}

-- a byte more in front of the first piece
abbrev pub before_piece : ℕ → List (List ℕ) → List (List ℕ)
before_piece byte [] = (byte ∷ []) ∷ []
before_piece byte (piece ∷ pieces) = (byte ∷ piece) ∷ pieces

-- what stands between these bytes, empty pieces too; a text that ends in one has no piece after it
unfoldable pub pieces_at : (cut : ℕ) → List ℕ → List (List ℕ)
pieces_at cut [] = []
pieces_at cut (byte ∷ rest) = if byte == cut then [] ∷ pieces_at cut rest else before_piece byte (pieces_at cut rest)
