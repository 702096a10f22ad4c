-- What a page is put together of: tags of its own, and texts and figures of a run.
use Rattle.std.specs.Prelude.{ℕ, List, decimal, flat_map}
use Rattle.page_parts.specs.declared.piece.Piece.{Piece}
use Rattle.page_parts.specs.declared.piece.Piece.TheVariants.{Tag, Text, Styled, Number, Count, Amount, Share}
use Rattle.page_text.specs.Escaped.{escaped}
use Rattle.page_text.specs.Figures.{amount_text, count_text, size_text}
use Rattle.page_text.specs.Shown.{shown}
use Rattle.page_text.specs.Styled.{styled}

-- texts, one behind the other
abbrev pub all_of : List (List ℕ) → List ℕ
all_of texts = flat_map (λ text. text) texts

-- a text between tags, whatever bytes it has
abbrev pub in_page : List ℕ → List ℕ
in_page text = escaped (shown text)

-- and within quotes of its style sheet
abbrev pub in_style : List ℕ → List ℕ
in_style text = styled (shown text)

-- a piece as it stands in a page whose amounts have so many decimal places
abbrev pub piece_text : (decimals : ℕ) → Piece → List ℕ
piece_text decimals (Tag text) = text.now
piece_text decimals (Text text) = in_page text.now
piece_text decimals (Styled text) = in_style text.now
piece_text decimals (Number number) = decimal number
piece_text decimals (Count count) = count_text count
piece_text decimals (Amount amount) = amount_text decimals amount
piece_text decimals (Share share) = size_text 2 share

abbrev pub pieces_text : (decimals : ℕ) → List Piece → List ℕ
pieces_text decimals pieces = flat_map (piece_text decimals) pieces
