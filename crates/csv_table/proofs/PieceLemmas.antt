-- The pieces of a text, from the places where it is cut on.
use Rattle.std.proofs.Common.{◌≡◌, ◌≢◌, ◌<◌, ◌≤◌, ◌+◌, ◌-◌, ℕ, zero, suc, List, [], ◌∷◌, length, take, drop, ap, refl, ◌∙◌, inl, inr, add-one, arith}
use Rattle.std.specs.Prelude.{slice_index}
use Rattle.std.proofs.lemmas.Bool.{cases_eq, eq-eqb, ne_eqb}
use Rattle.std.proofs.lemmas.List.{take_rest}
use Rattle.csv_table.specs.Pieces.{before_piece, pieces_at}

-- an empty text has no pieces
pub no_pieces : (cut : ℕ) → pieces_at cut [] ≡ []
unfolding pieces_at
no_pieces cut = refl

-- a cut ends an empty piece
cut_ends : (cut byte : ℕ) (rest : List ℕ) → byte ≡ cut → pieces_at cut (byte ∷ rest) ≡ [] ∷ pieces_at cut rest
unfolding pieces_at
cut_ends cut byte rest is = rw (eq-eqb byte cut is) refl

-- another byte begins a piece
byte_begins : (cut byte : ℕ) (rest : List ℕ) → byte ≢ cut → pieces_at cut (byte ∷ rest) ≡ before_piece byte (pieces_at cut rest)
unfolding pieces_at
byte_begins cut byte rest differs = rw (ne_eqb byte cut differs) refl

-- the first piece stands before the first cut
first_cut : (cut : ℕ) (text : List ℕ) (n : ℕ) → n < length text → ((k : ℕ) → k < n → slice_index text k ≢ cut) → slice_index text n ≡ cut
    → pieces_at cut text ≡ take n text ∷ pieces_at cut (drop (suc n) text)
first_cut cut [] n within others here = absurd (omega (arith, within))
first_cut cut (byte ∷ rest) zero within others here = cut_ends cut byte rest here
first_cut cut (byte ∷ rest) (suc n) within others here =
    byte_begins cut byte rest (others 0 (omega arith))
    ∙ ap (before_piece byte) (first_cut cut rest n (omega (arith, within)) (λ k lt. others (suc k) (omega (arith, lt))) here)

-- the same, as the code cuts the text
pub cut_first : (cut : ℕ) (text : List ℕ) (n : ℕ) → n < length text → ((k : ℕ) → k < n → slice_index text k ≢ cut) → slice_index text n ≡ cut
    → pieces_at cut text ≡ take n text ∷ pieces_at cut (take (length text - (n + 1)) (drop (n + 1) text))
cut_first cut text n within others here =
    first_cut cut text n within others here
    ∙ rw (take_rest text (n + 1), add-one n) refl

-- a text without a cut is one piece
pub cut_nowhere : (cut : ℕ) (text : List ℕ) → 0 < length text → ((k : ℕ) → k < length text → slice_index text k ≢ cut) → pieces_at cut text ≡ text ∷ pieces_at cut []
cut_nowhere cut [] some others = absurd (omega (arith, some))
cut_nowhere cut (byte ∷ []) some others = rw (no_pieces cut) (byte_begins cut byte [] (others 0 (omega arith)) ∙ ap (before_piece byte) (no_pieces cut))
cut_nowhere cut (byte ∷ next ∷ rest) some others =
    byte_begins cut byte (next ∷ rest) (others 0 (omega arith))
    ∙ ap (before_piece byte) (cut_nowhere cut (next ∷ rest) (omega arith) (λ k lt. others (suc k) (omega (arith, lt))))

-- a byte more in front makes one piece more at most
before_count : (byte : ℕ) (pieces : List (List ℕ)) → length (before_piece byte pieces) ≤ suc (length pieces)
before_count byte [] = omega arith
before_count byte (piece ∷ pieces) = omega arith

-- a text has at most as many pieces as bytes
pub pieces_count : (cut : ℕ) (text : List ℕ) → length (pieces_at cut text) ≤ length text
pieces_count cut [] = rw (no_pieces cut) (omega arith)
pieces_count cut (byte ∷ rest) =
    elim (cases_eq byte cut) [
      | inl here ↦ omega (arith, ap length (cut_ends cut byte rest here), pieces_count cut rest)
      | inr other ↦ omega (arith, ap length (byte_begins cut byte rest other), before_count byte (pieces_at cut rest), pieces_count cut rest)
    ]
