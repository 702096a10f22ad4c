-- What a document shows of a text.
use Rattle.std.proofs.Common.{◌≡◌, ℕ, zero, suc, ◌+◌, ◌-◌, ◌≤◌, true, List, [], ◌∷◌, ◌++◌, length, get_or, take, drop, flat_map, All, refl, sym, ap, ◌∙◌, arith}
use Rattle.std.proofs.Common.{append_assoc, length-append, drop_at, le_refl}
use Rattle.std.specs.Prelude.{nat_le}
use Rattle.std.proofs.lemmas.Bool.{agree_below_at, cond-true, le-leb}
use Rattle.std.proofs.lemmas.List.Elements.{All-head, All-tail}
use Rattle.bstr.specs.Text.{part}
use Rattle.bstr.specs.Utf8.{decoded, good, pieces_from, spans_from}
use Rattle.bstr.proofs.lemmas.PieceLemmas.{value-1}
use Rattle.page_text.specs.Shown.{byte_code, is_seen, shown, shown_span}

-- a byte of ASCII that can be seen
abbrev pub IsPlain : ℕ → Type 0
IsPlain byte = (32 ≤ byte) × (byte ≤ 126)

plain_seen : (byte : ℕ) → IsPlain byte → is_seen byte ≡ true
plain_seen byte h = agree_below_at is_seen (λ b. nat_le 32 b) 127 byte refl (omega arith) ∙ le-leb 32 byte h.0

plain_decoded : (byte : ℕ) (rest : List ℕ) → IsPlain byte → decoded (byte ∷ rest) ≡ good byte 1
plain_decoded byte rest h = value-1 (length (byte ∷ rest)) byte (get_or (byte ∷ rest) 1 0) (get_or (byte ∷ rest) 2 0) (get_or (byte ∷ rest) 3 0) (omega arith, omega arith)

-- the span of such a byte shows it
plain_span : (front rest : List ℕ) (byte : ℕ) → IsPlain byte → shown_span (front ++ byte ∷ rest) (length front, length front + 1, byte) ≡ byte ∷ []
plain_span front rest byte h =
    let whole = front ++ byte ∷ rest in
    let here = part (length front) (length front + 1) whole in
    let one : length front + 1 - length front ≡ 1 = omega arith in
    cond-true (is_seen byte) here (flat_map byte_code here) (plain_seen byte h)
    ∙ ap (λ n. take n (drop (length front) whole)) one ∙ ap (take 1) (drop_at front (byte ∷ rest) (length front) refl)

plain_from : (n : ℕ) (front rest : List ℕ) → length rest ≤ n → All IsPlain rest
    → flat_map (shown_span (front ++ rest)) (spans_from (length front) (pieces_from n rest)) ≡ rest
unfolding pieces_from spans_from
plain_from zero front [] few all = refl
plain_from (suc n) front [] few all = refl
plain_from zero front (byte ∷ rest) few all = absurd (omega arith)
plain_from (suc n) front (byte ∷ rest) few all =
    let plain = All-head IsPlain byte rest all in
    let whole = front ++ byte ∷ rest in
    let same : (front ++ byte ∷ []) ++ rest ≡ whole = append_assoc front (byte ∷ []) rest in
    let next : length (front ++ byte ∷ []) ≡ length front + 1 = length-append front (byte ∷ []) in
    let later = plain_from n (front ++ byte ∷ []) rest (omega arith) (All-tail IsPlain byte rest all) in
    ap (λ d. flat_map (shown_span whole) (spans_from (length front) (d ∷ pieces_from n (drop d.size (byte ∷ rest))))) (plain_decoded byte rest plain)
    ∙ ap (λ t. t ++ flat_map (shown_span whole) (spans_from (length front + 1) (pieces_from n rest))) (plain_span front rest byte plain)
    ∙ ap (λ w. byte ∷ flat_map (shown_span w) (spans_from (length front + 1) (pieces_from n rest))) (sym same)
    ∙ ap (λ k. byte ∷ flat_map (shown_span ((front ++ byte ∷ []) ++ rest)) (spans_from k (pieces_from n rest))) (sym next)
    ∙ ap (λ t. byte ∷ t) later

pub plain_shown : (text : List ℕ) → All IsPlain text → shown text ≡ text
plain_shown text all = plain_from (length text) [] text (le_refl _) all

-- the spans of a text, once the first is added
pub span_added : (bytes front whole : List ℕ) (span : ℕ × ℕ × ℕ) (spans later : List (ℕ × ℕ × ℕ)) → spans ≡ span ∷ later
    → front ++ flat_map (shown_span bytes) spans ≡ whole → (front ++ shown_span bytes span) ++ flat_map (shown_span bytes) later ≡ whole
span_added bytes front whole span spans later steps is =
    append_assoc front (shown_span bytes span) (flat_map (shown_span bytes) later) ∙ ap (λ s. front ++ flat_map (shown_span bytes) s) (sym steps) ∙ is
