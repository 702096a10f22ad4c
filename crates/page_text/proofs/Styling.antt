-- What stands in a style sheet ends nothing.
use Rattle.std.proofs.Common.{◌≡◌, ◌≢◌, ℕ, ◌/◌, ◌%◌, Bool, true, false, List, [], ◌∷◌, All, arith, refl}
use Rattle.std.specs.Prelude.{if◌then◌else◌}
use Rattle.std.proofs.lemmas.Bool.Decides.{nat_tests}
use Rattle.std.proofs.lemmas.List.Elements.{All-append, All-cons, All-nil}
use Rattle.page_text.specs.Shown.{hex}
use Rattle.page_text.specs.Styled.{stands_in_style, styled, styled_byte}

-- the byte is no quote, no line end and opens no tag
abbrev pub EndsNothing : ℕ → Type 0
EndsNothing byte = (byte ≢ 34) × (byte ≢ 60) × (byte ≢ 10)

-- a byte that stands as it is
kept_ends_nothing : (byte : ℕ) → stands_in_style byte ≡ true → EndsNothing byte
kept_ends_nothing byte stands =
    (λ is. grind (arith, nat_tests, stands, is), λ is. grind (arith, nat_tests, stands, is), λ is. grind (arith, nat_tests, stands, is))

hex_ends_nothing : (n : ℕ) → EndsNothing (hex n)
hex_ends_nothing n = (λ is. grind (arith, nat_tests, is), λ is. grind (arith, nat_tests, is), λ is. grind (arith, nat_tests, is))

of_byte : (byte : ℕ) (stands : Bool) → stands_in_style byte ≡ stands
    → All EndsNothing (if stands then byte ∷ [] else 92 ∷ hex (byte / 16) ∷ hex (byte % 16) ∷ 32 ∷ [])
of_byte byte true stands = All-cons EndsNothing byte [] (kept_ends_nothing byte stands) (All-nil EndsNothing)
of_byte byte false stands =
    All-cons EndsNothing 92 (hex (byte / 16) ∷ hex (byte % 16) ∷ 32 ∷ []) (λ is. omega (arith, is), λ is. omega (arith, is), λ is. omega (arith, is))
    (All-cons EndsNothing (hex (byte / 16)) (hex (byte % 16) ∷ 32 ∷ []) (hex_ends_nothing (byte / 16))
    (All-cons EndsNothing (hex (byte % 16)) (32 ∷ []) (hex_ends_nothing (byte % 16))
    (All-cons EndsNothing 32 [] (λ is. omega (arith, is), λ is. omega (arith, is), λ is. omega (arith, is)) (All-nil EndsNothing))))

pub styled_ends_nothing : (text : List ℕ) → All EndsNothing (styled text)
styled_ends_nothing [] = All-nil EndsNothing
styled_ends_nothing (byte ∷ rest) =
    All-append EndsNothing (styled_byte byte) (styled rest) (of_byte byte (stands_in_style byte) refl) (styled_ends_nothing rest)
