-- A CSV text without a byte order mark at its start.
use Rattle.std.proofs.Common.{◌≡◌, ◌∙◌, ◌+◌, ◌==◌, ◌&&◌, ◌∷◌, [], ℕ, Bool, true, false, Bor, List, None, Option, Some, ap, arith, cond, drop, length, nat_eq, refl, sym, take}
use Rattle.std.specs.Cmp.Lexicographic.{pointwise}
use Rattle.std.specs.Option.{MatchOption, unwrap_or}
use Rattle.csv.specs.Reading.{strip_bom}

abbrev mark : List ℕ
mark = 239 ∷ 187 ∷ 191 ∷ []

marked_by : (a b c : Bool) → (a && (b && (c && true))) ≡ ((a && b) && c)
marked_by true true true = refl
marked_by true true false = refl
marked_by true false c = refl
marked_by false b c = refl

mark_gone : (text rest : List ℕ) → pointwise nat_eq (take 3 text) mark ≡ true → rest ≡ drop 3 text → length rest + 3 ≡ length text → rest ≡ strip_bom text
unfolding strip_bom
mark_gone [] rest its is long = absurd (omega (arith, long))
mark_gone (a ∷ []) rest its is long = absurd (omega (arith, long))
mark_gone (a ∷ b ∷ []) rest its is long = absurd (omega (arith, long))
mark_gone (a ∷ b ∷ c ∷ text) rest its is long =
    is ∙ ap (λ (t : Bool). cond t text (a ∷ b ∷ c ∷ text)) (sym its ∙ marked_by (a == 239) (b == 187) (c == 191))

mark_none : (text : List ℕ) → pointwise nat_eq (take 3 text) mark ≡ false → text ≡ strip_bom text
unfolding strip_bom
mark_none [] isnt = refl
mark_none (a ∷ []) isnt = refl
mark_none (a ∷ b ∷ []) isnt = refl
mark_none (a ∷ b ∷ c ∷ text) isnt =
    ap (λ (t : Bool). cond t text (a ∷ b ∷ c ∷ text)) (sym isnt ∙ marked_by (a == 239) (b == 187) (c == 191))

-- what `strip_prefix` answers, and else the text
pub mark_off : (text : Bor (List ℕ)) (o : Option (Bor (List ℕ)))
    → MatchOption o (pointwise nat_eq (take 3 text.now) mark ≡ false) (λ x. (pointwise nat_eq (take 3 text.now) mark ≡ true) × (x.now ≡ drop 3 text.now) × (length x.now + 3 ≡ length text.now))
    → (unwrap_or o text).now ≡ strip_bom text.now
mark_off text None isnt = mark_none text.now isnt
mark_off text (Some rest) its = mark_gone text.now rest.now its.0 its.1 its.2
