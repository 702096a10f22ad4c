-- Lines, and where a text is cut.
use Rattle.std.proofs.Common.{◌≡◌, ◌<◌, ◌≤◌, ℕ, List, [], ◌∷◌, ◌++◌, All, arith, length, refl, sym, ap, ◌∙◌, append_assoc, take, drop, get_or}
use Rattle.std.proofs.lemmas.List.{append_cancel_right, drop_at, get_or_at, length-append, take_at}
use Rattle.std.proofs.lemmas.List.Elements.{All-append, All-cons, All-head, All-tail, All-weaker}
use Rattle.std.specs.Prelude.{◌≢◌}
use Rattle.hex.specs.Hex.{encode_lower}
use Rattle.file_sums.specs.Sums.{FitsInComment, IsPathByte, IsSum, IsWithinLine, Sum, comment_line, line_of}
use Rattle.file_sums.proofs.DigitLemmas.{digits_begin_otherwise, digits_have_no_feed, digits_of_digest, same_digest}

-- a byte that is no line feed
abbrev pub IsOther : ℕ → Type 0
IsOther byte = byte ≢ 10

-- ---- cuts

-- a text without a line feed has no line
pub has_no_line : (text before behind : List ℕ) → All IsOther text → text ≢ before ++ 10 ∷ behind
has_no_line text before behind none is =
    let short : length before < length text = omega (arith, ap length is, length-append before (10 ∷ behind)) in
    none (length before) 0 short (ap (λ (t : List ℕ). get_or t (length before) 0) is ∙ get_or_at before 10 behind 0 (length before) refl)

-- what stands before the first line feed, and behind it
pub cut_at_feed : (a b x y : List ℕ) → All IsOther a → All IsOther b → a ++ 10 ∷ x ≡ b ++ 10 ∷ y → (a ≡ b) × (x ≡ y)
cut_at_feed [] [] x y none other e = (refl, cc e)
cut_at_feed [] (d ∷ b) x y none other e = absurd (All-head IsOther d b other (cc e))
cut_at_feed (c ∷ a) [] x y none other e = absurd (All-head IsOther c a none (cc e))
cut_at_feed (c ∷ a) (d ∷ b) x y none other e =
    let rest : a ++ 10 ∷ x ≡ b ++ 10 ∷ y = cc e in
    let same = cut_at_feed a b x y (All-tail IsOther c a none) (All-tail IsOther d b other) rest in
    (cc (e, same.0), same.1)

-- the same of lines with their line feeds
pub same_line : (a b x y : List ℕ) → All IsOther a → All IsOther b → (a ++ 10 ∷ []) ++ x ≡ (b ++ 10 ∷ []) ++ y → (a ≡ b) × (x ≡ y)
same_line a b x y none other e = cut_at_feed a b x y none other (sym (append_assoc a (10 ∷ []) x) ∙ e ∙ append_assoc b (10 ∷ []) y)

-- ---- what lines have

-- a line without its line feed
abbrev pub sum_body : Sum → List ℕ
sum_body sum = encode_lower sum.digest ++ 32 ∷ 32 ∷ sum.path

abbrev pub comment_body : List ℕ → List ℕ
comment_body text = 35 ∷ 32 ∷ text

pub sum_has_no_feed : (sum : Sum) → IsSum sum → All IsOther (sum_body sum)
sum_has_no_feed sum is =
    All-append IsOther (encode_lower sum.digest) (32 ∷ 32 ∷ sum.path) (digits_have_no_feed sum.digest)
    (All-cons IsOther 32 (32 ∷ sum.path) (λ e. cc e) (All-cons IsOther 32 sum.path (λ e. cc e)
    (All-weaker IsPathByte IsOther (λ byte of. of.0.0) sum.path is.path.bytes)))

pub comment_has_no_feed : (text : List ℕ) → FitsInComment text → All IsOther (comment_body text)
comment_has_no_feed text fits =
    All-cons IsOther 35 (32 ∷ text) (λ e. cc e) (All-cons IsOther 32 text (λ e. cc e) (All-weaker IsWithinLine IsOther (λ byte of. of.0) text fits))

-- no line is both
pub begin_otherwise : (sum : Sum) (text x y : List ℕ) → IsSum sum → line_of sum ++ x ≢ comment_line text ++ y
begin_otherwise sum text x y is e =
    digits_begin_otherwise sum.digest (32 ∷ 32 ∷ sum.path ++ (10 ∷ x)) (32 ∷ text ++ (10 ∷ y)) is.size
    (sym (append_assoc (encode_lower sum.digest) (32 ∷ 32 ∷ sum.path) (10 ∷ x)) ∙ sym (append_assoc (sum_body sum) (10 ∷ []) x) ∙ e ∙ append_assoc (comment_body text) (10 ∷ []) y)

-- the two parts of a line of a sum
pub parts_of_sum : (sum : Sum) (line : List ℕ) → IsSum sum → line_of sum ≡ line ++ 10 ∷ []
    → (64 ≤ length line) × (encode_lower sum.digest ≡ take 64 line) × (32 ∷ 32 ∷ sum.path ≡ drop 64 line)
parts_of_sum sum line is e =
    let body : sum_body sum ≡ line = append_cancel_right (sum_body sum) line (10 ∷ []) e in
    let size : length (encode_lower sum.digest) ≡ 64 = omega (arith, digits_of_digest sum.digest, is.size) in (
      omega (arith, size, ap length body, length-append (encode_lower sum.digest) (32 ∷ 32 ∷ sum.path)),
      sym (take_at (encode_lower sum.digest) (32 ∷ 32 ∷ sum.path) 64 size) ∙ ap (take 64) body,
      sym (drop_at (encode_lower sum.digest) (32 ∷ 32 ∷ sum.path) 64 size) ∙ ap (drop 64) body,
    )

-- a line is of one sum
pub same_sum : (sum other : Sum) → IsSum sum → IsSum other → sum_body sum ≡ sum_body other → sum ≡ other
same_sum sum other is are e =
    let parts = parts_of_sum sum (sum_body other) is (ap (λ (b : List ℕ). b ++ 10 ∷ []) e) in
    let others = parts_of_sum other (sum_body other) are refl in
    let digest : sum.digest ≡ other.digest = same_digest sum.digest other.digest is.bytes are.bytes (parts.1 ∙ sym others.1) in
    let path : sum.path ≡ other.path = cc (parts.2, others.2) in
    λ i. record { digest = digest i; path = path i }
