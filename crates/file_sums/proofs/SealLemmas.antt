-- Texts of seals.
use Rattle.std.proofs.Common.{◌≡◌, ◌<◌, ◌≤◌, ◌+◌, ℕ, List, [], ◌∷◌, ◌++◌, All, arith, length, refl, sym, ap, ◌∙◌, append_assoc, take, append-nil}
use Rattle.std.proofs.lemmas.List.{length-append, take_at}
use Rattle.std.proofs.lemmas.List.Elements.{All-head, All-tail}
use Rattle.std.specs.List.{flat_map}
use Rattle.std.specs.Prelude.{◌≢◌}
use Rattle.file_sums.specs.Sums.{FitsInComment, IsFaultIn, IsSeal, IsSum, Seal, Sum, comment_line, line_of, lines_in, text_of_seal}
use Rattle.file_sums.specs.Stuck.{IsStuck}
use Rattle.file_sums.proofs.LineLemmas.{begin_otherwise, comment_body, comment_has_no_feed, same_line, same_sum, sum_body, sum_has_no_feed}

-- two lines that texts begin with, and what stands behind them
same_sums : (s t : Sum) (a b x y : List ℕ) → IsSum s → IsSum t → (line_of s ++ a) ++ x ≡ (line_of t ++ b) ++ y
    → (sum_body s ≡ sum_body t) × (a ++ x ≡ b ++ y)
same_sums s t a b x y is are e =
    same_line (sum_body s) (sum_body t) (a ++ x) (b ++ y) (sum_has_no_feed s is) (sum_has_no_feed t are)
    (sym (append_assoc (line_of s) a x) ∙ e ∙ append_assoc (line_of t) b y)

regroup : (line a b x : List ℕ) → ((line ++ a) ++ b) ++ x ≡ line ++ ((a ++ b) ++ x)
regroup line a b x = simp append_assoc

same_comments : (c d a b p q x y : List ℕ) → FitsInComment c → FitsInComment d → ((comment_line c ++ a) ++ p) ++ x ≡ ((comment_line d ++ b) ++ q) ++ y
    → (comment_body c ≡ comment_body d) × ((a ++ p) ++ x ≡ (b ++ q) ++ y)
same_comments c d a b p q x y fits other e =
    same_line (comment_body c) (comment_body d) ((a ++ p) ++ x) ((b ++ q) ++ y) (comment_has_no_feed c fits) (comment_has_no_feed d other)
    (sym (regroup (comment_line c) a p x) ∙ e ∙ regroup (comment_line d) b q y)

-- ---- a text is of one seal

sums_are_one : (ss ts : List Sum) → All IsSum ss → All IsSum ts → flat_map line_of ss ≡ flat_map line_of ts → ss ≡ ts
sums_are_one [] [] is are e = refl
sums_are_one [] (t ∷ ts) is are e = absurd (omega (arith, ap length e, length-append (line_of t) (flat_map line_of ts), length-append (sum_body t) (10 ∷ [])))
sums_are_one (s ∷ ss) [] is are e = absurd (omega (arith, ap length e, length-append (line_of s) (flat_map line_of ss), length-append (sum_body s) (10 ∷ [])))
sums_are_one (s ∷ ss) (t ∷ ts) is are e =
    let first = All-head IsSum s ss is in
    let other = All-head IsSum t ts are in
    let same = same_line (sum_body s) (sum_body t) (flat_map line_of ss) (flat_map line_of ts) (sum_has_no_feed s first) (sum_has_no_feed t other) e in
    cc (same_sum s t first other same.0, sums_are_one ss ts (All-tail IsSum s ss is) (All-tail IsSum t ts are) same.1)

abbrev text_of : List (List ℕ) → List Sum → List ℕ
text_of comments sums = flat_map comment_line comments ++ flat_map line_of sums

lines_are_one : (cs ds : List (List ℕ)) (ss ts : List Sum) → All FitsInComment cs → All FitsInComment ds → All IsSum ss → All IsSum ts
    → text_of cs ss ≡ text_of ds ts → (cs ≡ ds) × (ss ≡ ts)
lines_are_one [] [] ss ts fits others is are e = (refl, sums_are_one ss ts is are e)
lines_are_one [] (d ∷ ds) [] ts fits others is are e =
    absurd (omega (arith, ap length e, length-append (comment_line d ++ flat_map comment_line ds) (flat_map line_of ts), length-append (comment_line d) (flat_map comment_line ds)))
lines_are_one [] (d ∷ ds) (s ∷ ss) ts fits others is are e =
    absurd (begin_otherwise s d (flat_map line_of ss) (flat_map comment_line ds ++ flat_map line_of ts) (All-head IsSum s ss is)
    (e ∙ append_assoc (comment_line d) (flat_map comment_line ds) (flat_map line_of ts)))
lines_are_one (c ∷ cs) [] ss [] fits others is are e =
    absurd (omega (arith, ap length e, length-append (comment_line c ++ flat_map comment_line cs) (flat_map line_of ss), length-append (comment_line c) (flat_map comment_line cs)))
lines_are_one (c ∷ cs) [] ss (t ∷ ts) fits others is are e =
    absurd (begin_otherwise t c (flat_map line_of ts) (flat_map comment_line cs ++ flat_map line_of ss) (All-head IsSum t ts are)
    (sym e ∙ append_assoc (comment_line c) (flat_map comment_line cs) (flat_map line_of ss)))
lines_are_one (c ∷ cs) (d ∷ ds) ss ts fits others is are e =
    let same = same_line (comment_body c) (comment_body d) (text_of cs ss) (text_of ds ts)
    (comment_has_no_feed c (All-head FitsInComment c cs fits)) (comment_has_no_feed d (All-head FitsInComment d ds others))
    (sym (append_assoc (comment_line c) (flat_map comment_line cs) (flat_map line_of ss)) ∙ e ∙ append_assoc (comment_line d) (flat_map comment_line ds) (flat_map line_of ts)) in
    let rest = lines_are_one cs ds ss ts (All-tail FitsInComment c cs fits) (All-tail FitsInComment d ds others) is are same.1 in
    (cc (same.0, rest.0), rest.1)

pub one_seal : (seal other : Seal) → IsSeal seal → IsSeal other → text_of_seal seal ≡ text_of_seal other → seal ≡ other
one_seal seal other is are e =
    let same = lines_are_one seal.comments other.comments seal.sums other.sums is.comments are.comments is.sums are.sums e in
    λ i. record { comments = same.0 i; sums = same.1 i }

-- ---- where reading is stuck, no seal goes on

-- no line of a sum comes next
abbrev HasNoSum : List ℕ → Type 0
HasNoSum rest = (sum : Sum) (behind : List ℕ) → IsSum sum → ¬ (rest ≡ line_of sum ++ behind)

sums_are_longest : (ss ts : List Sum) (rest behind : List ℕ) → All IsSum ss → All IsSum ts → HasNoSum rest
    → flat_map line_of ss ++ rest ≡ flat_map line_of ts ++ behind → length (flat_map line_of ts) ≤ length (flat_map line_of ss)
sums_are_longest ss [] rest behind is are no_sum e = omega arith
sums_are_longest [] (t ∷ ts) rest behind is are no_sum e =
    absurd (no_sum t (flat_map line_of ts ++ behind) (All-head IsSum t ts are) (e ∙ append_assoc (line_of t) (flat_map line_of ts) behind))
sums_are_longest (s ∷ ss) (t ∷ ts) rest behind is are no_sum e =
    let same = same_sums s t (flat_map line_of ss) (flat_map line_of ts) rest behind (All-head IsSum s ss is) (All-head IsSum t ts are) e in
    let least = sums_are_longest ss ts rest behind (All-tail IsSum s ss is) (All-tail IsSum t ts are) no_sum same.1 in
    omega (
      arith,
      least,
      ap length same.0,
      length-append (line_of s) (flat_map line_of ss),
      length-append (line_of t) (flat_map line_of ts),
      length-append (sum_body s) (10 ∷ []),
      length-append (sum_body t) (10 ∷ []),
    )

lines_are_longest : (cs ds : List (List ℕ)) (ss ts : List Sum) (rest behind : List ℕ) → All FitsInComment cs → All FitsInComment ds
    → All IsSum ss → All IsSum ts → IsStuck ss rest → text_of cs ss ++ rest ≡ text_of ds ts ++ behind
    → length (text_of ds ts) ≤ length (text_of cs ss)
lines_are_longest [] [] ss ts rest behind fits others is are stuck e = sums_are_longest ss ts rest behind is are stuck.no_sum e
lines_are_longest [] (d ∷ ds) [] ts rest behind fits others is are stuck e =
    absurd (stuck.no_comment d (text_of ds ts ++ behind) (All-head FitsInComment d ds others) refl (e ∙ regroup (comment_line d) (flat_map comment_line ds) (flat_map line_of ts) behind))
lines_are_longest [] (d ∷ ds) (s ∷ ss) ts rest behind fits others is are stuck e =
    absurd (begin_otherwise s d (flat_map line_of ss ++ rest) (text_of ds ts ++ behind) (All-head IsSum s ss is)
    (sym (append_assoc (line_of s) (flat_map line_of ss) rest) ∙ e ∙ regroup (comment_line d) (flat_map comment_line ds) (flat_map line_of ts) behind))
lines_are_longest (c ∷ cs) [] ss [] rest behind fits others is are stuck e = omega arith
lines_are_longest (c ∷ cs) [] ss (t ∷ ts) rest behind fits others is are stuck e =
    absurd (begin_otherwise t c (flat_map line_of ts ++ behind) (text_of cs ss ++ rest) (All-head IsSum t ts are)
    (sym (append_assoc (line_of t) (flat_map line_of ts) behind) ∙ sym e ∙ regroup (comment_line c) (flat_map comment_line cs) (flat_map line_of ss) rest))
lines_are_longest (c ∷ cs) (d ∷ ds) ss ts rest behind fits others is are stuck e =
    let same = same_comments c d (flat_map comment_line cs) (flat_map comment_line ds) (flat_map line_of ss) (flat_map line_of ts) rest behind
    (All-head FitsInComment c cs fits) (All-head FitsInComment d ds others) e in
    let least = lines_are_longest cs ds ss ts rest behind (All-tail FitsInComment c cs fits) (All-tail FitsInComment d ds others) is are stuck same.1 in
    omega (
      arith,
      least,
      ap length same.0,
      length-append (comment_line c ++ flat_map comment_line cs) (flat_map line_of ss),
      length-append (comment_line c) (flat_map comment_line cs),
      length-append (comment_line d ++ flat_map comment_line ds) (flat_map line_of ts),
      length-append (comment_line d) (flat_map comment_line ds),
      length-append (flat_map comment_line cs) (flat_map line_of ss),
      length-append (flat_map comment_line ds) (flat_map line_of ts),
      length-append (comment_body c) (10 ∷ []),
      length-append (comment_body d) (10 ∷ []),
    )

-- what reading is refused for, where it is stuck
pub fault_if_stuck : (text rest : List ℕ) (before : Seal) (line : ℕ) → IsSeal before → text ≡ text_of_seal before ++ rest → 0 < length rest
    → IsStuck before.sums rest → line ≡ lines_in before + 1 → IsFaultIn text line
fault_if_stuck text rest before line sound bytes some stuck number = record {
  before = before;
  rest = rest;
  sound = sound;
  bytes = bytes;
  some = some;
  number = number;
  longest = λ other behind is e. lines_are_longest before.comments other.comments before.sums other.sums rest behind sound.comments is.comments sound.sums is.sums stuck (sym bytes ∙ e);
}

-- ---- faults

pub no_seal_with_fault : (text : List ℕ) (line : ℕ) (seal : Seal) → IsFaultIn text line → IsSeal seal → text ≢ text_of_seal seal
no_seal_with_fault text line seal fault is e =
    let least = fault.longest seal [] is (e ∙ sym (append-nil (text_of_seal seal))) in
    omega (arith, least, fault.some, ap length e, ap length fault.bytes, length-append (text_of_seal fault.before) fault.rest)

pub one_fault : (text : List ℕ) (line other : ℕ) → IsFaultIn text line → IsFaultIn text other → line ≡ other
one_fault text line other fault another =
    let size : length (text_of_seal fault.before) ≡ length (text_of_seal another.before) =
    omega (arith, fault.longest another.before another.rest another.sound another.bytes, another.longest fault.before fault.rest fault.sound fault.bytes) in
    let same : text_of_seal fault.before ≡ text_of_seal another.before =
    sym (take_at (text_of_seal fault.before) fault.rest (length (text_of_seal fault.before)) refl) ∙ ap (take (length (text_of_seal fault.before))) (sym fault.bytes ∙ another.bytes)
    ∙ take_at (text_of_seal another.before) another.rest (length (text_of_seal fault.before)) (sym size) in
    let seal = one_seal fault.before another.before fault.sound another.sound same in
    fault.number ∙ ap (λ (s : Seal). lines_in s + 1) seal ∙ sym another.number
