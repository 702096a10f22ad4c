-- What a buffer holds once a reader wrote behind it.
use Rattle.std.proofs.Common.{◌≡◌, ◌≤◌, ◌+◌, ◌-◌, ◌∙◌, ℕ, List, [], ◌++◌, length, take, drop, Option, Some, None, Result, Ok, Err, Bool, true, false, refl, sym, ap, append_assoc, arith}
use Rattle.std.specs.List.{list_any, slice_range}
use Rattle.std.specs.Option.{IfSome}
use Rattle.merge_statements.specs.Buffered.{is_feed}
use Rattle.std.specs.Result.{IfOk}
use Rattle.std.specs.Io.KnownBytes.{Consumes, Keeps, prepend_known}
use Rattle.std.proofs.Common.{drop-drop, length-take}
use Rattle.std.proofs.Math.Seq.{take-add, take-append_seam}
use Rattle.std.proofs.lemmas.List.{drop-take, length-append, take-take}

-- a part, by what stands before a place behind it
part_before : (xs : List ℕ) (n a b : ℕ) → a ≤ b → b ≤ n → slice_range xs a b ≡ take (b - a) (drop a (take n xs))
part_before xs n a b low high =
    let whole : n ≡ a + (n - a) = omega arith in
    sym (ap (λ (k : ℕ). take (b - a) (drop a (take k xs))) whole
    ∙ (ap (take (b - a)) (drop-take a (n - a) xs) ∙ take-take (b - a) (n - a) (drop a xs) (omega arith)))

-- a part of what stays the same
pub same_part : (xs ys : List ℕ) (n a b : ℕ) → a ≤ b → b ≤ n → take n ys ≡ take n xs → slice_range ys a b ≡ slice_range xs a b
same_part xs ys n a b low high same =
    part_before ys n a b low high ∙ (ap (λ (t : List ℕ). take (b - a) (drop a t)) same ∙ sym (part_before xs n a b low high))

-- a part and what was read behind it
pub grown_part : (xs ys : List ℕ) (n a more : ℕ) → a ≤ n → take n ys ≡ take n xs → slice_range ys a (n + more) ≡ slice_range xs a n ++ take more (drop n ys)
grown_part xs ys n a more low same =
    let size : n + more - a ≡ (n - a) + more = omega arith in
    let there : a + (n - a) ≡ n = omega arith in
    rw size (take-add (n - a) more (drop a ys)
    ∙ (ap (λ (t : List ℕ). t ++ take more (drop (n - a) (drop a ys))) (same_part xs ys n a n low (omega arith) same)
    ∙ ap (λ (t : List ℕ). slice_range xs a n ++ take more t) (drop-drop (n - a) a ys ∙ ap (λ (k : ℕ). drop k ys) there)))

-- the first of what waits
pub first_part : (xs : List ℕ) (a size b : ℕ) → size ≤ b - a → slice_range xs a (a + size) ≡ take size (slice_range xs a b)
first_part xs a size b fits =
    let same : a + size - a ≡ size = omega arith in
    rw same (sym (take-take size (b - a) (drop a xs) fits))

pub part_length : (xs : List ℕ) (a b : ℕ) → length (slice_range xs a b) ≤ b - a
part_length xs a b = omega (arith, length-take (b - a) (drop a xs))

pub keeps_grown : (before after : Option (List ℕ)) (waits waits' read : List ℕ) → Consumes before after read → waits' ≡ waits ++ read
    → Keeps (prepend_known waits before) (prepend_known waits' after)
keeps_grown None after waits waits' read consumed is = tt
keeps_grown (Some x) None waits waits' read consumed is = absurd consumed
keeps_grown (Some x) (Some y) waits waits' read consumed is =
    ap (λ (t : List ℕ). t ++ y) is ∙ (append_assoc waits read y ∙ ap (λ (t : List ℕ). waits ++ t) (sym consumed))

pub keeps_same : (before after : Option (List ℕ)) (waits waits' : List ℕ) → Keeps before after → waits' ≡ waits
    → Keeps (prepend_known waits before) (prepend_known waits' after)
keeps_same None after waits waits' kept is = tt
keeps_same (Some x) None waits waits' kept is = absurd kept
keeps_same (Some x) (Some y) waits waits' kept is = ap (λ (t : List ℕ). t ++ y) is ∙ ap (λ (t : List ℕ). waits ++ t) kept

-- what goes on is not at its end
pub goes_on : {E : Type 0} (P : Type 0) (r : Result Bool E) → IfOk r (λ more. more ≡ true) → IfOk r (λ more. more ≡ false → P)
goes_on P (Ok more) on = λ over. cc (sym on ∙ over)
goes_on P (Err e) on = tt

pub nothing_waits : (left : Option (List ℕ)) (waits : List ℕ) → waits ≡ [] → prepend_known waits left ≡ left
nothing_waits None waits none = refl
nothing_waits (Some x) waits none = ap (λ (t : List ℕ). Some (t ++ x)) none

-- a buffer that is full of what is left
pub full : (n : ℕ) (left behind : Option (List ℕ)) (waits : List ℕ) → Keeps left (prepend_known waits behind) → length waits ≡ n → list_any is_feed waits ≡ false
    → IfSome left (λ text. (n ≤ length text) × (list_any is_feed (take n text) ≡ false))
full n None behind waits kept size none = tt
full n (Some text) None waits kept size none = absurd kept
full n (Some text) (Some rest) waits kept size none =
    let front : take n text ≡ waits =
    ap (take n) (sym kept) ∙ (ap (λ (k : ℕ). take k (waits ++ rest)) (sym size) ∙ take-append_seam waits rest) in
    (omega (arith, size, ap length kept, length-append waits rest), rw front none)
