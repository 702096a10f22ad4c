-- Signed portions add up as their sizes do.
use mir.Val.{SFits}
use Rattle.std.proofs.Common.{rules, w64, to_z, of_z, ◌≡◌, ◌∙◌, ◌+◌, ◌<◌, ◌≤◌, ◌++◌, ◌∷◌, [], ℕ, ℤ, pos, negsuc, ◌+ℤ◌, unsigned_abs, List, All, fold, length, get_or, map, sum_by, ap, subst, sym, refl, arith}
use Rattle.std.proofs.lemmas.Int.{ints, to_z-of_z}
use Rattle.std.proofs.lemmas.List.Elements.{All-map}
use Rattle.std.proofs.lemmas.List.Sums.{get_or-le-sum_by}
use Rattle.line_split.specs.LargestRemainder.{portions_of}
use Rattle.line_split.specs.Signs.{int_sum_by, signed_entry, signed_portions_of, with_sign_of}
use Rattle.line_split.proofs.Fair.{portions_are_fair}
use Rattle.line_split.specs.Claims.{base_of, participants_of}
use Rattle.line_split.proofs.ClaimLemmas.{length-participants}
use Rattle.line_split.proofs.Places.{length-portions}
use Rattle.line_split.proofs.PortionAccounts.{portion_accounts, portions_below}
use Rattle.line_split.specs.declared.TheConstants.{MOST_AMOUNT, RESIDUE}

-- numbers with a sign add up to their sum with that sign
pub sign_adds : (amount : ℤ) (a b : ℕ) → with_sign_of amount a +ℤ with_sign_of amount b ≡ with_sign_of amount (a + b)
sign_adds (pos n) a b = refl
sign_adds (negsuc n) a b = omega (arith, ints)

pub no_sign : (amount : ℤ) → with_sign_of amount 0 ≡ pos 0
no_sign (pos n) = refl
no_sign (negsuc n) = refl

-- an amount is its size with its sign
pub own_sign : (amount : ℤ) → with_sign_of amount (unsigned_abs amount) ≡ amount
own_sign (pos n) = refl
own_sign (negsuc n) = refl

-- a number with a sign has its size
pub size_of_signed : (amount : ℤ) (a : ℕ) → unsigned_abs (with_sign_of amount a) ≡ a
size_of_signed (pos n) a = refl
size_of_signed (negsuc n) a = omega (arith, ints)

-- a sum of a number and a small one, as it is kept in 64 bits
pub kept_sum : (z u : ℤ) → unsigned_abs z + unsigned_abs u ≤ MOST_AMOUNT → to_z w64 (of_z w64 (to_z w64 (of_z w64 z) +ℤ to_z w64 (of_z w64 u))) ≡ z +ℤ u
kept_sum z u small =
    let first : SFits w64 z = search rules in
    let second : SFits w64 u = search rules in
    let sum : SFits w64 (z +ℤ u) = search rules in
    (λ i. to_z w64 (of_z w64 (to_z-of_z w64 z first i +ℤ to_z-of_z w64 u second i))) ∙ to_z-of_z w64 (z +ℤ u) sum

abbrev pub signed_list : ℤ → List (ℕ × ℕ) → List (ℕ × ℤ)
signed_list amount xs = map (signed_entry amount) xs

signed_from : (amount : ℤ) (start : ℕ) (xs : List (ℕ × ℕ))
    → fold (λ (s : ℤ) (x : ℕ × ℤ). s +ℤ x.1) (with_sign_of amount start) (signed_list amount xs) ≡ with_sign_of amount (fold (λ (s : ℕ) (x : ℕ × ℕ). s + x.1) start xs)
signed_from amount start [] = refl
signed_from amount start (x ∷ xs) =
    ap (λ s. fold (λ (s : ℤ) (x : ℕ × ℤ). s +ℤ x.1) s (signed_list amount xs)) (sign_adds amount start x.1) ∙ signed_from amount (start + x.1) xs

-- what portions with a sign come to
pub signed_sum : (amount : ℤ) (xs : List (ℕ × ℕ)) → int_sum_by (λ x. x.1) (signed_list amount xs) ≡ with_sign_of amount (sum_by (λ x. x.1) xs)
signed_sum amount xs =
    ap (λ s. fold (λ (s : ℤ) (x : ℕ × ℤ). s +ℤ x.1) s (signed_list amount xs)) (sym (no_sign amount)) ∙ signed_from amount 0 xs

-- the portions of an amount come to it
pub portions_add_up : (amount : ℤ) (claims : List (ℕ × ℕ)) → int_sum_by (λ x. x.1) (signed_portions_of amount claims) ≡ amount
portions_add_up amount claims =
    signed_sum amount (portions_of (unsigned_abs amount) claims)
    ∙ ap (with_sign_of amount) (portions_are_fair (unsigned_abs amount) claims).adds_up
    ∙ own_sign amount

-- no portion is larger than what is divided
pub portions_within : (amount most : ℕ) (claims xs : List (ℕ × ℕ)) → xs ≡ portions_of amount claims → amount ≤ most → All (λ x. x.1 ≤ most) xs
portions_within amount most claims xs is small k d below =
    let whole : sum_by (λ x. x.1) xs ≡ amount = ap (λ (l : List (ℕ × ℕ)). sum_by (λ x. x.1) l) is ∙ (portions_are_fair amount claims).adds_up in
    omega (arith, get_or-le-sum_by (λ (x : ℕ × ℕ). x.1) xs k d below, whole, small)

-- there is a portion for each claim, and the residue's
pub portions_count : (amount : ℕ) (claims xs : List (ℕ × ℕ)) → xs ≡ portions_of amount claims → length xs ≡ length claims + 1
portions_count amount claims xs is = ap (λ (l : List (ℕ × ℕ)). length l) is ∙ (length-portions amount (base_of claims) (participants_of claims) ∙ length-participants claims)

-- ---- whose the portions are, and how large

signed_accounts : (amount : ℤ) (xs : List (ℕ × ℕ)) → map {A = ℕ × ℤ} (λ x. x.0) (signed_list amount xs) ≡ map (λ x. x.0) xs
signed_accounts amount [] = refl
signed_accounts amount (x ∷ xs) = ap (λ (l : List ℕ). x.0 ∷ l) (signed_accounts amount xs)

-- those of the claims' accounts, and last the residue's
pub signed_portion_accounts : (amount : ℤ) (claims : List (ℕ × ℕ)) → map {A = ℕ × ℤ} (λ portion. portion.0) (signed_portions_of amount claims) ≡ map (λ claim. claim.0) claims ++ RESIDUE ∷ []
signed_portion_accounts amount claims = signed_accounts amount (portions_of (unsigned_abs amount) claims) ∙ portion_accounts (unsigned_abs amount) claims

-- they are of accounts that there are
pub signed_portions_below : (amount : ℤ) (accounts : ℕ) (claims : List (ℕ × ℕ)) → RESIDUE < accounts → All (λ claim. claim.0 < accounts) claims
    → All (λ account. account < accounts) (map {A = ℕ × ℤ} (λ portion. portion.0) (signed_portions_of amount claims))
signed_portions_below amount accounts claims some below =
    subst (All (λ account. account < accounts)) (sym (signed_accounts amount (portions_of (unsigned_abs amount) claims))) (portions_below (unsigned_abs amount) accounts claims some below)

-- none is larger than what is divided
pub signed_portions_small : (amount : ℤ) (most : ℕ) (claims : List (ℕ × ℕ)) → unsigned_abs amount ≤ most → All (λ portion. unsigned_abs portion.1 ≤ most) (signed_portions_of amount claims)
signed_portions_small amount most claims small =
    All-map (λ (portion : ℕ × ℤ). unsigned_abs portion.1 ≤ most) (signed_entry amount) (portions_of (unsigned_abs amount) claims) (λ k d below.
    let size = portions_within (unsigned_abs amount) most claims (portions_of (unsigned_abs amount) claims) refl small k d below in
    omega (arith, size, size_of_signed amount (get_or (portions_of (unsigned_abs amount) claims) k d).1))
