-- Whose the portions of a division are, and how large.
use Rattle.std.proofs.Common.{◌≡◌, ◌∙◌, ◌+◌, ◌<◌, ◌≤◌, ◌++◌, ◌∷◌, [], ℕ, Bool, true, false, List, length, map, get_or, All, ap, sym, refl, subst, arith}
use Rattle.std.specs.Prelude.{if◌then◌else◌, nat_le, sum_by}
use Rattle.std.specs.List.{AllPairs, enumerate_from}
use Rattle.std.proofs.lemmas.List.{map-append}
use Rattle.std.proofs.lemmas.List.Elements.{All-map, All-push}
use Rattle.std.proofs.lemmas.List.Quantifiers.{all_pairs_push}
use Rattle.std.proofs.lemmas.List.Kept.{AllPairs-from_increasing}
use Rattle.std.proofs.lemmas.List.Sums.{sum_by_more_le}
use Rattle.line_split.specs.Claims.{AreClaims, counted_claims, participants_of, total_of}
use Rattle.line_split.specs.LargestRemainder.{portions_of}
use Rattle.line_split.specs.declared.TheConstants.{MOST_CLAIMED, RESIDUE}

map_second : {X Y Z : Type 0} (f : ℕ × X → Y) (g : X → Z) (h : Y → Z) → ((e : ℕ × X) → h (f e) ≡ g e.1)
    → (n : ℕ) (xs : List X) → map h (map f (enumerate_from n xs)) ≡ map g xs
map_second f g h same n [] = refl
map_second f g h same n (x ∷ xs) =
    ap (λ z. z ∷ map h (map f (enumerate_from (n + 1) xs))) (same (n, x)) ∙ ap (λ l. g x ∷ l) (map_second f g h same (n + 1) xs)

counted_accounts : (claims : List (ℕ × ℕ)) → map (λ claim. claim.0) (counted_claims claims) ≡ map (λ claim. claim.0) claims
counted_accounts claims = by (nat_le (total_of claims) MOST_CLAIMED)
  where
    nothing : (cs : List (ℕ × ℕ)) → map {A = ℕ × ℕ} (λ claim. claim.0) (map (λ claim. (claim.0, 0)) cs) ≡ map (λ claim. claim.0) cs
    nothing [] = refl
    nothing (c ∷ cs) = ap (λ (l : List ℕ). c.0 ∷ l) (nothing cs)

    by : (b : Bool) → map {A = ℕ × ℕ} (λ claim. claim.0) (if b then claims else map (λ claim. (claim.0, 0)) claims) ≡ map (λ claim. claim.0) claims
    by true = refl
    by false = nothing claims

-- the portions are those of the claims' accounts, and last of the residue's
pub portion_accounts : (amount : ℕ) (claims : List (ℕ × ℕ)) → map (λ portion. portion.0) (portions_of amount claims) ≡ map (λ claim. claim.0) claims ++ RESIDUE ∷ []
portion_accounts amount claims =
    map_second _ (λ (p : ℕ × ℕ). p.0) (λ (p : ℕ × ℕ). p.0) (λ e. refl) 0 (participants_of claims)
    ∙ (map-append (λ (p : ℕ × ℕ). p.0) (counted_claims claims) _
    ∙ ap (λ (l : List ℕ). l ++ RESIDUE ∷ []) (counted_accounts claims))

-- no account has two of them
pub portions_once : (amount : ℕ) (claims : List (ℕ × ℕ)) → AreClaims claims → AllPairs (λ x y. ¬ (x ≡ y)) (map (λ portion. portion.0) (portions_of amount claims))
portions_once amount claims are =
    subst (AllPairs (λ x y. ¬ (x ≡ y))) (sym (portion_accounts amount claims))
    (all_pairs_push (λ x y. ¬ (x ≡ y)) (map (λ claim. claim.0) claims) RESIDUE by_order
    (λ k d lt is.
    let payee = All-map (λ account. RESIDUE < account) (λ (claim : ℕ × ℕ). claim.0) claims are.payees k d lt in
    omega (arith, payee, is)))
  where
    by_order : (i j d : ℕ) → i < j → j < length (map {A = ℕ × ℕ} (λ claim. claim.0) claims) → ¬ (get_or (map {A = ℕ × ℕ} (λ claim. claim.0) claims) i d ≡ get_or (map {A = ℕ × ℕ} (λ claim. claim.0) claims) j d)
    by_order i j d lt inside same =
        let rises = AllPairs-from_increasing (map {A = ℕ × ℕ} (λ claim. claim.0) claims) are.rising i j d lt inside in
        omega (arith, rises, same)

-- they are of accounts that there are
pub portions_below : (amount accounts : ℕ) (claims : List (ℕ × ℕ)) → RESIDUE < accounts → All (λ claim. claim.0 < accounts) claims
    → All (λ account. account < accounts) (map (λ portion. portion.0) (portions_of amount claims))
portions_below amount accounts claims some below =
    subst (All (λ account. account < accounts)) (sym (portion_accounts amount claims))
    (All-push (λ account. account < accounts) (map (λ claim. claim.0) claims) RESIDUE (All-map (λ account. account < accounts) (λ (claim : ℕ × ℕ). claim.0) claims below) some)

-- none is more than they all come to
pub portions_small : (portions : List (ℕ × ℕ)) (most : ℕ) → sum_by (λ portion. portion.1) portions ≤ most → All (λ portion. portion.1 ≤ most) portions
portions_small portions most whole k d lt =
    let part = sum_by_more_le (λ (portion : ℕ × ℕ). portion.1) portions k d lt in
    omega (arith, part, whole)
