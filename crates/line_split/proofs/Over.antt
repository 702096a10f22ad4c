-- Claims that come to more than the limit: the residue has it all.
use Rattle.std.proofs.Common.{◌≡◌, ℕ, ◌+◌, ◌*◌, ◌-◌, ◌/◌, ◌<◌, Bool, false, cond, ltb, leb, max, List, [], ◌∷◌, ◌++◌, map, sum_by, refl, ap, ◌∙◌, arith}
use Rattle.std.specs.List.{enumerate_from}
use Rattle.std.proofs.lemmas.Bool.{lt-leb, le-ltb}
use Rattle.std.proofs.lemmas.List.{map_push}
use Rattle.std.proofs.lemmas.List.Sums.{sum_by-cons, sum_by_push}
use Rattle.line_split.specs.declared.TheConstants.{RESIDUE, FULL_SHARE, MOST_CLAIMED}
use Rattle.line_split.specs.Claims.{total_of, base_of, participants_of}
use Rattle.line_split.specs.LargestRemainder.{quota_of, remainder_of, contenders_of, rank_of, units_left, portion_of, portions_of}
use Rattle.line_split.proofs.Enumerated.{map_same}
use Rattle.line_split.proofs.SumBelow.{bit}
use Rattle.line_split.proofs.ClaimLemmas.{total-nothing}

-- the claims, each as nothing
abbrev pub nothing : List (ℕ × ℕ) → List (ℕ × ℕ)
nothing claims = map (λ claim. (claim.0, 0)) claims

participants-over : (claims : List (ℕ × ℕ)) → MOST_CLAIMED < total_of claims → participants_of claims ≡ nothing claims ++ (RESIDUE, FULL_SHARE) ∷ []
participants-over claims over =
    let test : leb (total_of claims) MOST_CLAIMED ≡ false = lt-leb _ _ over in
    ap (λ (b : Bool). cond b claims (nothing claims) ++ (RESIDUE, max FULL_SHARE (total_of (cond b claims (nothing claims))) - total_of (cond b claims (nothing claims))) ∷ []) test
    ∙ ap (λ (share : ℕ). nothing claims ++ (RESIDUE, share) ∷ []) (omega (arith, total-nothing claims))

base-over : (claims : List (ℕ × ℕ)) → MOST_CLAIMED < total_of claims → base_of claims ≡ FULL_SHARE
base-over claims over =
    let test : leb (total_of claims) MOST_CLAIMED ≡ false = lt-leb _ _ over in
    ap (λ (b : Bool). max FULL_SHARE (total_of (cond b claims (nothing claims)))) test ∙ omega (arith, total-nothing claims)

quotas-nothing : (amount : ℕ) (claims : List (ℕ × ℕ)) → sum_by (λ p. quota_of amount FULL_SHARE p.1) (nothing claims) ≡ 0
quotas-nothing amount [] = refl
quotas-nothing amount (claim ∷ claims) =
    let none : quota_of amount FULL_SHARE 0 ≡ 0 = omega arith in
    let rest = quotas-nothing amount claims in
    let all = sum_by-cons (λ p. quota_of amount FULL_SHARE p.1) (claim.0, 0) (nothing claims) in
    omega (arith, none, rest, all)

-- a list beside its places, from which the places are not read
unplaced : {X Y : Type 0} (g : X → Y) (n : ℕ) (xs : List X) → map (λ e. g e.1) (enumerate_from n xs) ≡ map g xs
unplaced g n [] = refl
unplaced {X} {Y} g n (x ∷ xs) = ap (λ (l : List Y). g x ∷ l) (unplaced g (n + 1) xs)

-- where no units are left, each portion is its quota
quotas-alone : (amount base : ℕ) (ps : List (ℕ × ℕ)) → units_left amount base ps ≡ 0 → (place share : ℕ)
    → portion_of amount base ps place share ≡ quota_of amount base share
quotas-alone amount base ps none place share =
    let rank = rank_of (contenders_of amount base ps) (place, remainder_of amount base share) in
    let unit : bit (ltb rank (units_left amount base ps)) ≡ 0 =
    ap (λ (l : ℕ). bit (ltb rank l)) none ∙ ap bit (le-ltb rank 0 (omega arith)) in
    omega (arith, unit)

map-nothing : (amount : ℕ) (claims : List (ℕ × ℕ)) → map (λ p. (p.0, quota_of amount FULL_SHARE p.1)) (nothing claims) ≡ nothing claims
map-nothing amount [] = refl
map-nothing amount (claim ∷ claims) =
    let none : quota_of amount FULL_SHARE 0 ≡ 0 = omega arith in
    ap (λ (q : ℕ). (claim.0, q) ∷ map (λ p. (p.0, quota_of amount FULL_SHARE p.1)) (nothing claims)) none
    ∙ ap (λ (l : List (ℕ × ℕ)). (claim.0, 0) ∷ l) (map-nothing amount claims)

pub portions-over : (amount : ℕ) (claims : List (ℕ × ℕ)) → MOST_CLAIMED < total_of claims
    → portions_of amount claims ≡ nothing claims ++ (RESIDUE, amount) ∷ []
portions-over amount claims over =
    ap (λ (base : ℕ). map (λ e. (e.1.0, portion_of amount base (participants_of claims) e.0 e.1.1)) (enumerate_from 0 (participants_of claims))) (base-over claims over)
    ∙ (ap (λ (ps : List (ℕ × ℕ)). map (λ e. (e.1.0, portion_of amount FULL_SHARE ps e.0 e.1.1)) (enumerate_from 0 ps)) (participants-over claims over)
    ∙ (map_same _ (λ e. (e.1.0, quota_of amount FULL_SHARE e.1.1)) (λ e. ap (λ (p : ℕ). (e.1.0, p)) (quotas-alone amount FULL_SHARE (nothing claims ++ (RESIDUE, FULL_SHARE) ∷ []) none e.0 e.1.1)) (enumerate_from 0 (nothing claims ++ (RESIDUE, FULL_SHARE) ∷ []))
    ∙ (unplaced (λ p. (p.0, quota_of amount FULL_SHARE p.1)) 0 (nothing claims ++ (RESIDUE, FULL_SHARE) ∷ [])
    ∙ (map_push (λ p. (p.0, quota_of amount FULL_SHARE p.1)) (nothing claims) (RESIDUE, FULL_SHARE)
    ∙ (ap (λ (l : List (ℕ × ℕ)). l ++ (RESIDUE, quota_of amount FULL_SHARE FULL_SHARE) ∷ []) (map-nothing amount claims)
    ∙ ap (λ (q : ℕ). nothing claims ++ (RESIDUE, q) ∷ []) whole)))))
  where
    whole : quota_of amount FULL_SHARE FULL_SHARE ≡ amount
    whole = omega arith

    none : units_left amount FULL_SHARE (nothing claims ++ (RESIDUE, FULL_SHARE) ∷ []) ≡ 0
    none =
        let all = sum_by_push (λ p. quota_of amount FULL_SHARE p.1) (nothing claims) (RESIDUE, FULL_SHARE) in
        let rest = quotas-nothing amount claims in
        let last : amount * FULL_SHARE / FULL_SHARE ≡ amount = omega arith in
        omega (arith, all, rest, last)
