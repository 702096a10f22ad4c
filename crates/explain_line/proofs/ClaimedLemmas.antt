-- What share lines come to, line by line.
use Rattle.std.proofs.Common.{◌≡◌, ◌+◌, ◌==◌, ◌<◌, ◌≤◌, ◌++◌, ◌∷◌, ◌∙◌, ◌&&◌, ◌⊎◌, [], ℕ, suc, Bool, Bor, inl, inr, true, false, List, None, Some, ap, arith, cond, drop, filter, get_or, length, map, nat_eq, not, refl, sum_by, sym, take, zero-add}
use Rattle.std.specs.List.{enumerate_from}
use Rattle.std.specs.Cmp.Lexicographic.{pointwise}
use Rattle.std.proofs.Math.Seq.{drop-cons}
use Rattle.std.specs.Prelude.{nat_le}
use Rattle.std.proofs.lemmas.Bool.{cases_Bool, false≢true, ne_eqb}
use Rattle.std.proofs.lemmas.List.{append-nil, drop_all, get_or-map}
use Rattle.std.proofs.lemmas.List.Elements.{filter-append}
use Rattle.std.proofs.lemmas.List.Sums.{sum_by-cons}
use Rattle.line_split.proofs.Enumerated.{enumerated_from_more}
use Rattle.line_split.specs.declared.usage.Right.{Right}
use Rattle.cwr_share.proofs.ClaimLemmas.{against_land, against_nothing, against_over, no_line}
use Rattle.cwr_share.specs.ClaimsOn.{claim_of, claims_among, claims_by, claims_on, decides, deciding, is_known, reason_against, share_for}
use Rattle.cwr_share.specs.Registered.{Registered}
use Rattle.cwr_share.specs.Registrations.{ShareLine, find_work}
use Rattle.line_split.specs.Claims.{total_of}
use Rattle.line_split.specs.UsageLine.{UsageLine}
use Rattle.line_split.specs.declared.TheConstants.{MOST_CLAIMED}
use Rattle.explain_line.specs.Claimed.{claimed_by}

claim_cons : (table : List (ℕ × List ℕ)) (land : ℕ) (right : Right) (pay : List ℕ → List ℕ) (payee : List ℕ) (share : ShareLine) (later : List ShareLine)
    → claim_of table land right pay (share ∷ later) payee ≡ claimed_by table land right pay payee share later + claim_of table land right pay later payee
unfolding deciding
claim_cons table land right pay payee share later = by (decides table land share later) (pointwise nat_eq (pay share.party) payee) refl
  where
    by : (b c : Bool) → pointwise nat_eq (pay share.party) payee ≡ c
        → sum_by (share_for right) (filter (λ (line : ShareLine). pointwise nat_eq (pay line.party) payee) (cond b (share ∷ deciding table land later) (deciding table land later)))
        ≡ cond (c && b) (share_for right share) 0 + claim_of table land right pay later payee
    by false true e = sym (zero-add (claim_of table land right pay later payee))
    by false false e = sym (zero-add (claim_of table land right pay later payee))
    by true true e = rw e (sum_by-cons (share_for right) share (filter (λ (line : ShareLine). pointwise nat_eq (pay line.party) payee) (deciding table land later)))
    by true false e = rw e (sym (zero-add (claim_of table land right pay later payee)))

-- the claim of a payee from a place on
pub claim_from : (table : List (ℕ × List ℕ)) (land : ℕ) (right : Right) (pay : List ℕ → List ℕ) (payee : List ℕ) (shares : List ShareLine) (place : ℕ) → place < length shares
    → claim_of table land right pay (drop place shares) payee
    ≡ claimed_by table land right pay payee (get_or shares place no_line) (drop (place + 1) shares) + claim_of table land right pay (drop (place + 1) shares) payee
claim_from table land right pay payee shares place within =
    let next : suc place ≡ place + 1 = omega arith in
    ap (λ (l : List ShareLine). claim_of table land right pay l payee) (drop-cons shares place no_line within)
    ∙ (claim_cons table land right pay payee (get_or shares place no_line) (drop (suc place) shares)
    ∙ ap (λ (n : ℕ). claimed_by table land right pay payee (get_or shares place no_line) (drop n shares) + claim_of table land right pay (drop n shares) payee) next)

-- no share lines are left at the end
pub claim_end : (table : List (ℕ × List ℕ)) (land : ℕ) (right : Right) (pay : List ℕ → List ℕ) (payee : List ℕ) (shares : List ShareLine) (place : ℕ) → length shares ≤ place
    → claim_of table land right pay (drop place shares) payee ≡ 0
unfolding deciding
claim_end table land right pay payee shares place past = ap (λ (l : List ShareLine). claim_of table land right pay l payee) (drop_all place shares past)

-- the claims of one account more
pub claims_more : (table : List (ℕ × List ℕ)) (land : ℕ) (right : Right) (pay : List ℕ → List ℕ) (shares : List ShareLine) (names : List (List ℕ)) (k : ℕ) → k < length names
    → claims_among table land right pay shares (take (k + 1) names)
    ≡ claims_among table land right pay shares (take k names) ++ filter (λ (claim : ℕ × ℕ). not (claim.1 == 0)) ((1 + k, claim_of table land right pay shares (get_or names k [])) ∷ [])
claims_more table land right pay shares names k within =
    ap (filter (λ (claim : ℕ × ℕ). not (claim.1 == 0)))
    (enumerated_from_more (λ (claimant : ℕ × List ℕ). (claimant.0, claim_of table land right pay shares claimant.1)) 1 names k [] within)
    ∙ filter-append (λ (claim : ℕ × ℕ). not (claim.1 == 0))
    (map (λ (claimant : ℕ × List ℕ). (claimant.0, claim_of table land right pay shares claimant.1)) (enumerate_from 1 (take k names)))
    ((1 + k, claim_of table land right pay shares (get_or names k [])) ∷ [])

-- an account more that claims something
pub claims_yes : (table : List (ℕ × List ℕ)) (land : ℕ) (right : Right) (pay : List ℕ → List ℕ) (shares : List ShareLine) (names : List (List ℕ)) (k : ℕ) → k < length names
    → 0 < claim_of table land right pay shares (get_or names k [])
    → claims_among table land right pay shares (take (k + 1) names) ≡ claims_among table land right pay shares (take k names) ++ (1 + k, claim_of table land right pay shares (get_or names k [])) ∷ []
claims_yes table land right pay shares names k within some =
    let claim = claim_of table land right pay shares (get_or names k []) in
    let test : (claim == 0) ≡ false = ne_eqb claim 0 (λ none. absurd (omega (arith, some, none))) in
    claims_more table land right pay shares names k within
    ∙ ap (λ (b : Bool). claims_among table land right pay shares (take k names) ++ cond (not b) ((1 + k, claim) ∷ []) []) test

-- and one that claims nothing
pub claims_no : (table : List (ℕ × List ℕ)) (land : ℕ) (right : Right) (pay : List ℕ → List ℕ) (shares : List ShareLine) (names : List (List ℕ)) (k : ℕ) → k < length names
    → claim_of table land right pay shares (get_or names k []) ≡ 0
    → claims_among table land right pay shares (take (k + 1) names) ≡ claims_among table land right pay shares (take k names)
claims_no table land right pay shares names k within none =
    let claim = claim_of table land right pay shares (get_or names k []) in
    claims_more table land right pay shares names k within
    ∙ (ap (λ (n : ℕ). claims_among table land right pay shares (take k names) ++ cond (not (n == 0)) ((1 + k, n) ∷ []) []) none
    ∙ append-nil (claims_among table land right pay shares (take k names)))

-- One share line

-- the payee of the share line at a place
pub paid_at : (pay : List ℕ → List ℕ) (payees : List (Bor (List ℕ))) (shares : List ShareLine) (place : ℕ) (nobody : Bor (List ℕ)) (d : ShareLine)
    → map (λ payee. payee.now) payees ≡ map (λ share. pay share.party) shares → length payees ≡ length shares → place < length shares
    → (get_or payees place nobody).now ≡ pay (get_or shares place d).party
paid_at pay payees shares place nobody d same count within =
    let inside : place < length payees = omega (arith, count, within) in
    sym (get_or-map (λ (payee : Bor (List ℕ)). payee.now) payees place nobody [] inside)
    ∙ (ap (λ (l : List (List ℕ)). get_or l place []) same ∙ get_or-map (λ (share : ShareLine). pay share.party) shares place d [] within)

pub claimed_yes : (table : List (ℕ × List ℕ)) (land : ℕ) (right : Right) (pay : List ℕ → List ℕ) (payee : List ℕ) (share : ShareLine) (later : List ShareLine)
    → pointwise nat_eq (pay share.party) payee ≡ true → decides table land share later ≡ true → claimed_by table land right pay payee share later ≡ share_for right share
claimed_yes table land right pay payee share later is decides' = by (pointwise nat_eq (pay share.party) payee) (decides table land share later) is decides'
  where
    by : (b c : Bool) → b ≡ true → c ≡ true → cond (b && c) (share_for right share) 0 ≡ share_for right share
    by true true e f = refl
    by true false e f = absurd (false≢true f)
    by false c e f = absurd (false≢true e)

pub claimed_no : (table : List (ℕ × List ℕ)) (land : ℕ) (right : Right) (pay : List ℕ → List ℕ) (payee : List ℕ) (share : ShareLine) (later : List ShareLine)
    → (pointwise nat_eq (pay share.party) payee ≡ false) ⊎ (decides table land share later ≡ false) → claimed_by table land right pay payee share later ≡ 0
claimed_no table land right pay payee share later = by (pointwise nat_eq (pay share.party) payee) (decides table land share later)
  where
    by : (b c : Bool) → (b ≡ false) ⊎ (c ≡ false) → cond (b && c) (share_for right share) 0 ≡ 0
    by false c e = refl
    by true false e = refl
    by true true (inl e) = absurd (false≢true (sym e))
    by true true (inr e) = absurd (false≢true (sym e))

-- where nothing stands against the claims by share lines, they are the claims on the line
pub divided : (table : List (ℕ × List ℕ)) (registered : Registered) (line : UsageLine) (shares : List ShareLine) → find_work line.work registered.works ≡ Some shares → reason_against table registered line ≡ None
    → claims_by table registered line shares ≡ claims_on table registered line
divided table registered line shares found free = elim (cases_Bool (is_known table line.territory)) [
  | inl known ↦ elim (cases_Bool (nat_le (total_of (claims_by table registered line shares)) MOST_CLAIMED)) [
    | inl within ↦ sym (against_nothing table registered line shares found known within).1
    | inr over ↦ let reason = (against_over table registered line shares found known over).0 in cc
  ]
  | inr unknown ↦ let reason = (against_land table registered line shares found unknown).0 in cc
]
