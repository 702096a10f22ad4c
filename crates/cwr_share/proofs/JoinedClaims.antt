-- What a change of share lines leaves of claims, and what registrations claim together.
use Rattle.std.proofs.Common.{add-zero, ◌≡◌, ◌∙◌, ◌+◌, ◌==◌, ◌&&◌, ◌<◌, ◌∷◌, [], ℕ, Bool, true, false, cond, List, ap, arith, filter, get_or, map, nat_eq, not, refl, sum_by, sym}
use Rattle.std.specs.Prelude.{fold}
use Rattle.std.specs.Cmp.Lexicographic.{pointwise}
use Rattle.std.specs.List.{list_any}
use Rattle.std.proofs.Math.Nat.{add_left_cancel}
use Rattle.std.proofs.lemmas.Bool.{ne_eqb}
use Rattle.std.proofs.lemmas.Bool.Decides.{Decides-eqb, same_from_decides}
use Rattle.std.proofs.lemmas.List.{append_cancel_left}
use Rattle.std.proofs.lemmas.Slice.Eq.{bytes_eq-Decides}
use Rattle.std.proofs.lemmas.List.Elements.{filter-append}
use Rattle.std.proofs.lemmas.List.Sums.{sum_by-append, sum_by-cons}
use Rattle.line_split.proofs.SumBelow.{sum_by-map}
use Rattle.line_split.specs.declared.usage.Right.{Right}
use Rattle.line_split.specs.declared.usage.Right.TheVariants.{P, M, S}
use Rattle.cwr_share.specs.ClaimsOn.{claim_of, covers, deciding, is_alike, share_for}
use Rattle.cwr_share.specs.Compiled.{IsApart}
use Rattle.cwr_share.specs.Joined.{followed_by, interests_in, joined, of_submitter, qualified}
use Rattle.cwr_share.specs.Registrations.{ShareLine}
use Rattle.cwr_share.proofs.JoinedLemmas.{below_interests}
use Rattle.cwr_share.proofs.Runs.{deciding_apart}

-- Share lines that are changed, but not in which of them are alike
module _ (g : ShareLine → ShareLine) (alike : (line other : ShareLine) → is_alike (g line) (g other) ≡ is_alike line other) where
  map_cond : (b : Bool) (line : ShareLine) (lines : List ShareLine) → map g (cond b (line ∷ lines) lines) ≡ cond b (g line ∷ map g lines) (map g lines)
  map_cond true line lines = refl
  map_cond false line lines = refl

  any_changed : (p q : ShareLine → Bool) → ((line : ShareLine) → p (g line) ≡ q line) → (lines : List ShareLine) → list_any p (map g lines) ≡ list_any q lines
  any_changed p q same [] = refl
  any_changed p q same (line ∷ lines) = cc (same line, any_changed p q same lines)

  filter_changed : (p q : ShareLine → Bool) → ((line : ShareLine) → p (g line) ≡ q line) → (lines : List ShareLine) → filter p (map g lines) ≡ map g (filter q lines)
  filter_changed p q same [] = refl
  filter_changed p q same (line ∷ lines) =
      ap (λ (passes : Bool). cond passes (g line ∷ filter p (map g lines)) (filter p (map g lines))) (same line)
      ∙ ap (λ (rest : List ShareLine). cond (q line) (g line ∷ rest) rest) (filter_changed p q same lines)
      ∙ sym (map_cond (q line) line (filter q lines))

  module _ (table : List (ℕ × List ℕ)) (land : ℕ) (same_land : (line : ShareLine) → covers table land (g line) ≡ covers table land line) where
    abbrev decided_by : ShareLine → ShareLine → Bool
    decided_by line other = is_alike line other && covers table land other

    decided_changed : (line other : ShareLine) → decided_by (g line) (g other) ≡ decided_by line other
    decided_changed line other = cc (alike line other, same_land other)

    deciding_changed : (lines : List ShareLine) → deciding table land (map g lines) ≡ map g (deciding table land lines)
    unfolding deciding
    deciding_changed [] = refl
    deciding_changed (line ∷ later) =
        ap (λ (covered : Bool). cond (covered && not (list_any (decided_by (g line)) (map g later))) (g line ∷ deciding table land (map g later)) (deciding table land (map g later))) (same_land line)
        ∙ ap (λ (decided : Bool). cond (covers table land line && not decided) (g line ∷ deciding table land (map g later)) (deciding table land (map g later)))
        (any_changed (decided_by (g line)) (decided_by line) (decided_changed line) later)
        ∙ ap (λ (rest : List ShareLine). cond (covers table land line && not (list_any (decided_by line) later)) (g line ∷ rest) rest) (deciding_changed later)
        ∙ sym (map_cond (covers table land line && not (list_any (decided_by line) later)) line (deciding table land later))

    -- what those of the lines that decide come to
    pub sum_changed : (right : Right) → ((line : ShareLine) → share_for right (g line) ≡ share_for right line) → (p q : ShareLine → Bool) → ((line : ShareLine) → p (g line) ≡ q line) → (lines : List ShareLine)
        → sum_by (share_for right) (filter p (deciding table land (map g lines))) ≡ sum_by (share_for right) (filter q (deciding table land lines))
    sum_changed right share p q same lines =
        ap (λ (lines : List ShareLine). sum_by (share_for right) (filter p lines)) (deciding_changed lines)
        ∙ ap (sum_by (share_for right)) (filter_changed p q same (deciding table land lines))
        ∙ sum_by-map (share_for right) g (filter q (deciding table land lines))
        ∙ ap (λ (share : ShareLine → ℕ). sum_by share (filter q (deciding table land lines))) (λ i line. share line i)

-- Registrations as one list

-- numbers that are counted on are told apart as before
same_numbers : (first n m : ℕ) → (first + n == first + m) ≡ (n == m)
same_numbers first n m =
    same_from_decides (first + n == first + m) (n == m)
    (λ same. add_left_cancel first ((Decides-eqb (first + n) (first + m)).0 same), λ is. (Decides-eqb (first + n) (first + m)).1 (ap (λ (k : ℕ). first + k) is))
    (Decides-eqb n m)

-- parties of a submitter are told apart as before
same_parties : (submitter party other : List ℕ) → pointwise nat_eq (qualified submitter party) (qualified submitter other) ≡ pointwise nat_eq party other
same_parties submitter party other =
    same_from_decides (pointwise nat_eq (qualified submitter party) (qualified submitter other)) (pointwise nat_eq party other)
    (λ same. unqualified ((bytes_eq-Decides (qualified submitter party) (qualified submitter other)).0 same), λ is. (bytes_eq-Decides (qualified submitter party) (qualified submitter other)).1 (ap (qualified submitter) is))
    (bytes_eq-Decides party other)
  where
    unqualified : qualified submitter party ≡ qualified submitter other → party ≡ other
    unqualified same = let rest : 58 ∷ party ≡ 58 ∷ other = append_cancel_left submitter (58 ∷ party) (58 ∷ other) same in cc

-- so share lines behind others are alike as before
alike_behind : (submitter : List ℕ) (first : ℕ) (line other : ShareLine) → is_alike (of_submitter submitter first line) (of_submitter submitter first other) ≡ is_alike line other
alike_behind submitter first line other = cc (same_numbers first line.interest other.interest, same_parties submitter line.party other.party)

-- and apart from those before them
apart_behind : (submitter : List ℕ) (first : ℕ) (line : ShareLine) → line.interest < first → (more : List ShareLine) → IsApart (map (of_submitter submitter first) more) line
apart_behind submitter first line before [] = refl
apart_behind submitter first line before (next ∷ more) =
    rw (ne_eqb line.interest (first + next.interest) (omega (arith, before))) (apart_behind submitter first line before more)

module _ (table : List (ℕ × List ℕ)) (land : ℕ) (right : Right) (pay : List ℕ → List ℕ) (payee : List ℕ) where
  abbrev is_paid : (List ℕ → List ℕ) → ShareLine → Bool
  is_paid pays line = pointwise nat_eq (pays line.party) payee

  -- what a registration claims alone
  abbrev pub claim_alone : List ℕ × List ShareLine → ℕ
  claim_alone registration = claim_of table land right (λ party. pay (qualified registration.0 party)) registration.1 payee

  share_behind : (submitter : List ℕ) (first : ℕ) (line : ShareLine) → share_for right (of_submitter submitter first line) ≡ share_for right line
  share_behind submitter first line = by right
    where
      by : (right : Right) → share_for right (of_submitter submitter first line) ≡ share_for right line
      by P = refl
      by M = refl
      by S = refl

  -- it claims the same behind others
  claim_behind : (lines : List ShareLine) (registration : List ℕ × List ShareLine)
      → claim_of table land right pay (followed_by lines registration) payee ≡ claim_of table land right pay lines payee + claim_alone registration
  claim_behind lines (submitter, more) =
      let first = interests_in lines in
      let changed = of_submitter submitter first in
      ap (λ (deciding : List ShareLine). sum_by (share_for right) (filter (is_paid pay) deciding))
      (deciding_apart table land lines (map changed more) (λ k d within. apart_behind submitter first (get_or lines k d) (below_interests lines k d within) more))
      ∙ ap (sum_by (share_for right)) (filter-append (is_paid pay) (deciding table land lines) (deciding table land (map changed more)))
      ∙ sum_by-append (share_for right) (filter (is_paid pay) (deciding table land lines)) (filter (is_paid pay) (deciding table land (map changed more)))
      ∙ ap (λ (n : ℕ). claim_of table land right pay lines payee + n)
      (sum_changed changed (alike_behind submitter first) table land (λ line. refl) right (share_behind submitter first) (is_paid pay) (is_paid (λ party. pay (qualified submitter party))) (λ line. refl) more)

  -- what registrations claim behind share lines
  claims_behind : (registrations : List (List ℕ × List ShareLine)) (lines : List ShareLine)
      → claim_of table land right pay (fold followed_by lines registrations) payee ≡ claim_of table land right pay lines payee + sum_by claim_alone registrations
  claims_behind [] lines = sym (add-zero (claim_of table land right pay lines payee))
  claims_behind (registration ∷ registrations) lines =
      claims_behind registrations (followed_by lines registration)
      ∙ omega (arith, claim_behind lines registration, sum_by-cons claim_alone registration registrations)

  -- nothing claims nothing
  claim_none : claim_of table land right pay [] payee ≡ 0
  unfolding deciding
  claim_none = refl

  -- and what they claim together
  pub claims_joined : (registrations : List (List ℕ × List ShareLine)) → claim_of table land right pay (joined registrations) payee ≡ sum_by claim_alone registrations
  claims_joined registrations = claims_behind registrations [] ∙ omega (arith, claim_none)
