-- Share lines of an account that several parties are paid to: lines of one interest and party stand together, in runs.
use Rattle.std.proofs.Common.{◌≡◌, ◌∙◌, ◌<◌, ◌++◌, ◌∷◌, [], ℕ, Bool, true, false, List, All, length, nat_eq, not, zero, suc, drop, get_or, AllPairs, ◌≤◌, append-nil, append_assoc, ap, sym, refl, inl, inr, arith}
use Rattle.std.specs.Prelude.{◌==◌, ◌&&◌, ◌||◌}
use Rattle.std.specs.List.{list_any}
use Rattle.std.specs.Cmp.Lexicographic.{pointwise}
use Rattle.std.proofs.lemmas.Bool.{and_parts, cases_Bool, eq-eqb, eqb-true, false≢true, ne_eqb, or_parts}
use Rattle.std.proofs.lemmas.List.Elements.{All-head, All-tail}
use Rattle.std.proofs.lemmas.List.Folds.{list_any_none}
use Rattle.cwr_share.proofs.CompiledLemmas.{AllPairs-head, AllPairs-tail}
use Rattle.std.proofs.lemmas.Slice.Eq.{bytes_eq-Decides}
use Rattle.cwr_share.specs.ClaimsOn.{covers, deciding, is_alike}
use Rattle.cwr_share.specs.Compiled.{AreInRuns, IsApart, begins_interest, claim_line, claim_lines}
use Rattle.cwr_share.specs.Registrations.{ShareLine}

-- before lines apart a line begins a run where it does without them
begins_apart : (line : ShareLine) (xs ys : List ShareLine) → IsApart ys line → begins_interest line (xs ++ ys) ≡ begins_interest line xs
begins_apart line [] [] apart = refl
begins_apart line [] (y ∷ ys) apart = let (first, later) = or_parts (is_alike line y) (list_any (λ other. is_alike line other) ys) apart in rw first refl
begins_apart line (x ∷ xs) ys apart = refl

-- lines and lines apart, from the last one back
pub claim_lines_apart : (account : ℕ) (xs ys : List ShareLine) → All (IsApart ys) xs → claim_lines account (xs ++ ys) ≡ claim_lines account ys ++ claim_lines account xs
unfolding claim_lines
claim_lines_apart account [] ys apart = sym (append-nil (claim_lines account ys))
claim_lines_apart account (x ∷ xs) ys apart =
    rw (claim_lines_apart account xs ys (All-tail (IsApart ys) x xs apart), begins_apart x xs ys (All-head (IsApart ys) x xs apart))
    (append_assoc (claim_lines account ys) (claim_lines account xs) (claim_line account (begins_interest x xs) x ∷ []))

any_append : {X : Type 0} (p : X → Bool) (xs ys : List X) → list_any p ys ≡ false → list_any p (xs ++ ys) ≡ list_any p xs
any_append p [] ys none = none
any_append p (x ∷ xs) ys none = ap (λ (b : Bool). p x || b) (any_append p xs ys none)

-- runs, and runs apart from them
pub runs_apart : (xs ys : List ShareLine) → AreInRuns xs → AreInRuns ys → All (IsApart ys) xs → AreInRuns (xs ++ ys)
unfolding AreInRuns
runs_apart [] ys runs others apart = others
runs_apart (x ∷ xs) ys runs others apart =
    let own = All-head (IsApart ys) x xs apart in (
      λ begins. any_append (λ other. is_alike x other) xs ys own ∙ runs.0 (sym (begins_apart x xs ys own) ∙ begins),
      runs_apart xs ys runs.1 others (All-tail (IsApart ys) x xs apart),
    )

any_weaker : {X : Type 0} (p q : X → Bool) (xs : List X) → list_any p xs ≡ false → list_any (λ x. p x && q x) xs ≡ false
any_weaker p q [] none = refl
any_weaker p q (x ∷ xs) none =
    let (first, later) = or_parts (p x) (list_any p xs) none in
    rw (first) (any_weaker p q xs later)

module _ (table : List (ℕ × List ℕ)) (land : ℕ) where
  abbrev has_after : ShareLine → List ShareLine → Bool
  has_after line later = list_any (λ other. is_alike line other && covers table land other) later

  -- the lines that decide among lines and lines apart
  pub deciding_apart : (xs ys : List ShareLine) → All (IsApart ys) xs → deciding table land (xs ++ ys) ≡ deciding table land xs ++ deciding table land ys
  unfolding deciding
  deciding_apart [] ys apart = refl
  deciding_apart (x ∷ xs) ys apart =
      let own = any_weaker (λ other. is_alike x other) (λ other. covers table land other) ys (All-head (IsApart ys) x xs apart) in
      let rest = deciding_apart xs ys (All-tail (IsApart ys) x xs apart) in
      let same = any_append (λ other. is_alike x other && covers table land other) xs ys own in
      elim (cases_Bool (covers table land x && not (has_after x xs))) [
        | inl decides ↦ rw (same, decides, rest) refl
        | inr left ↦ rw (same, left, rest) refl
      ]

  abbrev is_decided_in : List ShareLine → Bool
  is_decided_in [] = false
  is_decided_in (line ∷ later) = has_after line (line ∷ later)

  -- what tells of the first of the lines after it tells of a line of the same run, and nothing of another
  pub run_tells : (line : ShareLine) (later : List ShareLine) → AreInRuns (line ∷ later) → (not (begins_interest line later) && is_decided_in later) ≡ has_after line later
  unfolding AreInRuns
  run_tells line [] runs = refl
  run_tells line (next ∷ later) runs = elim (cases_Bool (is_alike line next)) [
    | inl alike ↦ ap (λ (b : Bool). not (not b) && has_after next (next ∷ later)) alike ∙ same_run alike
    | inr other ↦
        ap (λ (b : Bool). not (not b) && has_after next (next ∷ later)) other
        ∙ sym (any_weaker (λ other. is_alike line other) (λ other. covers table land other) (next ∷ later) (runs.0 (ap not other)))
  ]
    where
      same_run : is_alike line next ≡ true → has_after next (next ∷ later) ≡ has_after line (next ∷ later)
      same_run alike =
          let (interest, party) = and_parts (line.interest == next.interest) (pointwise nat_eq line.party next.party) alike in
          let one : (next.interest, next.party) ≡ (line.interest, line.party) = cc (eqb-true line.interest next.interest interest, (bytes_eq-Decides line.party next.party).0 party) in
          ap (λ (of : ℕ × List ℕ). list_any (λ other. ((of.0 == other.interest) && pointwise nat_eq of.1 other.party) && covers table land other) (next ∷ later)) one

-- what is left of runs
pub runs_drop : (n : ℕ) (lines : List ShareLine) → AreInRuns lines → AreInRuns (drop n lines)
unfolding AreInRuns
runs_drop zero lines runs = runs
runs_drop (suc n) [] runs = runs
runs_drop (suc n) (line ∷ later) runs = runs_drop n later runs.1

-- two lines of one party, of which the later has no lower interest
abbrev pub IsAlike : ShareLine → ShareLine → Type 0
IsAlike line later = (line.party ≡ later.party) × (line.interest ≤ later.interest)

-- lines of one party whose interests do not fall are in runs
pub runs_of_alike : (lines : List ShareLine) → AllPairs IsAlike lines → AreInRuns lines
unfolding AreInRuns
runs_of_alike [] alike = tt
runs_of_alike (line ∷ later) alike = (apart later alike, runs_of_alike later (AllPairs-tail IsAlike line later alike))
  where
    apart : (later : List ShareLine) → AllPairs IsAlike (line ∷ later) → begins_interest line later ≡ true → IsApart later line
    apart [] alike begins = refl
    apart (next ∷ later) alike begins =
        let (party, low) = AllPairs-head IsAlike line (next ∷ later) alike 0 next (omega arith) in
        let above = AllPairs-head IsAlike next later (AllPairs-tail IsAlike line (next ∷ later) alike) in
        let other : ¬ (line.interest ≡ next.interest) = λ same.
        let one : is_alike line next ≡ true = rw (eq-eqb line.interest next.interest same, (bytes_eq-Decides line.party next.party).1 party) refl in
        false≢true (sym (ap not one) ∙ begins) in
        list_any_none (λ other. is_alike line other) (next ∷ later) (λ k d within. none k d within low other above)
      where
        none : (k : ℕ) (d : ShareLine) → k < length (next ∷ later) → line.interest ≤ next.interest → ¬ (line.interest ≡ next.interest) → All (IsAlike next) later → is_alike line (get_or (next ∷ later) k d) ≡ false
        none zero d within low other above = rw (ne_eqb line.interest next.interest other) refl
        none (suc k) d within low other above =
            let high = (above k d (omega (arith, within))).1 in
            rw (ne_eqb line.interest (get_or later k d).interest (λ same. absurd (omega (arith, low, high, same, other)))) refl
