use Rattle.std.proofs.Common.{◌<◌, ◌≤◌, ℕ, List, map, All, sym, ◌∙◌, subst, arith}
use Rattle.std.proofs.lemmas.List.{length-map}
use Rattle.std.specs.Prelude.{string_bytes}
use Rattle.std.specs.List.Sorted.{IsStrictlyIncreasing}
use Rattle.line_split.specs.declared.TheConstants.{FULL_SHARE, RESIDUE}
use Rattle.line_split.specs.ClaimFault.{IsOver}
use Rattle.line_split.specs.FirstPlace.{IsFirstPlace}
use Rattle.pair_split.specs.Pair.{claims_of}
use Rattle.pair_split.proofs.Words.{claims_payees, claims_rise, first_large, over_from_large}
use Rattle.pair_split.proofs.division.claims_of.Goals as goal

-- the list that was made
pub of-requires : goal.of-requires
of-requires c =
    subst (All (λ claim. RESIDUE < claim.0)) (sym (c.as_slice.ensures.value ∙ c.in-Ok.ensures)) (claims_payees (map string_bytes c.args.words.now))

pub returns-in-Ok-of-clause-claims : goal.returns-in-Ok-of-clause-claims
returns-in-Ok-of-clause-claims c =
    let listed = c.as_slice.ensures.value ∙ c.in-Ok.ensures in
    c.in-Ok-of.ensures.in_order
    (subst (λ (l : List (ℕ × ℕ)). IsStrictlyIncreasing (map (λ claim. claim.0) l)) (sym listed) (claims_rise (map string_bytes c.args.words.now)))
    ∙ listed

pub returns-in-Ok-of-clause-sound : goal.returns-in-Ok-of-clause-sound
returns-in-Ok-of-clause-sound c =
    let small : All (λ claim. claim.1 ≤ FULL_SHARE) (claims_of (map string_bytes c.args.words.now)) =
    subst (All (λ claim. claim.1 ≤ FULL_SHARE)) (returns-in-Ok-of-clause-claims c) c.in-Ok-of.ensures.shares in
    record {
      few = omega (arith, c.requires.few, length-map c.args.words.now string_bytes);
      pairs = c.requires.pairs;
      named_once = c.requires.named_once;
      small = λ i large.
          let over = over_from_large (map string_bytes c.args.words.now) i large in
          let fits = small i (0, 0) over.0 in
          let above = over.1 in
          omega (arith, fits, above);
    }

pub returns-in-Err-Share-clause-fault : goal.returns-in-Err-Share-clause-fault
returns-in-Err-Share-clause-fault c =
    let fault = rw c.in-Err-Share.field-0-is at c.in-Err-Share.ensures.fault in
    let listed = c.as_slice.ensures.value ∙ c.in-Ok.ensures in (
      omega (arith, c.requires.few, length-map c.args.words.now string_bytes),
      c.requires.pairs,
      c.requires.named_once,
      first_large (map string_bytes c.args.words.now) c.in-Err-Share.place (subst (λ (l : List (ℕ × ℕ)). IsFirstPlace (IsOver l) c.in-Err-Share.place) listed fault.1),
    )
