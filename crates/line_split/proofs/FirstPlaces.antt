-- A loop that looks for the first place at which a fact holds.
use Rattle.std.proofs.Common.{◌≡◌, ℕ, ◌+◌, ◌<◌, ◌≤◌, subst, arith, below_more}
use Rattle.line_split.specs.FirstPlace.{IsFirstPlace}

module _ (HoldsAt : ℕ → Type 0) (place : ℕ) (none : (i : ℕ) → i < place → HoldsAt i → ⊥) where
  -- found here
  pub first_here : HoldsAt place → IsFirstPlace HoldsAt (place + 1)
  first_here holds = record {
    here = λ i is. let same : place ≡ i = omega arith in subst HoldsAt same holds;
    none_before = λ i lt. none i (omega arith);
    from_one = omega arith;
  }

  -- not found here
  pub none_more : (HoldsAt place → ⊥) → (i : ℕ) → i < place + 1 → HoldsAt i → ⊥
  none_more not_here = below_more (λ i. HoldsAt i → ⊥) place none not_here

  -- not found in all of a list
  pub none_all : (n : ℕ) → n ≤ place → ((i : ℕ) → HoldsAt i → i < n) → (i : ℕ) → HoldsAt i → ⊥
  none_all n end within i holds = none i (let lt = within i holds in omega arith) holds
