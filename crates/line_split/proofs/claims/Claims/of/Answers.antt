use Rattle.std.proofs.Common.{◌≡◌, ◌<◌, ◌≤◌, All, length, map, sym, arith, rules}
use Rattle.std.specs.List.Sorted.{IsPermutation, IsStrictlyIncreasing}
use Rattle.std.proofs.lemmas.List.Sorted.{All-permutation, length_permutation}
use Rattle.line_split.specs.declared.TheConstants.{RESIDUE, FULL_SHARE}
use Rattle.line_split.specs.Claims.{AreClaims}
use Rattle.line_split.proofs.ByAccount.{only_rising, rising_by_account, not_over}
use Rattle.line_split.proofs.claims.Claims.of.Goals as goal

moved : (c : goal.After-by_account) → IsPermutation c.args.list.now c.by_account.result.items
moved c = rw (← c.in-Ok.ensures.items_if_clones_equal (search rules)) c.by_account.ensures.same

rises : (c : goal.After-by_account) → IsStrictlyIncreasing (map (λ claim. claim.0) c.by_account.result.items)
rises c = rising_by_account c.args.list.now c.by_account.result.items c.in_default-first_twice.ensures.none (moved c) c.by_account.ensures.rising

shares : (c : goal.After-by_account) → All (λ claim. claim.1 ≤ FULL_SHARE) c.by_account.result.items
shares c = All-permutation (λ claim. claim.1 ≤ FULL_SHARE) _ _ (moved c) (not_over c.args.list.now c.in_default.ensures.none)

whole : (c : goal.After-by_account) → length c.by_account.result.items ≡ length c.args.list.now
whole c = length_permutation _ _ (moved c)

claims : (c : goal.After-by_account) → AreClaims c.by_account.result.items
claims c = record {
  few = omega (arith, whole c, c.if-list-gt-MOST_CLAIMS.false);
  rising = rises c;
  payees = All-permutation (λ claim. RESIDUE < claim.0) _ _ (moved c) c.requires;
  shares = λ k d lt. let small = shares c k d lt in omega (arith, small);
}

pub invariant_of-result : goal.invariant_of-result
invariant_of-result c =
    (claims c, omega (arith, whole c), omega arith, omega (arith, whole c, c.by_account.result.ok.0))

pub returns-in-Ok-clause-sound : goal.returns-in-Ok-clause-sound
returns-in-Ok-clause-sound c = claims c

pub returns-in-Ok-clause-shares : goal.returns-in-Ok-clause-shares
returns-in-Ok-clause-shares c = shares c

pub returns-in-Ok-clause-in_order : goal.returns-in-Ok-clause-in_order
returns-in-Ok-clause-in_order c = λ up. sym (only_rising c.args.list.now c.by_account.result.items (moved c) up (rises c))

pub returns-in-Ok-clause-room : goal.returns-in-Ok-clause-room
returns-in-Ok-clause-room c = sym (whole c)
