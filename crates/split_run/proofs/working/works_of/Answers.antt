use Rattle.std.proofs.Common.{◌≡◌, ◌∙◌, ◌<◌, ◌≤◌, ◌+◌, ◌-◌, ℕ, List, None, Some, length, set, slice_get, get_or, sym, subst, ⊎_elim, arith}
use Rattle.std.proofs.lemmas.Bool.{cases_lt}
use Rattle.std.proofs.lemmas.Grind.{get_or-set_at}
use Rattle.std.proofs.lemmas.List.{get_or-set_other, length-set}
use Rattle.line_split.specs.UsageLine.{UsageLine, usage_line_of}
use Rattle.cwr_share.specs.Found.{IsLookUp}
use Rattle.split_run.proofs.working.works_of.Goals as goal

-- what is found of the lines so far, and of one more
found_more : {X : Type 0} (IsOf : UsageLine → X → Type 0) (usage : List UsageLine) (xs : List X) (from place : ℕ) (line : UsageLine) (x d : X)
    → from ≤ place → place - from < length xs → slice_get usage place ≡ Some line → IsOf line x
    → ((k : ℕ) (own : UsageLine) → from ≤ k → k < place → slice_get usage k ≡ Some own → IsOf own (get_or xs (k - from) d))
    → (k : ℕ) (own : UsageLine) → from ≤ k → k < place + 1 → slice_get usage k ≡ Some own → IsOf own (get_or (set xs (place - from) x) (k - from) d)
found_more IsOf usage xs from place line x d after within at here before k own above below is =
    ⊎_elim (λ earlier. subst (IsOf own) (sym (get_or-set_other xs (place - from) (k - from) x d (omega (arith, earlier, above, after)))) (before k own above earlier is))
    (λ late.
    let same : k ≡ place = omega (arith, late, below) in
    let it : own ≡ line = some_same (sym (subst (λ (n : ℕ). slice_get usage n ≡ Some own) same is) ∙ at) in
    subst (λ (l : UsageLine). IsOf l (get_or (set xs (place - from) x) (k - from) d)) (sym it)
    (subst (IsOf line) (sym (get_or-set_at xs (place - from) (k - from) x d (omega (arith, same)) within)) here))
    (cases_lt k place)
  where
    some_same : {l m : UsageLine} → Some l ≡ Some m → l ≡ m
    some_same is = cc

pub loop-place-preserved : goal.loop-place-preserved
loop-place-preserved c = record {
  enough = length-set _ _ _ ∙ c.loop-place.invariant.enough;
  works = found_more (λ line work. IsLookUp c.args.registry.now line.work work) c.args.usage.now c.loop-place.works c.args.from c.loop-place.place (usage_line_of c.line.result) c.find.result None
      (omega arith) (omega (arith, c.loop-place-test.true, c.requires.few, c.loop-place.invariant.enough)) c.line.ensures.line c.find.ensures c.loop-place.invariant.works;
}
