use Rattle.std.proofs.Common.{◌≡◌, ◌∙◌, ◌<◌, ◌+◌, ℕ, [], List, length, map, slice_index_or, slice_set, ap, sym, ⊎_elim, arith}
use Rattle.std.proofs.lemmas.Bool.{cases_lt}
use Rattle.std.proofs.lemmas.Grind.{get_or-set_at}
use Rattle.std.proofs.lemmas.List.{get_or-set_other, length-map, length-set, map-set}
use Rattle.payee_book.proofs.rows.write_postings.Goals as goal

-- a list whose elements below a place show what they should, with one more put at that place
put : {X : Type 0} (f : X → List ℕ) (xs : List X) (i : ℕ) (x : X) (shown : ℕ → List ℕ) → i < length xs
    → ((k : ℕ) → k < i → slice_index_or (map f xs) k [] ≡ shown k) → f x ≡ shown i
    → (k : ℕ) → k < i + 1 → slice_index_or (map f (slice_set xs i x)) k [] ≡ shown k
put f xs i x shown within before here k below =
    ap (λ shows. slice_index_or shows k []) (map-set f xs i x)
    ∙ ⊎_elim (λ earlier. get_or-set_other (map f xs) i k (f x) [] (omega (arith, earlier)) ∙ before k earlier)
    (λ late. let same : k ≡ i = omega (arith, late, below) in get_or-set_at (map f xs) i k (f x) [] same (omega (arith, within, length-map xs f)) ∙ (here ∙ ap shown (sym same)))
    (cases_lt k i)

pub loop-place-preserved : goal.loop-place-preserved
loop-place-preserved c = record {
  enough = length-set _ _ _ ∙ c.loop-place.invariant.enough;
  names = put (λ name. name.now) c.loop-place.names c.loop-place.place c.usage_of.result _ within c.loop-place.invariant.names c.usage_of.ensures;
}
  where
    within : c.loop-place.place < length c.loop-place.names
    within = omega (arith, c.loop-place-test.true, c.requires.few, c.loop-place.invariant.enough)
