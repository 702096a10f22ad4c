-- The keys of amounts are those of their totals.
use Rattle.std.proofs.Common.{◌≡◌, ◌∙◌, ◌∷◌, [], ℕ, ℤ, Bool, true, false, List, Option, Some, ap, cond, is_some, length, refl, sym}
use Rattle.std.specs.Prelude.{◌||◌}
use Rattle.std.specs.List.{list_any}
use Rattle.std.specs.Map.{keys_of, lookup}
use Rattle.std.specs.declared.cmp.Ordering.{Ordering}
use Rattle.std.proofs.lemmas.List.{length-map}
use Rattle.usage_totals.specs.Greatest.{AreGreatest, AreKeysOf, amounts_at, total_if_any}
use Rattle.usage_totals.specs.declared.by_key.Ranked.{Ranked}
use Rattle.usage_totals.specs.declared.total.Total.{Total}

module _ {K : Type 0} (eq : K → K → Bool) (key : K) where
  -- a key is found where one of the entries has it
  found : (entries : List (K × Total)) → is_some (lookup (eq key) entries) ≡ list_any (eq key) (keys_of entries)
  found [] = refl
  found (entry ∷ entries) = by (eq key entry.0) (found entries)
    where
      by : (b : Bool) → is_some (lookup (eq key) entries) ≡ list_any (eq key) (keys_of entries)
          → is_some (cond b (Some entry.1) (lookup (eq key) entries)) ≡ (b || list_any (eq key) (keys_of entries))
      by true rest = refl
      by false rest = rest

  -- and it has a total where one of the amounts has it
  counted : (amounts : List (K × ℤ)) → is_some (total_if_any (amounts_at eq key amounts)) ≡ list_any (eq key) (keys_of amounts)
  counted [] = refl
  counted (amount ∷ amounts) = by (eq key amount.0) (counted amounts)
    where
      by : (b : Bool) → is_some (total_if_any (amounts_at eq key amounts)) ≡ list_any (eq key) (keys_of amounts)
          → is_some (total_if_any (cond b (amount ∷ amounts_at eq key amounts) (amounts_at eq key amounts))) ≡ (b || list_any (eq key) (keys_of amounts))
      by true rest = refl
      by false rest = rest

pub all_keys : {K : Type 0} (eq : K → K → Bool) (cmp : K → K → Ordering) (most : ℕ) (amounts : List (K × ℤ)) (ranked : Ranked K) → AreGreatest eq cmp most amounts ranked
    → (keys : List K) × AreKeysOf eq amounts keys × (ranked.count ≡ length keys)
all_keys {K} eq cmp most amounts ranked are = (
  keys_of are.all,
  record { once = are.totals.once; all = λ key. sym (found eq key are.all) ∙ ap (λ (o : Option Total). is_some o) (are.totals.each key) ∙ counted eq key amounts },
  are.count ∙ sym (length-map are.all (λ (e : K × Total). e.0)),
)
