-- What amounts come to by their keys, taken one amount after another.
use Rattle.std.proofs.Common.{◌≡◌, ◌∙◌, ◌+◌, ◌++◌, ◌∷◌, [], ℤ, pos, ◌+ℤ◌, unsigned_abs, Bool, true, false, List, None, Option, Some, ap, cond, refl, rules, sym, unwrap_or}
use Rattle.std.specs.Cmp.{IsEquivalence, IsTotalOrder, IsStrictWeakOrder}
use Rattle.std.specs.List.{AllByRecursion, IsDistinct}
use Rattle.std.specs.Map.{keys_of, lookup}
use Rattle.std.specs.Ordering.{is_lt}
use Rattle.std.specs.declared.cmp.Ordering.{Ordering}
use Rattle.std.specs.Cmp.{back_total, nat_cmp_total, on_total, then_total}
use Rattle.std.proofs.lemmas.List.{append-nil, length_push}
use Rattle.std.proofs.lemmas.List.Elements.{filter-append, filter_agree}
use Rattle.std.proofs.lemmas.List.Sorted.{ranks_by}
use Rattle.std.proofs.lemmas.Option.{none-some}
use Rattle.line_split.proofs.IntSums.{int_sum_by_push}
use Rattle.usage_totals.specs.Greatest.{AreTotals, amounts_at, by_money, total_if_any}
use Rattle.usage_totals.specs.declared.total.Total.{Total}

abbrev pub nothing : Total
nothing = record { lines = 0; amount = pos 0 }

-- a total with one amount more
abbrev pub total_with : Total → ℤ → Total
total_with total amount = record { lines = total.lines + 1; amount = total.amount +ℤ amount }

-- one amount more
total_if_any_push : {K : Type 0} (amounts : List (K × ℤ)) (amount : K × ℤ) → total_if_any (amounts ++ amount ∷ []) ≡ Some (total_with (unwrap_or (total_if_any amounts) nothing) amount.1)
total_if_any_push [] amount = refl
total_if_any_push {K} (first ∷ amounts) amount =
    λ i. Some (record { lines = length_push (first ∷ amounts) amount i; amount = int_sum_by_push (λ (a : K × ℤ). a.1) (first ∷ amounts) amount i })

module _ {K : Type 0} (eq : K → K → Bool) (laws : IsEquivalence eq) where
  -- keys that are the same have the same amounts
  same_amounts : (key q : K) (amounts : List (K × ℤ)) → eq q key ≡ true → amounts_at eq q amounts ≡ amounts_at eq key amounts
  same_amounts key q amounts same = filter_agree (λ (a : K × ℤ). eq q a.0) (λ (a : K × ℤ). eq key a.0) (λ a. laws.congr q key a.0 same) amounts

  amounts_push : (q : K) (amounts : List (K × ℤ)) (amount : K × ℤ) (b : Bool) → eq q amount.0 ≡ b → amounts_at eq q (amounts ++ amount ∷ []) ≡ amounts_at eq q amounts ++ cond b (amount ∷ []) []
  amounts_push q amounts amount b told =
      filter-append (λ (a : K × ℤ). eq q a.0) amounts (amount ∷ []) ∙ ap (λ (c : Bool). amounts_at eq q amounts ++ cond c (amount ∷ []) []) told

  -- keys that are the same are the same as another
  same_test : (key k q : K) (b : Bool) → eq key k ≡ true → eq q k ≡ b → eq q key ≡ b
  same_test key k q b same told = laws.symm q key ∙ laws.congr key k q same ∙ laws.symm k q ∙ told

  -- an amount more of the key at hand
  pub totals_more : (key k : K) (amount : ℤ) (total : Total) (before : List (K × Total)) (amounts : List (K × ℤ)) → eq key k ≡ true
      → AreTotals eq amounts ((k, total) ∷ before) → AreTotals eq (amounts ++ (key, amount) ∷ []) ((k, total_with total amount) ∷ before)
  totals_more key k amount total before amounts same totals = record { once = totals.once; each = λ q. by q (eq q k) refl (totals.each q) }
    where
      by : (q : K) (b : Bool) → eq q k ≡ b → cond (eq q k) (Some total) (lookup (eq q) before) ≡ total_if_any (amounts_at eq q amounts)
          → cond (eq q k) (Some (total_with total amount)) (lookup (eq q) before) ≡ total_if_any (amounts_at eq q (amounts ++ (key, amount) ∷ []))
      by q true told had =
          let at : Some total ≡ total_if_any (amounts_at eq q amounts) = ap (λ (b : Bool). cond b (Some total) (lookup (eq q) before)) (sym told) ∙ had in
          ap (λ (b : Bool). cond b (Some (total_with total amount)) (lookup (eq q) before)) told
          ∙ ap (λ (o : Option Total). Some (total_with (unwrap_or o nothing) amount)) at
          ∙ sym (total_if_any_push (amounts_at eq q amounts) (key, amount))
          ∙ sym (ap total_if_any (amounts_push q amounts (key, amount) true (same_test key k q true same told)))
      by q false told had =
          ap (λ (b : Bool). cond b (Some (total_with total amount)) (lookup (eq q) before)) told
          ∙ ap (λ (b : Bool). cond b (Some total) (lookup (eq q) before)) (sym told)
          ∙ had
          ∙ ap total_if_any (sym (append-nil (amounts_at eq q amounts)) ∙ sym (amounts_push q amounts (key, amount) false (same_test key k q false same told)))

  -- a key that is not found is none of these
  none_found : (key : K) (entries : List (K × Total)) → lookup (eq key) entries ≡ None → AllByRecursion (λ k. eq key k ≡ false) (keys_of entries)
  none_found key [] none = tt
  none_found key (e ∷ entries) none = by (eq key e.0) refl (none_found key entries)
    where
      by : (b : Bool) → eq key e.0 ≡ b → (lookup (eq key) entries ≡ None → AllByRecursion (λ k. eq key k ≡ false) (keys_of entries)) → AllByRecursion (λ k. eq key k ≡ false) (keys_of (e ∷ entries))
      by true told rest = absurd (none-some e.1 (sym none ∙ ap (λ (b : Bool). cond b (Some e.1) (lookup (eq key) entries)) told))
      by false told rest = (told, rest (ap (λ (b : Bool). cond b (Some e.1) (lookup (eq key) entries)) (sym told) ∙ none))

  -- an amount of a key that has none so far
  pub totals_first : (key : K) (amount : ℤ) (entries : List (K × Total)) (amounts : List (K × ℤ)) → amounts_at eq key amounts ≡ []
      → AreTotals eq amounts entries → AreTotals eq (amounts ++ (key, amount) ∷ []) ((key, total_with nothing amount) ∷ entries)
  unfolding IsDistinct
  totals_first key amount entries amounts none totals = record {
    once = (none_found key entries (totals.each key ∙ ap total_if_any none), totals.once);
    each = λ q. by q (eq q key) refl;
  }
    where
      by : (q : K) (b : Bool) → eq q key ≡ b → cond (eq q key) (Some (total_with nothing amount)) (lookup (eq q) entries) ≡ total_if_any (amounts_at eq q (amounts ++ (key, amount) ∷ []))
      by q true told =
          ap (λ (b : Bool). cond b (Some (total_with nothing amount)) (lookup (eq q) entries)) told
          ∙ ap (λ (l : List (K × ℤ)). Some (total_with (unwrap_or (total_if_any l) nothing) amount)) (sym (same_amounts key q amounts told ∙ none))
          ∙ sym (total_if_any_push (amounts_at eq q amounts) (key, amount))
          ∙ sym (ap total_if_any (amounts_push q amounts (key, amount) true told))
      by q false told =
          ap (λ (b : Bool). cond b (Some (total_with nothing amount)) (lookup (eq q) entries)) told
          ∙ totals.each q
          ∙ ap total_if_any (sym (append-nil (amounts_at eq q amounts)) ∙ sym (amounts_push q amounts (key, amount) false told))

-- no amounts
pub totals_none : {K : Type 0} (eq : K → K → Bool) → AreTotals eq [] []
unfolding IsDistinct
totals_none eq = record { once = search rules; each = λ key. refl }

-- the order of money is one
pub money_ranks : {K : Type 0} (cmp : K → K → Ordering) → IsTotalOrder cmp → IsStrictWeakOrder (λ (e other : K × Total). is_lt (by_money cmp e other))
money_ranks {K} cmp total =
    ranks_by (then_total (on_total (λ (e : K × Total). unsigned_abs e.1.amount) (back_total nat_cmp_total)) (on_total (λ (e : K × Total). e.0) total)) (λ (e : K × Total). e)
