-- Rows that stand where a reader is.
use Rattle.std.proofs.Common.{◌≡◌, ◌∙◌, ◌+◌, ◌+ℤ◌, ◌∷◌, ◌⊎◌, inl, inr, ℕ, ℤ, Bool, true, List, [], length, get_or, ap, sym, refl, arith, codes, decimal}
use Rattle.std.specs.Prelude.{◌==◌}
use Rattle.std.proofs.lemmas.Bool.{eqb-true}
use Rattle.std.specs.Fmt.{signed_decimal}
use Rattle.merge_statements.specs.Statements.{IsAmount, IsCount, IsName}
use Rattle.merge_statements.specs.Places.{AmountOrTotalFits, At, Fits, IsNextAmount, KindFits, Leads, UsageOrCountFits, count_at, sum_at}
use Rattle.merge_statements.specs.declared.walk.Place.TheVariants.{Ended, Resting, Within}

-- kinds of rows differ by their letters
module _ (kind : List ℕ) where
  apart : (a b : List ℕ) → kind ≡ a → kind ≡ b → get_or a 0 0 ≡ get_or b 0 0
  apart a b is of = ap (λ (k : List ℕ). get_or k 0 0) (sym is ∙ of)

  -- a sum is no portion
  no_portion : (kind ≡ codes "S") ⊎ (kind ≡ codes "T") → (kind ≡ codes "L") ⊎ (kind ≡ codes "M") → ⊥
  no_portion (inl s) (inl l) = omega (arith, apart _ _ s l)
  no_portion (inl s) (inr m) = omega (arith, apart _ _ s m)
  no_portion (inr t) (inl l) = omega (arith, apart _ _ t l)
  no_portion (inr t) (inr m) = omega (arith, apart _ _ t m)

  -- and neither is the row of the usage lines
  no_sum : (kind ≡ codes "S") ⊎ (kind ≡ codes "T") → kind ≡ codes "R" → ⊥
  no_sum (inl s) r = omega (arith, apart _ _ s r)
  no_sum (inr t) r = omega (arith, apart _ _ t r)

  not_run : (kind ≡ codes "L") ⊎ (kind ≡ codes "M") → kind ≡ codes "R" → ⊥
  not_run (inl l) r = omega (arith, apart _ _ l r)
  not_run (inr m) r = omega (arith, apart _ _ m r)

-- the use and the amount of a portion
pub usage_fits : (at : At) (kind usage : List ℕ) → (kind ≡ codes "L") ⊎ (kind ≡ codes "M") → IsName usage → UsageOrCountFits at kind usage
usage_fits at kind usage is name = record {
  usage = λ any. name;
  count = λ any. absurd (no_portion kind any is);
  lines = λ r. absurd (not_run kind is r);
}

pub amount_fits : (at : At) (kind text : List ℕ) → (kind ≡ codes "L") ⊎ (kind ≡ codes "M") → IsNextAmount at.portions text → AmountOrTotalFits at kind text
amount_fits at kind text is amount = record {
  amount = λ any. amount;
  sum = λ any. absurd (no_portion kind any is);
  all = λ r. absurd (not_run kind is r);
}

-- the count and the total of a sum
count_fits : (at : At) (kind count : List ℕ) → (kind ≡ codes "S") ⊎ (kind ≡ codes "T") → count ≡ decimal (count_at at.place) → UsageOrCountFits at kind count
count_fits at kind count is counted = record {
  usage = λ any. absurd (no_portion kind is any);
  count = λ any. counted;
  lines = λ r. absurd (no_sum kind is r);
}

total_fits : (at : At) (kind total : List ℕ) → (kind ≡ codes "S") ⊎ (kind ≡ codes "T") → total ≡ signed_decimal (sum_at at.place) → AmountOrTotalFits at kind total
total_fits at kind total is summed = record {
  amount = λ any. absurd (no_portion kind is any);
  sum = λ any. summed;
  all = λ r. absurd (no_sum kind is r);
}

-- the sum of what nobody gets
pub rests_fit : (at : At) (kind payee_or_reason usage_or_count amount_or_total : List ℕ) → kind ≡ codes "T" → KindFits at.place kind → payee_or_reason ≡ []
    → usage_or_count ≡ decimal (count_at at.place) → amount_or_total ≡ signed_decimal (sum_at at.place) → Fits at kind payee_or_reason usage_or_count amount_or_total
rests_fit at kind payee_or_reason usage_or_count amount_or_total is fits none count sum = record {
  kind_fits = fits;
  payee_or_reason_fits = record {
    payee = λ l. absurd (omega (arith, apart kind _ _ is l));
    same = λ s. absurd (omega (arith, apart kind _ _ is s));
    reason = λ m. absurd (omega (arith, apart kind _ _ is m));
    none = λ any. none;
  };
  usage_or_count_fits = count_fits at kind usage_or_count (inr is) count;
  amount_or_total_fits = total_fits at kind amount_or_total (inr is) sum;
}

-- the sum of a payee's portions
pub sum_fits : (at : At) (kind payee_or_reason usage_or_count amount_or_total : List ℕ) → kind ≡ codes "S" → KindFits at.place kind → payee_or_reason ≡ at.payee
    → usage_or_count ≡ decimal (count_at at.place) → amount_or_total ≡ signed_decimal (sum_at at.place) → Fits at kind payee_or_reason usage_or_count amount_or_total
sum_fits at kind payee_or_reason usage_or_count amount_or_total is fits same count sum = record {
  kind_fits = fits;
  payee_or_reason_fits = record {
    payee = λ l. absurd (omega (arith, apart kind _ _ is l));
    same = λ s. same;
    reason = λ m. absurd (omega (arith, apart kind _ _ is m));
    none = λ any. absurd (elim any [ inl t ↦ omega (arith, apart kind _ _ is t) | inr r ↦ omega (arith, apart kind _ _ is r) ]);
  };
  usage_or_count_fits = count_fits at kind usage_or_count (inl is) count;
  amount_or_total_fits = total_fits at kind amount_or_total (inl is) sum;
}

-- a text without bytes
pub empty_is : (text : List ℕ) (is : Bool) → is ≡ (length text == 0) → is ≡ true → text ≡ []
empty_is [] is test holds = refl
empty_is (byte ∷ text) is test holds = absurd (omega (arith, eqb-true (length (byte ∷ text)) 0 (sym test ∙ holds)))

-- where a portion leads
pub portion_leads : (at next : At) (kind payee_or_reason usage_or_count amount_or_total : List ℕ) (amount : ℤ) → kind ≡ codes "L" → IsAmount amount → amount_or_total ≡ signed_decimal amount
    → next ≡ record { place = Within (count_at at.place + 1) (sum_at at.place +ℤ amount); payee = payee_or_reason; portions = at.portions + 1; total = at.total }
    → Leads at kind payee_or_reason usage_or_count amount_or_total next
portion_leads at next kind payee_or_reason usage_or_count amount_or_total amount is sound written leads = record {
  portion = λ l. (amount, sound, written, leads);
  sum = λ s. absurd (omega (arith, apart kind _ _ is s));
  rest = λ m. absurd (omega (arith, apart kind _ _ is m));
  rests = λ t. absurd (omega (arith, apart kind _ _ is t));
  run = λ r. absurd (omega (arith, apart kind _ _ is r));
}

pub rest_leads : (at next : At) (kind payee_or_reason usage_or_count amount_or_total : List ℕ) (amount : ℤ) → kind ≡ codes "M" → IsAmount amount → amount_or_total ≡ signed_decimal amount
    → next ≡ record { place = Resting (count_at at.place + 1) (sum_at at.place +ℤ amount); payee = at.payee; portions = at.portions + 1; total = at.total }
    → Leads at kind payee_or_reason usage_or_count amount_or_total next
rest_leads at next kind payee_or_reason usage_or_count amount_or_total amount is sound written leads = record {
  portion = λ l. absurd (omega (arith, apart kind _ _ is l));
  sum = λ s. absurd (omega (arith, apart kind _ _ is s));
  rest = λ m. (amount, sound, written, leads);
  rests = λ t. absurd (omega (arith, apart kind _ _ is t));
  run = λ r. absurd (omega (arith, apart kind _ _ is r));
}

-- where the usage lines lead
pub run_leads : (at next : At) (kind payee_or_reason usage_or_count amount_or_total : List ℕ) (lines : ℕ) → kind ≡ codes "R" → IsCount lines → usage_or_count ≡ decimal lines
    → next ≡ record { place = Ended lines; payee = at.payee; portions = at.portions; total = at.total } → Leads at kind payee_or_reason usage_or_count amount_or_total next
run_leads at next kind payee_or_reason usage_or_count amount_or_total lines is few written leads = record {
  portion = λ l. absurd (omega (arith, apart kind _ _ is l));
  sum = λ s. absurd (omega (arith, apart kind _ _ is s));
  rest = λ m. absurd (omega (arith, apart kind _ _ is m));
  rests = λ t. absurd (omega (arith, apart kind _ _ is t));
  run = λ r. (lines, few, written, leads);
}
