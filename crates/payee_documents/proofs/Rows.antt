-- Rows of a table that can be drawn, and how many territories there are.
use Rattle.std.proofs.Common.{◌≡◌, ◌∙◌, ap, sym, subst, ◌≤◌, ◌<◌, ◌+◌, ◌^◌, ℕ, zero, suc, List, add-one, arith, get_or, length, map, All, unsigned_abs}
use Rattle.std.proofs.lemmas.List.Elements.{All-map, All-weaker}
use Rattle.std.proofs.lemmas.List.{get_or-map, length-map}
use Rattle.page_parts.specs.Bars.{Row, row_shown}
use Rattle.page_parts.specs.declared.bars.BarRow.{BarRow}

-- ---- what rises by one at least

module _ (found : List ℕ) (rising : (k : ℕ) → k + 1 < length found → get_or found k 0 < get_or found (k + 1) 0) where
  at_least : (k : ℕ) → k < length found → k ≤ get_or found k 0
  at_least zero inside = omega arith
  at_least (suc k) inside =
      let more : get_or found k 0 < get_or found (suc k) 0 = rw (← add-one k) (rising k (omega arith)) in
      omega (arith, more, at_least k (omega (arith, inside)))

  -- codes of 16 bits that rise are 65536 at most
  pub few_codes : ((k d : ℕ) → k < length found → get_or found k d < 65536) → length found ≤ 65536
  few_codes fit = grind (arith, at_least 65536, fit 65536 0)

-- so rows of territories are 65536 at most
pub few_rows : (land : ℕ → Row) (rows : List Row) (found : List ℕ) {codes slice : List ℕ}
    → ((k : ℕ) → k + 1 < length found → get_or found k 0 < get_or found (k + 1) 0) → codes ≡ found → ((k d : ℕ) → k < length codes → get_or codes k d < 65536)
    → slice ≡ found → rows ≡ map land slice → length rows ≤ 65536
few_rows land rows found {slice} rising same fit alike are =
    omega (
      arith,
      ap length are,
      ap length alike,
      length-map slice land,
      few_codes found rising (subst (λ (l : List ℕ). (k d : ℕ) → k < length l → get_or l k d < 65536) same fit),
    )

-- ---- rows as they are shown

pub shown_small : (rows : List BarRow) → All (λ row. unsigned_abs row.amount ≤ 2 ^ 64) rows → All (λ row. unsigned_abs row.amount ≤ 2 ^ 64) (map row_shown rows)
shown_small rows small = All-map (λ (row : Row). unsigned_abs row.amount ≤ 2 ^ 64) row_shown rows small

pub shown_counts : (most : ℕ) (rows : List BarRow) → All (λ row. row.count ≤ most) rows → All (λ row. row.count ≤ most) (map row_shown rows)
shown_counts most rows small = All-map (λ (row : Row). row.count ≤ most) row_shown rows small

pub can_be_drawn : (rows : List Row) → All (λ row. unsigned_abs row.amount ≤ 2 ^ 64) rows → All (λ row. unsigned_abs row.amount ≤ 2 ^ 100) rows
can_be_drawn rows small =
    All-weaker (λ (row : Row). unsigned_abs row.amount ≤ 2 ^ 64) (λ (row : Row). unsigned_abs row.amount ≤ 2 ^ 100) (λ row at_most. omega (arith, at_most)) rows small

-- ---- two lists that show the same, item by item

pub same_at : {X Y Z : Type 0} (f : X → Z) (g : Y → Z) (xs : List X) (ys : List Y) (k : ℕ) (x : X) (d : Y) → map f xs ≡ map g ys → x ≡ get_or xs k x → k < length ys
    → f x ≡ g (get_or ys k d)
same_at {Z = Z} f g xs ys k x d same is inside =
    let long = ap length same in
    ap f is
    ∙ (sym (get_or-map f xs k x (f x) (omega (arith, length-map xs f, length-map ys g)))
    ∙ (ap (λ (l : List Z). get_or l k (f x)) same ∙ get_or-map g ys k d (f x) inside))
