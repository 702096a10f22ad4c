-- What a seat alone has, after a step, after a seat was cut in two, and after two were put together.
use Rattle.std.proofs.Common.{◌≡◌, ◌≢◌, ◌∙◌, ◌<◌, ◌++◌, ◌∷◌, ◌⊎◌, [], ℕ, List, length, set, zero, suc, sym, refl, subst, inl, inr, arith, length-set}
use mathlib.Core.Option.{some, some-injective, some-ne-none}
use lib.ListN.{get_elem?}
use Rattle.atomic_table.proofs.Lists.{at_set}
use Rattle.node_table.specs.declared.seats.Known.{Known}
use Rattle.node_table.specs.declared.seats.Known.TheVariants.{Gone}
use Rattle.node_table.specs.Rule.{AreApart}
use Rattle.node_table.specs.Seats.{Owned, Has}

-- ---- lists of views

module _ {V : Type 0} where
  pub at_within : (views : List V) (i : ℕ) (v : V) → get_elem? views i ≡ some v → i < length views
  at_within [] i v e = absurd (some-ne-none v (sym e))
  at_within (x ∷ xs) zero v e = omega arith
  at_within (x ∷ xs) (suc i) v e = let rest = at_within xs i v e in omega (arith, rest)

  -- of a list with one more
  read_longer : (views : List V) (a b : V) (j : ℕ) → get_elem? (views ++ a ∷ []) j ≡ some b → (get_elem? views j ≡ some b) ⊎ ((j ≡ length views) × (a ≡ b))
  read_longer [] a b zero e = inr (refl, some-injective a b e)
  read_longer [] a b (suc j) e = absurd (some-ne-none b (sym e))
  read_longer (x ∷ xs) a b zero e = inl e
  read_longer (x ∷ xs) a b (suc j) e = elim (read_longer xs a b j e) [
    | inl o ↦ inl o
    | inr o ↦ inr (omega (arith, o.0), o.1)
  ]

  -- the seat's own view, that of another seat, and that of the new seat
  pub read_split : (views : List V) (id : ℕ) (left right : V) (j : ℕ) (d : V) → get_elem? (set views id left ++ right ∷ []) j ≡ some d
      → ((j ≡ id) × (left ≡ d)) ⊎ (((j ≢ id) × (get_elem? views j ≡ some d)) ⊎ ((j ≡ length views) × (right ≡ d)))
  read_split views id left right j d e = elim (read_longer (set views id left) right d j e) [
    | inl old ↦ elim (at_set views id j left d old) [
      | inl mine ↦ inl mine
      | inr other ↦ inr (inl other)
    ]
    | inr new ↦ inr (inr (new.0 ∙ length-set views id left, new.1))
  ]

  -- the seat's own view, that of another seat, and that of the seat that was taken in
  pub read_join : (views : List V) (id other : ℕ) (both spent : V) (j : ℕ) (d : V) → get_elem? (set (set views id both) other spent) j ≡ some d
      → ((j ≡ id) × (both ≡ d)) ⊎ (((j ≢ id) × (j ≢ other) × (get_elem? views j ≡ some d)) ⊎ ((j ≡ other) × (spent ≡ d)))
  read_join views id other both spent j d e = elim (at_set (set views id both) other j spent d e) [
    | inl out ↦ inr (inr out)
    | inr in_place ↦ elim (at_set views id j both d in_place.1) [
      | inl mine ↦ inl mine
      | inr old ↦ inr (inl (old.0, in_place.0, old.1))
    ]
  ]

module _ (views : List Known) (apart : AreApart views) (id : ℕ) (known : Known) (seen : get_elem? views id ≡ some known) where
  -- what one seat has, another has not
  pub other_has_not : (j : ℕ) (d : Known) → j ≢ id → get_elem? views j ≡ some d → (thing : Owned) → Has known thing → ¬ Has d thing
  other_has_not j d other there thing mine = apart id j known d thing seen there (λ e. other (sym e)) mine

  -- ---- a step: the seat has nothing that another has

  pub apart_set : (w : Known) → ((thing : Owned) → Has w thing → (j : ℕ) (d : Known) → j ≢ id → get_elem? views j ≡ some d → ¬ Has d thing) → AreApart (set views id w)
  apart_set w new i j a b thing at_i at_j differ has_a has_b = elim (at_set views id i w a at_i) [
    | inl mine ↦ elim (at_set views id j w b at_j) [
      | inl too ↦ differ (mine.0 ∙ sym too.0)
      | inr old ↦ new thing (subst (λ k. Has k thing) (sym mine.1) has_a) j b old.0 old.1 has_b
    ]
    | inr first ↦ elim (at_set views id j w b at_j) [
      | inl mine ↦ new thing (subst (λ k. Has k thing) (sym mine.1) has_b) i a first.0 first.1 has_a
      | inr second ↦ apart i j a b thing first.1 second.1 differ has_a has_b
    ]
  ]

  -- it has what it had, or less
  pub apart_still : (w : Known) → ((thing : Owned) → Has w thing → Has known thing) → AreApart (set views id w)
  apart_still w less = apart_set w (λ thing has j d other there. other_has_not j d other there thing (less thing has))

  -- ---- a seat is cut in two: what each part has the seat had, and no thing is both parts'

  pub apart_split : (left right : Known) → ((thing : Owned) → Has left thing → Has known thing) → ((thing : Owned) → Has right thing → Has known thing) → ((thing : Owned) → Has left thing → ¬ Has right thing)
      → AreApart (set views id left ++ right ∷ [])
  apart_split left right from_left from_right differ i j a b thing at_i at_j apart_ij has_a has_b = elim (read_split views id left right i a at_i) [
    | inl mine ↦
        let mine_has : Has left thing = subst (λ k. Has k thing) (sym mine.1) has_a in elim (read_split views id left right j b at_j) [
          | inl too ↦ apart_ij (mine.0 ∙ sym too.0)
          | inr (inl old) ↦ other_has_not j b old.0 old.1 thing (from_left thing mine_has) has_b
          | inr (inr last) ↦ differ thing mine_has (subst (λ k. Has k thing) (sym last.1) has_b)
        ]
    | inr (inl old) ↦ elim (read_split views id left right j b at_j) [
      | inl mine ↦ other_has_not i a old.0 old.1 thing (from_left thing (subst (λ k. Has k thing) (sym mine.1) has_b)) has_a
      | inr (inl too) ↦ apart i j a b thing old.1 too.1 apart_ij has_a has_b
      | inr (inr last) ↦ other_has_not i a old.0 old.1 thing (from_right thing (subst (λ k. Has k thing) (sym last.1) has_b)) has_a
    ]
    | inr (inr last) ↦
        let last_has : Has right thing = subst (λ k. Has k thing) (sym last.1) has_a in elim (read_split views id left right j b at_j) [
          | inl mine ↦ differ thing (subst (λ k. Has k thing) (sym mine.1) has_b) last_has
          | inr (inl old) ↦ other_has_not j b old.0 old.1 thing (from_right thing last_has) has_b
          | inr (inr too) ↦ apart_ij (last.0 ∙ sym too.0)
        ]
  ]

  -- ---- two seats are put together: what the one has then, one of them had

  pub apart_join : (other : ℕ) (was : Known) (both : Known) → get_elem? views other ≡ some was → ((thing : Owned) → Has both thing → Has known thing ⊎ Has was thing)
      → AreApart (set (set views id both) other Gone)
  apart_join other was both there from i j a b thing at_i at_j apart_ij has_a has_b = elim (read_join views id other both Gone i a at_i) [
    | inl mine ↦ elim (read_join views id other both Gone j b at_j) [
      | inl too ↦ apart_ij (mine.0 ∙ sym too.0)
      | inr (inl old) ↦ others thing (subst (λ k. Has k thing) (sym mine.1) has_a) j b old.0 old.1 old.2 has_b
      | inr (inr out) ↦ subst (λ k. Has k thing) (sym out.1) has_b
    ]
    | inr (inl old) ↦ elim (read_join views id other both Gone j b at_j) [
      | inl mine ↦ others thing (subst (λ k. Has k thing) (sym mine.1) has_b) i a old.0 old.1 old.2 has_a
      | inr (inl too) ↦ apart i j a b thing old.2 too.2 apart_ij has_a has_b
      | inr (inr out) ↦ subst (λ k. Has k thing) (sym out.1) has_b
    ]
    | inr (inr out) ↦ subst (λ k. Has k thing) (sym out.1) has_a
  ]
    where
      others : (thing : Owned) → Has both thing → (j : ℕ) (d : Known) → j ≢ id → j ≢ other → get_elem? views j ≡ some d → ¬ Has d thing
      others thing has j d not_mine not_out at_j has_d = elim (from thing has) [
        | inl mine ↦ other_has_not j d not_mine at_j thing mine has_d
        | inr its ↦ apart other j was d thing there at_j (λ e. not_out (sym e)) its has_d
      ]
