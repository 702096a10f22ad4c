-- What a sender of a pool has sent in each mailbox, and where it has ended, after one more item.
use Rattle.std.proofs.Common.{◌≡◌, ◌∙◌, ◌<◌, ◌++◌, ◌∷◌, [], ℕ, Bool, List, cond, length, set, true, ap, sym, refl, subst, inl, inr, get_or-set_other, get_or-set_same}
use Rattle.std.specs.Prelude.{slice_index_or}
use Rattle.std.proofs.lemmas.Bool.{cases_eq, eq-eqb, ne_eqb}
use Rattle.queue_core.specs.declared.item.Item.{Item}
use Rattle.node_table.specs.Seats.{items_in}
use Rattle.node_table.proofs.SenderSteps.{items_other, items_own}
use Rattle.pool_box.specs.Pools.{put_at}

-- a function has another value at one place, and the old ones elsewhere
put_there : {A : Type 0} (m : ℕ) (value : A) (f : ℕ → A) (at : ℕ) → at ≡ m → put_at m value f at ≡ value
put_there m value f at here = ap (λ (b : Bool). cond b value (f at)) (eq-eqb at m here)

put_else : {A : Type 0} (m : ℕ) (value : A) (f : ℕ → A) (at : ℕ) → ¬ (at ≡ m) → put_at m value f at ≡ f at
put_else m value f at other = ap (λ (b : Bool). cond b value (f at)) (ne_eqb at m other)

-- one more item in a mailbox
pub items_put : (m : ℕ) (item : Item) (filled : List (ℕ × Item)) (b : ℕ) → items_in b (filled ++ (m, item) ∷ []) ≡ put_at m (items_in m filled ++ item ∷ []) (λ b. items_in b filled) b
items_put m item filled b = elim (cases_eq b m) [
  | inl here ↦
      items_own b m item filled here ∙ (ap (λ (k : ℕ). items_in k filled ++ item ∷ []) here ∙ sym (put_there m (items_in m filled ++ item ∷ []) (λ b. items_in b filled) b here))
  | inr other ↦ items_other b m item filled other ∙ sym (put_else m (items_in m filled ++ item ∷ []) (λ b. items_in b filled) b other)
]

-- the sender has ended in one mailbox more
pub ended_put : (m : ℕ) (ended : List Bool) → m < length ended → (b : ℕ) (d : Bool) → slice_index_or (set ended m true) b d ≡ put_at m true (λ b. slice_index_or ended b d) b
ended_put m ended low b d = elim (cases_eq b m) [
  | inl here ↦
      subst (λ (b : ℕ). slice_index_or (set ended m true) b d ≡ put_at m true (λ b. slice_index_or ended b d) b) (sym here)
      (get_or-set_same ended m true d low ∙ sym (put_there m true (λ b. slice_index_or ended b d) m refl))
  | inr other ↦ get_or-set_other ended m b true d other ∙ sym (put_else m true (λ b. slice_index_or ended b d) b other)
]
