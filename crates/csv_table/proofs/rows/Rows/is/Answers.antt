use Rattle.std.proofs.Common.{◌≡◌, ◌∙◌, ap, sym, refl, List, ℕ, [], map, Bor, inl, inr, arith}
use Rattle.std.specs.Prelude.{slice_index_or}
use Rattle.std.proofs.lemmas.List.{ext_get_or, get_or-map, length-map}
use Rattle.csv_table.proofs.Fields.{agree, differ, place_before_or_last}
use Rattle.csv_table.proofs.rows.Rows.is.Goals as goal

pub returns-then-ne : goal.returns-then-ne
returns-then-ne c = (
  (λ e. cc e),
  (λ same.
      let named = get_or-map (λ (field : Bor (List ℕ)). field.now) c.args.fields.now c.loop-place.place (record { ref_ptr = (0, 0); now = [] }) [] c.loop-place-test.true in
      let equal : c.field.result.now ≡ c.as_bytes.result.now =
      c.field.ensures ∙ (ap (λ (row : List (List ℕ)). slice_index_or row c.loop-place.place []) same ∙ (named ∙ sym c.as_bytes.ensures.value)) in
      absurd (differ c.field.result.now c.as_bytes.result.now c.if-ne.ensures equal)),
)

pub loop-place-preserved : goal.loop-place-preserved
loop-place-preserved c k lt =
    let named = get_or-map (λ (field : Bor (List ℕ)). field.now) c.args.fields.now c.loop-place.place (record { ref_ptr = (0, 0); now = [] }) [] c.loop-place-test.true in
    elim (place_before_or_last k c.loop-place.place lt) [
      | inl before ↦ c.loop-place.invariant k before
      | inr last ↦ rw last (sym c.field.ensures ∙ (agree c.field.result.now c.as_bytes.result.now c.if-ne.ensures ∙ (c.as_bytes.ensures.value ∙ sym named)))
    ]

pub returns : goal.returns
returns c =
    let size = length-map c.args.fields.now (λ (field : Bor (List ℕ)). field.now) in
    let same = c.len.ensures in (
      (λ e. ext_get_or [] c.args.self.now.row (map (λ (field : Bor (List ℕ)). field.now) c.args.fields.now) (sym same ∙ (c.if-len-fields.false ∙ sym size))
          (λ i lt. c.loop-place.invariant i (omega (arith, lt, same, c.if-len-fields.false, c.loop-place-test.false)))),
      (λ all. refl),
    )
