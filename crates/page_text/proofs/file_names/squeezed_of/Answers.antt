use Rattle.std.proofs.Common.{◌≡◌, ◌≢◌, ◌-◌, ◌∙◌, ℕ, List, arith, eqb-true, get_or, inl, inr, length, subst, sym, vec_len}
use Rattle.std.proofs.lemmas.Bool.{eqb-false}
use Rattle.page_text.specs.FileNames.{squeezed}
use Rattle.page_text.proofs.Naming.{dash_goes, dash_stays, plain_stays}
use Rattle.page_text.proofs.file_names.squeezed_of.Goals as goal
use Rattle.page_text.proofs.file_names.squeezed_of.Goals.{then-is_ascii_alphanumeric+in_ok-push}
use Rattle.page_text.proofs.file_names.squeezed_of.Goals.{else-is_ascii_alphanumeric+then-not-is_empty+then-not-ends_in_dash+in_ok-push-2}
use Rattle.page_text.proofs.file_names.squeezed_of.Goals.{else-is_ascii_alphanumeric+else-not-is_empty}
use Rattle.page_text.proofs.file_names.squeezed_of.Goals.{else-not-is_empty-via-then-not-is_empty+else-not-ends_in_dash}
use Rattle.page_text.proofs.file_names.squeezed_of.Goals.{else-not-is_empty-via-else-not-is_empty}

pub loop-place-init : goal.loop-place-init
unfolding squeezed
loop-place-init c = c.new-text.ensures.items

pub loop-place-preserved : goal.loop-place-preserved
loop-place-preserved c =
    let name = c.args.name.now in
    let i = c.loop-place.place in
    let text = c.loop-place.text.items in
    let inside = c.loop-place-test.true in
    let is = c.loop-place.invariant in
    let test = c.is_ascii_alphanumeric.ensures.value in
    let count = c.loop-place.text.ok.0 in
    elim c.if-is_ascii_alphanumeric.branch [
      | then-is_ascii_alphanumeric+in_ok-push w ↦
          rw (w.text-is, w.in_ok-push.ensures.items) (plain_stays name i inside text is (sym test ∙ w.if-is_ascii_alphanumeric.true))
      | else-is_ascii_alphanumeric+then-not-is_empty+then-not-ends_in_dash+in_ok-push-2 w ↦
          let some = eqb-false (vec_len c.loop-place.text) 0 (sym w.is_empty.ensures ∙ w.if-not-is_empty.true) in
          let apart = eqb-false _ 45 (sym w.ends_in_dash.ensures ∙ w.if-not-ends_in_dash.true) in
          let at_end = subst (λ (t : List ℕ). get_or t (length t - 1) 0 ≢ 45) w.deref.ensures.value apart in
          rw (w.text-is, w.in_ok-push-2.ensures.items)
          (dash_stays name i inside text is (sym test ∙ w.if-is_ascii_alphanumeric.false) (omega (arith, some, count)) at_end)
      | else-is_ascii_alphanumeric+else-not-is_empty w ↦ rw w.text-is
          (dash_goes name i inside text is (sym test ∙ w.if-is_ascii_alphanumeric.false) (elim w.else-not-is_empty.branch [
            | else-not-is_empty-via-then-not-is_empty+else-not-ends_in_dash v ↦
                let dash = eqb-true _ 45 (sym v.ends_in_dash.ensures ∙ v.if-not-ends_in_dash.false) in
                inr (subst (λ (t : List ℕ). get_or t (length t - 1) 0 ≡ 45) v.deref.ensures.value dash)
            | else-not-is_empty-via-else-not-is_empty v ↦
                let none = eqb-true (vec_len c.loop-place.text) 0 (sym w.is_empty.ensures ∙ v.if-not-is_empty.false) in
                inl (omega (arith, none, count))
          ]))
    ]
