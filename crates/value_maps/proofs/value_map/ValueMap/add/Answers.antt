use Rattle.std.proofs.Common.{◌≡◌, ◌∙◌, ℕ, List, ap, refl, subst, sym}
use Rattle.indexmap.proofs.CallerLemmas.{insert_entry-new}
use Rattle.std.specs.Prelude.{nat_eq, None}
use Rattle.std.specs.Map.{lookup}
use Rattle.std.specs.Cmp.Lexicographic.{pointwise}
use Rattle.cwr_share.proofs.PayeeLemmas.{none_if_no_row}
use Rattle.value_maps.specs.Maps.{HasRow}
use Rattle.value_maps.proofs.value_map.ValueMap.add.Goals as goal

pub returns-clause-rows : goal.returns-clause-rows
returns-clause-rows c =
    let rows = c.self.inside.rows.entries in
    let same = ap (λ values. values.rows) c.self.view_is in
    let from = c.in_ok-from.from in
    let none = none_if_no_row rows c.args.from.now
    (subst (λ (rows : List (List ℕ × List ℕ)). ¬ HasRow rows c.args.from.now) (sym same) c.requires) in
    let absent : lookup (λ other. pointwise nat_eq from other) rows ≡ None =
    subst (λ (k : List ℕ). lookup (λ other. pointwise nat_eq k other) rows ≡ None) (sym c.in_ok-from.ensures) none in
    let more = c.in_ok-insert.ensures.entries ∙ insert_entry-new (pointwise nat_eq) c.self.inside.rows from c.in_ok-to.to absent in
    more ∙ rw (same, c.in_ok-from.ensures, c.in_ok-to.ensures) refl
