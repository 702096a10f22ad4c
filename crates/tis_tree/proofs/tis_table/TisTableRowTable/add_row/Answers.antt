use Rattle.std.proofs.Common.{ℕ, arith, ap, refl, subst, sym, ◌∙◌}
use Rattle.std.proofs.lemmas.List.Elements.{All-map}
use Rattle.csv_table.specs.Forms.{number_of}
use Rattle.tis_tree.specs.Territories.{IsKnown}
use Rattle.tis_tree.specs.TisRows.{words_of}
use Rattle.tis_tree.proofs.Compiling.{known_if_found, unknown_if_none}
use Rattle.tis_tree.proofs.tis_table.TisTableRowTable.add_row.Goals as goal
use Rattle.tis_tree.proofs.tis_table.TisTableRowTable.add_row.Goals.{After-none-set}

pub returns-then-is_some-clause-fault : goal.returns-then-is_some-clause-fault
returns-then-is_some-clause-fault c =
    let table = c.args.self.now in
    let (is_code, value) = c.in-Some.ensures.code in
    let found = known_if_found table c.in-Some.code c.place.result c.place.ensures.some c.place.ensures.none in (
      refl,
      omega (arith, c.len.ensures, c.if-len-ne2.false),
      rw c.field.ensures at is_code,
      subst (λ (code : ℕ). IsKnown table code) (value ∙ ap number_of c.field.ensures) (found.0 (sym c.if-is_some.ensures)),
    )

-- no earlier row has the code of this one
is_new : (c : After-none-set) → ¬ IsKnown c.args.self.now (number_of c.field.result.now)
is_new c =
    let table = c.args.self.now in
    let found = known_if_found table c.in-Some.code c.place.result c.place.ensures.some c.place.ensures.none in
    subst (λ (code : ℕ). ¬ IsKnown table code) c.in-Some.ensures.code.1 (unknown_if_none table c.in-Some.code c.place.result found (sym c.if-is_some.ensures))

pub returns-in_default-2-clause-fault : goal.returns-in_default-2-clause-fault
returns-in_default-2-clause-fault c = (
  refl,
  omega (arith, c.len.ensures, c.if-len-ne2.false),
  rw c.field.ensures at c.in-Some.ensures.code.0,
  rw c.field.ensures at (is_new (goal.at.returns-in_default-2-clause-fault c).After-none-set),
  rw c.field-2.ensures at (rw c.in_default-2.is at c.in_ok-groups.ensures.none),
)

pub push-requires-clause-groups : goal.push-requires-clause-groups
push-requires-clause-groups c =
    let words = words_of c.field-2.result.now in
    let known = rw c.in-Some-2.is at c.in_ok-groups.ensures.known in
    let groups = rw c.in-Some-2.is at c.in_ok-groups.ensures.groups in
    rw groups (All-map (IsKnown c.args.self.now) number_of words (λ k d lt. (known k d lt).1))

pub returns-clause-row : goal.returns-clause-row
returns-clause-row c = record {
  whole = omega (arith, c.len.ensures, c.if-len-ne2.false);
  code = rw c.field.ensures at c.in-Some.ensures.code.0;
  new = rw c.field.ensures at (is_new (goal.at.returns-clause-row c).After-none-set);
  groups = rw c.field-2.ensures at (rw c.in-Some-2.is at c.in_ok-groups.ensures.known);
}
