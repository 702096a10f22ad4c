use Rattle.std.proofs.Common.{refl, subst}
use Rattle.std.specs.Prelude.{ℕ, List}
use Rattle.csv_table.specs.Forms.{IsPrintable}
use Rattle.line_split.specs.declared.TheConstants.{MOST_TEXT_BYTES}
use Rattle.decimal_amounts.specs.Decimals.{IsFaultOf}
use Rattle.sales_lines.specs.Sales.{IsNamed, IsWhole}
use Rattle.sales_lines.proofs.Lacking.{lacking}
use Rattle.sales_lines.proofs.settings.Settings.line.Goals as goal
use Rattle.value_maps.specs.declared.kind.Kind.TheVariants.{Rights, Territories, Works}

pub returns-in-Err-clause-reason : goal.returns-in-Err-clause-reason
returns-in-Err-clause-reason c =
    let settings = c.args.self.now in
    let row = c.args.row.now in
    let whole : IsWhole settings row = (c.requires.whole, c.if-not-has_fields.ensures.0 refl) in
    let named : IsNamed settings row = subst (IsPrintable MOST_TEXT_BYTES) c.requires.usage (c.if-not-is_printable.ensures.0 refl) in
    lacking settings row Works _ whole named tt c.in-Err.ensures.none

pub returns-in-Err-value-clause-reason : goal.returns-in-Err-value-clause-reason
returns-in-Err-value-clause-reason c =
    let settings = c.args.self.now in
    let row = c.args.row.now in
    let whole : IsWhole settings row = (c.requires.whole, c.if-not-has_fields.ensures.0 refl) in
    let named : IsNamed settings row = subst (IsPrintable MOST_TEXT_BYTES) c.requires.usage (c.if-not-is_printable.ensures.0 refl) in
    let work = c.in-Ok.ensures.value in
    lacking settings row Territories _ whole named (c.in-Ok.work.now, work.0, work.1) c.in-Err-value.ensures.none

pub returns-in-Err-value-2-clause-reason : goal.returns-in-Err-value-2-clause-reason
returns-in-Err-value-2-clause-reason c =
    let settings = c.args.self.now in
    let row = c.args.row.now in
    let whole : IsWhole settings row = (c.requires.whole, c.if-not-has_fields.ensures.0 refl) in
    let named : IsNamed settings row = subst (IsPrintable MOST_TEXT_BYTES) c.requires.usage (c.if-not-is_printable.ensures.0 refl) in
    let work = c.in-Ok.ensures.value in
    let territory = c.in-Ok-value.ensures.value in
    lacking settings row Rights _ whole named
    ((c.in-Ok.work.now, work.0, work.1), (c.in-Ok-value.territory.now, territory.0, territory.1)) c.in-Err-value-2.ensures.none

pub returns-in-Err-units_of-clause-reason : goal.returns-in-Err-units_of-clause-reason
returns-in-Err-units_of-clause-reason c =
    let settings = c.args.self.now in
    let row = c.args.row.now in
    let whole : IsWhole settings row = (c.requires.whole, c.if-not-has_fields.ensures.0 refl) in
    let named : IsNamed settings row = subst (IsPrintable MOST_TEXT_BYTES) c.requires.usage (c.if-not-is_printable.ensures.0 refl) in
    let work = c.in-Ok.ensures.value in
    let territory = c.in-Ok-value.ensures.value in
    let right = c.in-Ok-value-2.ensures.value in
    let fault = subst (λ (text : List ℕ). IsFaultOf settings.mark text settings.places c.in-Err-units_of.fault) c.text.ensures c.in-Err-units_of.ensures.fault in (
      whole,
      named,
      ((c.in-Ok.work.now, work.0, work.1), (c.in-Ok-value.territory.now, territory.0, territory.1)),
      (c.in-Ok-value-2.right.now, right.0, right.1),
      fault,
    )
