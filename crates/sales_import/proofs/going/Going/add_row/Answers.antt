use Rattle.std.proofs.Common.{Option, Some, ℤ, refl, subst}
use Rattle.std.proofs.KnownBytes.{Appends-nil}
use Rattle.sales_lines.specs.Sales.{IsCountedWith, IsOutcomeOf}
use Rattle.sales_lines.specs.declared.outcome.Outcome.TheVariants.{Passed, Rejected, Line}
use Rattle.sales_import.specs.Imported.{line_row, made_by, reject_row, sold_of}
use Rattle.sales_import.proofs.Added.{text_of_one}
use Rattle.sales_import.proofs.Counted.{counts_line, counts_passed, counts_reject}
use Rattle.sales_import.proofs.going.Going.add_row.Goals as goal

pub returns-in-Passed-clause-added : goal.returns-in-Passed-clause-added
returns-in-Passed-clause-added g c =
    let is = subst (IsOutcomeOf c.args.settings.now c.args.row.now) c.in-Passed.is c.in_ok-outcome.ensures in
    let amount = c.counted-counted.result in (
      made_by c.args.number c.args.row.now Passed amount,
      (Passed, amount, is, c.counted-counted.ensures.amount, refl),
      record {
        lines = Appends-nil _;
        rejects = Appends-nil _;
        counted = counts_passed _ _ amount c.add_passed.ensures.added;
      },
    )

pub returns-in_ok-push_reject-in-Rejected-clause-added : goal.returns-in_ok-push_reject-in-Rejected-clause-added
returns-in_ok-push_reject-in-Rejected-clause-added g c =
    let row = c.args.row.now in
    let reason = c.in-Rejected.reason in
    let amount = c.counted-counted-in-Rejected.result in
    let is = subst (IsOutcomeOf c.args.settings.now row) c.in-Rejected.is c.in_ok-outcome.ensures in (
      made_by c.args.number row (Rejected reason) amount,
      (Rejected reason, amount, is, c.counted-counted-in-Rejected.ensures.amount, refl),
      record {
        lines = Appends-nil _;
        rejects = rw (text_of_one (reject_row c.args.number reason row)) c.in_ok-push_reject-in-Rejected.ensures.row;
        counted = counts_reject _ _ (record { number = c.args.number; reason = reason; row = row; amount = amount }) c.requires.within.count c.add_rejected.ensures.added;
      },
    )

pub returns-in_ok-push_line-in-Line-clause-added : goal.returns-in_ok-push_line-in-Line-clause-added
returns-in_ok-push_line-in-Line-clause-added g c =
    let row = c.args.row.now in
    let line = c.in-Line.line in
    let is = subst (IsOutcomeOf c.args.settings.now row) c.in-Line.is c.in_ok-outcome.ensures in
    let amount : Option ℤ = Some line.amount in
    let counts : IsCountedWith c.args.settings.now row amount = (is.1.whole.0, is.1.whole.1.wide, is.1.amount) in (
      made_by c.args.number row (Line line) amount,
      (Line line, amount, is, counts, refl),
      record {
        lines = rw (text_of_one (line_row (sold_of line))) c.in_ok-push_line-in-Line.ensures.row;
        rejects = Appends-nil _;
        counted = counts_line c.args.self.now.summary c.add_line.new.self (sold_of line) c.add_line.ensures.added;
      },
    )
