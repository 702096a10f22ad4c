use Rattle.std.proofs.Common.{◌∙◌, sym}
use Rattle.file_form.proofs.ControlLemmas.{group_compared, whole_compared}
use Rattle.file_form.proofs.controls.Scan.compare_all.Goals as goal

pub returns-in_ok-compare-2-clause-noted : goal.returns-in_ok-compare-2-clause-noted
returns-in_ok-compare-2-clause-noted c group whole found of_group of_whole noted =
    group_compared c.args.line.now c.args.self.now c.compare.new.self c.compare-then-is_type.new.self (sym c.is_type.ensures ∙ c.if-is_type.true)
    c.in_ok-compare.ensures.noted c.in_ok-compare.ensures.rest c.in_ok-compare-2.ensures.noted group whole found of_group noted

pub returns-in_ok-compare-5-clause-noted : goal.returns-in_ok-compare-5-clause-noted
returns-in_ok-compare-5-clause-noted c group whole found of_group of_whole noted =
    whole_compared c.args.line.now c.args.self.now c.compare-then-is_type-2.new.self c.compare-then-is_type-2-2.new.self c.compare-then-is_type-2-3.new.self
    (sym c.is_type.ensures ∙ c.if-is_type.false) (sym c.is_type-else-is_type.ensures ∙ c.if-is_type-2.true)
    c.in_ok-compare-3.ensures.noted c.in_ok-compare-3.ensures.rest c.in_ok-compare-4.ensures.noted c.in_ok-compare-4.ensures.rest c.in_ok-compare-5.ensures.noted
    group whole found of_whole noted
