use Rattle.std.proofs.Common.{List, inr, subst, ℕ}
use Rattle.decimal_amounts.specs.Decimals.{IsFaultOf}
use Rattle.sales_lines.proofs.settings.Settings.counted.Goals as goal

pub returns-in-Err-clause-amount : goal.returns-in-Err-clause-amount
returns-in-Err-clause-amount c =
    let settings = c.args.self.now in
    inr (inr (c.in-Err.field-0, subst (λ (text : List ℕ). IsFaultOf settings.mark text settings.places c.in-Err.field-0) c.text.ensures c.in-Err.ensures.fault))
