use Rattle.std.proofs.Common.{◌≡◌, ◌∙◌, ◌++◌, List, append_assoc, ap, codes, refl, zero, suc, ℕ}
use Rattle.std.specs.Prelude.{decimal}
use Rattle.std.proofs.Math.Dec.{eqb-suc-zero}
use Rattle.std.proofs.lemmas.Result.{on_ok_weaker}
use Rattle.sales_import.specs.SummaryText.{without_text}
use Rattle.sales_import.proofs.telling.add_without.Goals as goal

some_without : (without : ℕ) → ¬ (without ≡ 0) → codes ", without the amounts of " ++ decimal without ≡ without_text without
some_without zero some = absurd (some refl)
some_without (suc n) some = rw (eqb-suc-zero n) refl

pub returns : goal.returns
returns c = on_ok_weaker c.add_number.result (λ is.
    is ∙ ap (λ (text : List ℕ). text ++ decimal c.args.without) c.in_ok-add.ensures
    ∙ append_assoc c.args.text.now.items (codes ", without the amounts of ") (decimal c.args.without)
    ∙ ap (λ (more : List ℕ). c.args.text.now.items ++ more) (some_without c.args.without c.if-without-eq0.false)) c.add_number.ensures
