use Rattle.std.proofs.Common.{◌≡◌, ◌++◌, ◌∷◌, [], ◌∙◌, None, Option, Some, arith, sym}
use Rattle.file_sums.specs.Sums.{IsSum, Sum, line_of}
use Rattle.std.specs.Prelude.{IfNone}
use Rattle.file_sums.proofs.LineLemmas.{parts_of_sum}
use Rattle.file_sums.proofs.lines.sum_of.Goals as goal

if_none : {X : Type 0} (P : Type 0) (found : Option X) → P → IfNone found P
if_none P (Some x) p = tt
if_none P None p = p

pub returns-then-line-lt-DIGITS-clause-none : goal.returns-then-line-lt-DIGITS-clause-none
returns-then-line-lt-DIGITS-clause-none c sum is e = omega (arith, (parts_of_sum sum _ is e).0, c.if-line-lt-DIGITS.true)

pub returns-in_err-digest-clause-none : goal.returns-in_err-digest-clause-none
returns-in_err-digest-clause-none c =
    let none : (sum : Sum) → IsSum sum → ¬ (line_of sum ≡ c.args.line.now ++ 10 ∷ []) =
    λ sum is e. c.in_err-digest.ensures.none sum.digest is.size is.bytes ((parts_of_sum sum _ is e).1 ∙ sym c.split_at.ensures.front) in
    if_none _ _ none

pub returns-in_err-path-clause-none : goal.returns-in_err-path-clause-none
returns-in_err-path-clause-none c =
    let none : (sum : Sum) → IsSum sum → ¬ (line_of sum ≡ c.args.line.now ++ 10 ∷ []) =
    λ sum is e. c.in_err-path.ensures.none sum.path is.path ((parts_of_sum sum _ is e).2 ∙ sym c.split_at.ensures.back) in
    if_none _ _ none
