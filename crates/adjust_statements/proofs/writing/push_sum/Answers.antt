use mir.Syntax.{w128}
use Rattle.std.proofs.Common.{to_z, of_z, ◌≡◌, ◌∙◌, ◌≤◌, ◌^◌, ◌++◌, ◌∷◌, [], ℕ, ℤ, List, ap, arith, sym, subst, unsigned_abs}
use Rattle.std.specs.Prelude.{◌/◌, ◌%◌, replicate}
use Rattle.csv_table.specs.Written.{text_of_row}
use Rattle.line_split.specs.Signs.{with_sign_of}
use Rattle.line_split.proofs.Signs.{size_of_signed}
use Rattle.adjust_statements.specs.Differences.{row_holds, sizes_of}
use Rattle.adjust_statements.specs.SoFar.{named_row}
use Rattle.adjust_statements.proofs.EntryLemmas.{same_in_128}
use Rattle.adjust_statements.proofs.WritingLemmas.{row_pushed, sized, sizes_with, text_for}
use Rattle.adjust_statements.proofs.writing.push_sum.Goals as goal

pub returns-clause-rows : goal.returns-clause-rows
returns-clause-rows c =
    let l = c.loop-row in
    let kind = c.args.kind.now in
    let name = c.args.name.now in
    let usage = c.args.usage.now in
    let size = c.unsigned_abs-size.result in
    let kept : to_z w128 (of_z w128 c.args.sum) ≡ c.args.sum = same_in_128 c.args.sum (omega (arith, c.requires)) in
    let value : size ≡ unsigned_abs c.args.sum = c.unsigned_abs-size.ensures.value ∙ ap unsigned_abs kept in
    let full : l._row ≡ size / row_holds = omega (arith, c.loop-row-test.false, l.auto._row-end) in
    let sign : c.with_sign-2.result ≡ with_sign_of c.args.sum (size % row_holds) = c.with_sign-2.ensures ∙ ap (λ (z : ℤ). with_sign_of z (size % row_holds)) kept in
    let small : unsigned_abs c.with_sign-2.result ≤ 10 ^ 12 = omega (arith, ap unsigned_abs sign, size_of_signed c.args.sum (size % row_holds)) in
    let amount : to_z w128 (of_z w128 c.with_sign-2.result) ≡ with_sign_of c.args.sum (size % row_holds) = same_in_128 c.with_sign-2.result (omega (arith, small)) ∙ sign in
    let were : l.rows.text ≡ c.args.rows.now.text ++ text_for kind name (sized kind name usage c.args.sum (replicate l._row row_holds)) =
    subst (λ (z : ℤ). l.rows.text ≡ c.args.rows.now.text ++ text_for kind name (sized kind name usage z (replicate l._row row_holds))) kept l.invariant in
    let pushed = row_pushed kind name usage c.args.sum (replicate l._row row_holds) (size % row_holds) c.args.rows.now.text l.rows.text c.push_row-2.new.rows.text were
    (c.in_ok-push_row-2.ensures ∙ ap (λ (z : ℤ). l.rows.text ++ text_of_row (named_row kind (record { reason = name; usage = usage; amount = z }))) amount) in
    let sizes : replicate l._row row_holds ++ size % row_holds ∷ [] ≡ sizes_of (unsigned_abs c.args.sum) =
    ap (λ (n : ℕ). replicate n row_holds ++ size % row_holds ∷ []) full ∙ sym (sizes_with size c.if-left-eq0.false) ∙ ap sizes_of value in
    pushed ∙ ap (λ (all : List ℕ). c.args.rows.now.text ++ text_for kind name (sized kind name usage c.args.sum all)) sizes
