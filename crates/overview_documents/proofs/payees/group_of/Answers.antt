use Rattle.std.proofs.Common.{◌≡◌, ◌∙◌, ◌≤◌, ◌+◌, ◌+ℤ◌, ◌*◌, ◌^◌, [], ℤ, FitsSigned, ap, arith, false, get_or, length, pos, rules, sum_by, sym, take, true, unsigned_abs, w64}
use Rattle.std.proofs.lemmas.Int.{to_z-of_z}
use Rattle.line_split.proofs.IntSums.{size_plus}
use Rattle.line_split.specs.Signs.{int_sum_by}
use Rattle.overview_documents.specs.Payees as payees
use Rattle.overview_documents.specs.Payees.{line_shown, lines_shown}
use Rattle.overview_documents.specs.declared.payees.PayeeLine.{PayeeLine}
use Rattle.overview_documents.proofs.Filtered.{count_more, int_sum_more, shown_with, shown_without, sum_more}
use Rattle.overview_documents.proofs.Groups.{is_of, those_of}
use Rattle.overview_documents.proofs.Wide.{handed, narrow_small, sum_is}
use Rattle.overview_documents.proofs.payees.group_of.Goals as goal
use Rattle.overview_documents.proofs.payees.group_of.Goals.{then-payees-place, else-payees-place}

-- what the code reads past the end of a list
abbrev no_payee : PayeeLine
no_payee = record {
  number = 0;
  account = record { ref_ptr = (0, 0); now = [] };
  name = record { ref_ptr = (0, 0); now = [] };
  file = record { ref_ptr = (0, 0); now = [] };
  count = 0;
  total = pos 0;
}

pub loop-place-preserved : goal.loop-place-preserved
loop-place-preserved c =
    let list = c.args.payees.now in
    let place = c.loop-place.place in
    let group = c.loop-place.group in
    let payee = get_or list place no_payee in
    let kept = those_of c.args.is_owed (lines_shown (take place list)) in
    let next = those_of c.args.is_owed (lines_shown (take (place + 1) list)) in
    let fits : FitsSigned w64 payee.total = search rules in
    elim c.if-payees-place.branch [
      | then-payees-place w ↦
          let test : is_of c.args.is_owed (line_shown payee) ≡ true = rw (to_z-of_z w64 payee.total fits) at w.if-payees-place.true in
          let is = shown_with line_shown (is_of c.args.is_owed) list place no_payee c.loop-place-test.true test in
          let wide : w.from.result ≡ payee.total = w.from.ensures ∙ to_z-of_z w64 payee.total fits in
          let small : unsigned_abs w.from.result ≤ 2 ^ 63 = omega (arith, ap unsigned_abs wide, narrow_small payee.total fits) in
          let sum : handed (handed group.amount +ℤ handed w.from.result) ≡ group.amount +ℤ payee.total =
          sum_is group.amount w.from.result (place * 2 ^ 63) (2 ^ 63) c.loop-place.invariant.small small (omega (arith, c.requires.few, c.loop-place-test.true))
          ∙ ap (λ (z : ℤ). group.amount +ℤ z) wide in
          rw w.group-is record {
            payees = count_more kept next (line_shown payee) is group.payees c.loop-place.invariant.payees;
            few = omega (arith, c.loop-place.invariant.few);
            portions = sum_more kept next (line_shown payee) is (λ (p : payees.PayeeLine). p.count) group.portions c.loop-place.invariant.portions;
            countable = omega (arith, c.loop-place.invariant.countable, c.requires.counts place no_payee c.loop-place-test.true);
            amount = sum ∙ int_sum_more kept next (line_shown payee) is (λ (p : payees.PayeeLine). p.total) group.amount c.loop-place.invariant.amount;
            small =
                omega (
                  arith,
                  ap unsigned_abs sum,
                  size_plus group.amount payee.total (place * 2 ^ 63) (2 ^ 63) c.loop-place.invariant.small (narrow_small payee.total fits),
                );
          }
      | else-payees-place w ↦
          let test : is_of c.args.is_owed (line_shown payee) ≡ false = rw (to_z-of_z w64 payee.total fits) at w.if-payees-place.false in
          let is = shown_without line_shown (is_of c.args.is_owed) list place no_payee c.loop-place-test.true test in
          rw w.group-is record {
            payees = c.loop-place.invariant.payees ∙ ap length (sym is);
            few = omega (arith, c.loop-place.invariant.few);
            portions = c.loop-place.invariant.portions ∙ ap (sum_by (λ (p : payees.PayeeLine). p.count)) (sym is);
            countable = omega (arith, c.loop-place.invariant.countable);
            amount = c.loop-place.invariant.amount ∙ ap (int_sum_by (λ (p : payees.PayeeLine). p.total)) (sym is);
            small = omega (arith, c.loop-place.invariant.small);
          }
    ]
