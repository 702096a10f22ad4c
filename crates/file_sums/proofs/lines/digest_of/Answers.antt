use Rattle.std.proofs.Common.{◌≡◌, ◌∙◌, Ok, ap, sym}
use Rattle.std.proofs.lemmas.Slice.Eq.{bytes_eq-Decides}
use Rattle.std.specs.Prelude.{is_err}
use Rattle.hex.specs.Hex.{decode_sized, encode_lower}
use Rattle.file_sums.proofs.DigitLemmas.{digits_read_back, false_not_true}
use Rattle.file_sums.proofs.lines.digest_of.Goals as goal

pub returns-then-is_err-clause-none : goal.returns-then-is_err-clause-none
returns-then-is_err-clause-none c digest size are e =
    let back : decode_sized c.args.digits.now 32 ≡ Ok digest = ap (λ t. decode_sized t 32) (sym e) ∙ digits_read_back digest size are in
    let read = rw back at c.decode_to_slice.ensures.value in
    false_not_true (sym (ap is_err read.0) ∙ sym c.is_err.ensures.value ∙ c.if-is_err.true)

pub returns-else-eq-clause-none : goal.returns-else-eq-clause-none
returns-else-eq-clause-none c digest size are e =
    let back : decode_sized c.args.digits.now 32 ≡ Ok digest = ap (λ t. decode_sized t 32) (sym e) ∙ digits_read_back digest size are in
    let read = rw back at c.decode_to_slice.ensures.value in
    let same : c.as_slice.result.now ≡ c.args.digits.now = c.as_slice.ensures ∙ c.digits_of-again.ensures.digits ∙ ap encode_lower read.1 ∙ e in
    false_not_true (sym c.if-eq.false ∙ c.eq.ensures ∙ (bytes_eq-Decides c.as_slice.result.now c.args.digits.now).1 same)
