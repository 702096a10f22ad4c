use Rattle.std.proofs.Common.{Some, ap, refl, subst, ◌∙◌, arith}
use Rattle.cwr_share.specs.CwrFile.{IsOpening}
use Rattle.cwr_share.specs.Fields.{IsFilled, trimmed}
use Rattle.cwr_share.specs.declared.fields.TheConstants.{WORK}
use Rattle.cwr_share.specs.declared.reading.Open.{Open}
use Rattle.cwr_share.specs.declared.reading.Reading.{Reading}
use Rattle.cwr_share.specs.declared.record_type.RecordType.TheVariants.{Registration}
use Rattle.cwr_share.proofs.FieldLemmas.{field_fits}
use Rattle.cwr_share.proofs.FileLemmas.{of_type, read_opening, sound_opening}
use Rattle.cwr_share.proofs.reading.Reading.begin.Goals as goal

pub returns-clause-read : goal.returns-clause-read
returns-clause-read c = λ before read.
    let line = c.args.line.now in
    let ended = c.end.new.self in
    let registration : Open = record { work = c.in_place.result; shares = c.new.result; interest = 0 } in
    let new : Reading = record { in_force = ended.in_force; «open» = Some registration } in
    let opens = (of_type Registration line c.requires.opens).opens in
    let good : IsOpening line = record { long = c.if-line.false; work = subst IsFilled c.of-work.ensures (c.if-not-is_filled.ensures.0 refl) } in
    let work = c.in_place.ensures ∙ (c.trimmed.ensures ∙ ap trimmed c.of-work.ensures) in
    read_opening before line ended new registration refl refl opens (sound_opening before line opens good) work c.new.ensures.items refl
    read.0 (c.in_ok-end.ensures.1 before read)

pub in_place-requires : goal.in_place-requires
in_place-requires c = rw (c.trimmed.ensures, c.of-work.ensures) (omega (arith, field_fits WORK c.args.line.now))
