use Rattle.std.proofs.Common.{◌+◌, Some, refl}
use Rattle.cwr_share.specs.declared.record_type.RecordType.TheVariants.{Interest}
use Rattle.cwr_share.specs.declared.reading.Open.{Open}
use Rattle.cwr_share.proofs.FileLemmas.{of_type, open_interest, read_inside, read_outside, sound_other}
use Rattle.cwr_share.proofs.reading.Reading.begin_interest.Goals as goal

pub returns-in-Some : goal.returns-in-Some
returns-in-Some c = λ before line is.
    let old = c.args.self.now in
    let was = c.in-Some.open in
    let next : Open = record { work = was.work; shares = was.shares; interest = was.interest + 1 } in
    let type = of_type Interest line is in
    read_inside before line old record { in_force = old.in_force; «open» = Some next } was next c.in-Some.is refl refl
    (λ opening body open' with. (
      sound_other before line type.opens type.share,
      open_interest opening body line was next type.ends type.share type.interest refl refl refl with,
    ))

pub returns-in_default : goal.returns-in_default
returns-in_default c = λ before line is.
    read_outside before line c.args.self.now c.args.self.now c.in_default.is c.in_default.is refl (of_type Interest line is).opens
