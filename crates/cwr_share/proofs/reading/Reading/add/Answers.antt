use Rattle.std.proofs.Common.{arith, sym}
use Rattle.std.proofs.lemmas.Option.{IfSome_then}
use Rattle.cwr_share.specs.declared.record_type.RecordType.TheVariants.{Closing, Other}
use Rattle.cwr_share.proofs.FileLemmas.{interest_small, of_type, read_end, read_skipped}
use Rattle.cwr_share.proofs.reading.Reading.add.Goals as goal

pub begin-requires-clause-before : goal.begin-requires-clause-before
begin-requires-clause-before c = (c.requires.0, c.requires.1)

pub begin_interest-requires : goal.begin_interest-requires
begin_interest-requires c =
    IfSome_then c.args.self.now.open (interest_small c.requires.0 c.args.self.now c.requires.1) (λ registration small. omega (arith, small, c.requires.2, c.ranges.number.fits))

pub end-requires : goal.end-requires
end-requires c = (c.requires.0, c.requires.1)

pub returns-in-Interest-clause-read : goal.returns-in-Interest-clause-read
returns-in-Interest-clause-read c = λ before. c.begin_interest.ensures before c.args.line.now (sym c.in-Interest.ensures)

pub returns-in_ok-end-in-Closing-clause-read : goal.returns-in_ok-end-in-Closing-clause-read
returns-in_ok-end-in-Closing-clause-read c = λ before read.
    let line = c.args.line.now in
    let type = of_type Closing line (sym c.in-Closing.ensures) in
    let (none, forced) = c.in_ok-end-in-Closing.ensures in
    read_end before line c.end.new.self none type.opens type.ends type.share read.0 (forced before read)

pub returns-in-Other-clause-read : goal.returns-in-Other-clause-read
returns-in-Other-clause-read c = λ before. read_skipped before c.args.line.now c.args.self.now (of_type Other c.args.line.now (sym c.in-Other.ensures))
