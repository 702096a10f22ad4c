use Rattle.std.proofs.Common.{refl, ap, ◌∙◌, arith}
use Rattle.cwr_share.specs.Fields.{trimmed}
use Rattle.cwr_share.proofs.FieldLemmas.{field_fits}
use Rattle.cwr_share.proofs.share_line.ShareRecord.read.Goals as goal

pub in_place-requires : goal.in_place-requires
in_place-requires c = rw (c.trimmed.ensures, c.of-party.ensures) (omega (arith, field_fits c.args.fields.now.party c.args.line.now, c.requires))

pub returns-in_default-includes-clause-fault : goal.returns-in_default-includes-clause-fault
returns-in_default-includes-clause-fault c = (
  refl,
  omega arith,
  rw c.of-party.ensures at (c.is_filled.ensures.0 c.if-not-is_filled.false),
  c.in-Some.ensures.some.0,
  rw c.of.ensures at c.in_default-includes.ensures.none,
)

pub returns-in_default-territory-clause-fault : goal.returns-in_default-territory-clause-fault
returns-in_default-territory-clause-fault c = (
  refl,
  omega arith,
  rw c.of-party.ensures at (c.is_filled.ensures.0 c.if-not-is_filled.false),
  c.in-Some.ensures.some.0,
  rw c.of.ensures at c.in-Some-includes.ensures.some.0,
  rw c.of-2.ensures at c.in_default-territory.ensures.none,
)

pub returns-then-earlier-ge-MOST_SHARES-clause-fault : goal.returns-then-earlier-ge-MOST_SHARES-clause-fault
returns-then-earlier-ge-MOST_SHARES-clause-fault c = (
  refl,
  omega arith,
  rw c.of-party.ensures at (c.is_filled.ensures.0 c.if-not-is_filled.false),
  c.in-Some.ensures.some.0,
  rw c.of.ensures at c.in-Some-includes.ensures.some.0,
  rw c.of-2.ensures at c.in-Some-territory.ensures.some.0,
  omega arith,
)

pub returns-clause-share : goal.returns-clause-share
returns-clause-share c = (
  record {
    long = omega arith;
    party = rw c.of-party.ensures at (c.is_filled.ensures.0 c.if-not-is_filled.false);
    shares = c.in-Some.ensures.some.0;
    mark = rw c.of.ensures at c.in-Some-includes.ensures.some.0;
    land = rw c.of-2.ensures at c.in-Some-territory.ensures.some.0;
    few = omega arith;
  },
  let party = c.in_place.ensures ∙ c.trimmed.ensures ∙ ap trimmed c.of-party.ensures in
      let mark = rw c.of.ensures at c.in-Some-includes.ensures.some.1 in
      let land = rw c.of-2.ensures at c.in-Some-territory.ensures.some.1 in
      let shares = c.in-Some.ensures.some in
      cc (party, shares.1, shares.2, shares.3, mark, land),
)
