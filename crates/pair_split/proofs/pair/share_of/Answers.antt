use Rattle.std.proofs.Common.{◌≡◌, ap, ◌∙◌}
use Rattle.std.specs.Str.Parse.{digits_value}
use Rattle.pair_split.proofs.Words.{parses_share}
use Rattle.pair_split.proofs.pair.share_of.Goals as goal

pub unwrap-requires : goal.unwrap-requires
unwrap-requires c =
    let read = parses_share c.digits_of.result.now c.parse.result c.parse.ensures.value.0
    (rw c.digits_of.ensures c.requires.digits) (rw c.digits_of.ensures c.requires.numbered) (rw c.digits_of.ensures c.requires.few) in
    rw read

pub returns : goal.returns
returns c =
    let read = parses_share c.digits_of.result.now c.parse.result c.parse.ensures.value.0
    (rw c.digits_of.ensures c.requires.digits) (rw c.digits_of.ensures c.requires.numbered) (rw c.digits_of.ensures c.requires.few) in
    let same : c.unwrap.result ≡ digits_value 10 c.digits_of.result.now = cc (read, c.unwrap.ensures) in
    same ∙ ap (digits_value 10) c.digits_of.ensures
