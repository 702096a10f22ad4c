use Rattle.std.proofs.Common.{ℕ, ◌+◌, ◌∙◌, subst, sym}
use Rattle.cwr_share.specs.CwrFile.{IsShareRecord}
use Rattle.cwr_share.proofs.FieldLemmas.{party_fits}
use Rattle.cwr_share.proofs.OneRegistry.{share_stands}
use Rattle.cwr_share.proofs.filed.Filing.add_share.Goals as goal

pub read-requires : goal.read-requires
read-requires c = record { party = rw c.requires.fields (party_fits c.args.line.now) }

pub unreachable-requires : goal.unreachable-requires
unreachable-requires c =
    let count = c.len-earlier.ensures ∙ c.args.self.now.filed.shares.ok.0 in
    let sound : IsShareRecord c.len-earlier.result c.args.fields.now c.args.line.now =
    subst (λ (n : ℕ). IsShareRecord n c.args.fields.now c.args.line.now) (sym count) c.requires.sound in
    share_stands c.len-earlier.result c.args.fields.now c.args.line.now (c.args.self.now.number + 1) c.in_default.field-0 sound (rw c.in_default.is at c.read.ensures).fault
