use Rattle.std.proofs.Common.{arith, below_more, get_or, inl, inr, length, None, sym, ◌<◌, ◌≡◌, ◌≤◌, ◌⊎◌, ◌∙◌}
use Rattle.std.proofs.lemmas.List.{get_or_default}
use Rattle.split_run.specs.Reading.{inboxes_by}
use Rattle.split_run.proofs.ReadingLemmas.{none_at}
use Rattle.split_run.proofs.reading.Reader.have_ended.Goals.{else-is_some-via-then-is_some+else-index-self, else-is_some-via-else-is_some}
use Rattle.split_run.proofs.reading.Reader.have_ended.Goals as goal

pub loop-account-preserved : goal.loop-account-preserved
loop-account-preserved g c =
    let self = c.args.self.now in
    let account = c.loop-account.account in
    let within : account < length self.inboxes.items = omega (arith, c.loop-account-test.true, c.len-account-end.ensures) in
    below_more (λ k. (get_or (inboxes_by g.B.Mailboxes.receiver self.inboxes.items) k None ≡ None) ⊎ (self.workers ≤ get_or self.ends.items k 0)) account c.loop-account.invariant
    (elim c.else-is_some.branch [
      | else-is_some-via-then-is_some+else-index-self w ↦
          let value = w.index-then-is_some.ensures ∙ get_or_default self.ends.items account w.index-then-is_some.result.now 0 (omega (arith, within, c.requires)) in
          inr (omega (arith, value, w.if-index-self.false))
      | else-is_some-via-else-is_some w ↦ inl (none_at g.B.Mailboxes.receiver self.inboxes.items account c.index.result.now within c.index.ensures (sym c.is_some.ensures ∙ w.if-is_some.false))
    ])
