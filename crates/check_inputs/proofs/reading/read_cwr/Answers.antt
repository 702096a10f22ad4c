use Rattle.std.proofs.Common.{◌≡◌, ◌++◌, ◌∷◌, ◌∙◌, ◌⊎◌, [], inl, inr, refl}
use Rattle.cwr_share.specs.declared.cwr_fault.CwrFault.{CwrFault}
use Rattle.cwr_share.specs.declared.cwr_fault.CwrFault.TheVariants.{Accounts, Memory}
use Rattle.check_inputs.specs.Report.{cwr_line}
use Rattle.check_inputs.proofs.Telling.{told_whole}
use Rattle.check_inputs.proofs.reading.read_cwr.Goals as goal

-- what is told where there are too many payees
too_many : (fault : CwrFault) (P : Type 0) → fault ≡ Accounts → (fault ≡ Memory) ⊎ ((fault ≡ Accounts) × P) → P
too_many fault P is (inl memory) = cc
too_many fault P is (inr (same, holds)) = holds

pub returns-in-Ok : goal.returns-in-Ok
returns-in-Ok c =
    let path = c.args.path.now in
    let told = c.in_ok-told.told in
    let all = c.in_ok-told.ensures.read in (
      all.out,
      (record { kept = all.kept; end = all.end; read = all.way; file = c.in-Ok.ensures.registrations all.kept all.is_read }, c.in-Ok.ensures.sound),
      told_whole (cwr_line path) path told.text.items c.close.new.self.text.items told.count all.out all.told (rw c.in_ok-told.ensures.path at c.in_ok-close-in-Ok.ensures.text),
      c.close.ensures.count ∙ all.told.all,
    )

pub returns-in-Err-Accounts : goal.returns-in-Err-Accounts
returns-in-Err-Accounts c =
    let path = c.args.path.now in
    let now = c.cwr.new.self in
    let all = c.in_ok-told.ensures.read in
    let tells = rw c.in_ok-told.ensures.path at c.in_ok-cwr-in-Err-Accounts.ensures.told in
    let many = too_many c.in-Err-Accounts.field-0 _ c.in-Err-Accounts.field-0-is c.in-Err-Accounts.ensures.fault in (
      all.out ++ ([], Accounts) ∷ [],
      record { kept = all.kept; end = all.end; faults = all.out; read = all.way; many = many all.kept all.is_read; last = refl },
      told_whole (cwr_line path) path now.text.items c.close-in-Err-Accounts.new.self.text.items now.count (all.out ++ ([], Accounts) ∷ []) (tells all.out all.told)
          (rw (c.cwr.ensures.path, c.in_ok-told.ensures.path) at c.in_ok-close-in-Err-Accounts.ensures.text),
      c.close-in-Err-Accounts.ensures.count ∙ (tells all.out all.told).all,
    )
