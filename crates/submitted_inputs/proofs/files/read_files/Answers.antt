use Rattle.std.proofs.Common.{◌≡◌, ◌⊎◌, ◌++◌, List, Option, Result, Vec, Global, arith, drop, inl, inr, length, map, subst, take, take_at}
use Rattle.std.specs.Prelude.{IfErr, IfOk}
use Rattle.std.proofs.lemmas.Result.{IfErr-weaker, IfOk-weaker}
use Rattle.cwr_share.specs.declared.in_force.InForce.{InForce}
use Rattle.submitted_inputs.specs.Files.{AreFilesRead, IsFaultOfFiles}
use Rattle.submitted_inputs.specs.Outcomes.{IsFirstRefused, read_as}
use Rattle.submitted_inputs.specs.declared.fault.SubmittedFault.{SubmittedFault}
use Rattle.submitted_inputs.specs.declared.fault.SubmittedFault.TheVariants.{Room}
use Rattle.submitted_inputs.proofs.OutcomeLemmas.{all_read, first_refused}
use Rattle.submitted_inputs.proofs.files.read_files.Goals as goal

abbrev Outcome : Type 0
Outcome = Option (Result InForce SubmittedFault)

pub returns-clause-read : goal.returns-clause-read
returns-clause-read g c =
    let holds = g.F.SubmitterFiles.holds c.args.files.now in
    let refuses = g.F.SubmitterFiles.refuses c.args.files.now in
    let all : List Outcome = c.read_each.new.outcomes in
    let old = c.in_ok-outcomes.outcomes in
    let count : length all ≡ c.args.count = omega (arith, c.read_each.auto.outcomes, c.as_mut_slice.ensures.len, old.ok.0, c.in_ok-outcomes.ensures) in
    let whole : take old.len (all ++ drop (length all) old.items) ≡ all = take_at all (drop (length all) old.items) old.len (omega (arith, count, old.ok.0, c.in_ok-outcomes.ensures)) in
    IfOk-weaker c.in_order.result (λ (read : Vec InForce Global). all ≡ map read_as read.items) (λ (read : Vec InForce Global). AreFilesRead holds c.args.count read.items)
    (λ read is. subst (λ n. AreFilesRead holds n read.items) count (all_read holds refuses all c.read_each.ensures read.items is)) (rw whole at c.in_order.ensures.read)

pub returns-clause-fault : goal.returns-clause-fault
returns-clause-fault g c =
    let holds = g.F.SubmitterFiles.holds c.args.files.now in
    let refuses = g.F.SubmitterFiles.refuses c.args.files.now in
    let all : List Outcome = c.read_each.new.outcomes in
    let old = c.in_ok-outcomes.outcomes in
    let count : length all ≡ c.args.count = omega (arith, c.read_each.auto.outcomes, c.as_mut_slice.ensures.len, old.ok.0, c.in_ok-outcomes.ensures) in
    let whole : take old.len (all ++ drop (length all) old.items) ≡ all = take_at all (drop (length all) old.items) old.len (omega (arith, count, old.ok.0, c.in_ok-outcomes.ensures)) in
    let either : (fault : SubmittedFault) → (fault ≡ Room) ⊎ IsFirstRefused all fault → (fault ≡ Room) ⊎ IsFaultOfFiles holds refuses c.args.count fault =
    λ fault how. elim how [
      | inl room ↦ inl room
      | inr first ↦ subst (λ n. (fault ≡ Room) ⊎ IsFaultOfFiles holds refuses n fault) count (first_refused holds refuses all c.read_each.ensures fault first)
    ] in
    IfErr-weaker c.in_order.result (λ fault. (fault ≡ Room) ⊎ IsFirstRefused all fault) (λ fault. (fault ≡ Room) ⊎ IsFaultOfFiles holds refuses c.args.count fault)
    either (rw whole at c.in_order.ensures.fault)
