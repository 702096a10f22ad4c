use Rattle.std.proofs.Common.{◌≡◌, ◌++◌, List, Ok, Option, Result, Some, Vec, Global, arith, drop, length, map, take, take_at}
use Rattle.std.proofs.lemmas.Result.{IfOk-weaker}
use Rattle.distribution_documents.specs.Runs.{run_shown}
use Rattle.distribution_documents.specs.Slots.{AreAllWritten}
use Rattle.distribution_documents.specs.declared.payee_files.PayeeFiles.{PayeeFiles}
use Rattle.page_parts.specs.Facts.{distribution_shown}
use Rattle.distribution_documents.proofs.Files.{all_written}
use Rattle.distribution_documents.proofs.writing.write_payees.Goals as goal

pub returns : goal.returns
returns g c =
    let has = g.F.Folder.has in
    let distribution = distribution_shown c.args.documents.now.distribution in
    let run = run_shown c.args.documents.now in
    let all = c.write_each.new.slots in
    let old = c.in_ok-slots.slots in
    let count : length all ≡ length c.args.payees.now = omega (arith, c.write_each.auto.slots, c.as_mut_slice.ensures.len, old.ok.0, c.in_ok-slots.ensures) in
    let whole : take old.len (all ++ drop (length all) old.items) ≡ all = take_at all (drop (length all) old.items) old.len (omega (arith, count, old.ok.0, c.in_ok-slots.ensures)) in
    IfOk-weaker c.in_order.result _ _ (λ written is. all_written has distribution run c.args.payees.now all written.items c.write_each.ensures count is)
    (rw whole at c.in_order.ensures)
