use Rattle.std.proofs.Common.{codes, length, ◌-◌}
use Rattle.check_inputs.proofs.Telling.{five_behind}
use Rattle.check_inputs.specs.Messages.{fact_line, remark_line}
use Rattle.check_inputs.specs.Report.{if_none}
use Rattle.check_inputs.proofs.report.add_cwr_numbers.Goals as goal

pub returns : goal.returns
returns c =
    let path = c.args.path.now in
    let registered = c.args.registry.now in
    five_behind c.args.text.now.items c.add_fact.new.text.items c.add_fact-2.new.text.items c.add_fact-3.new.text.items c.add_fact_if_sound.new.text.items c.add_remark_if_none.new.text.items
    (fact_line path (codes "works with a registration in force") (length registered.works))
    (fact_line path (codes "registrations replaced by later ones") (c.args.registrations - length registered.works))
    (fact_line path (codes "parties in force") (length registered.payees))
    (if_none c.args.payee_faults (fact_line path (codes "accounts, the residue's included") (length registered.accounts)))
    (if_none c.args.registrations (remark_line path (codes "no line is an NWR or REV")))
    (rw c.works-works.ensures.works at c.in_ok-add_fact.ensures)
    (rw (c.saturating_sub.ensures, c.works-works.ensures.works) at c.in_ok-add_fact-2.ensures)
    (rw c.claimants.ensures at c.in_ok-add_fact-3.ensures)
    (rw (c.from.ensures, c.accounts.ensures.accounts) at c.in_ok-add_fact_if_sound.ensures)
    c.in_ok-add_remark_if_none.ensures
