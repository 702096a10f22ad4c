use Rattle.std.proofs.Common.{append-nil, sym}
use Rattle.check_inputs.proofs.SubmittedReporting.{three_on}
use Rattle.check_inputs.proofs.submitted_sources.read_tables.Goals as goal

pub returns : goal.returns
returns c =
    let (of_territories, read_t, count_t, t) = c.in_ok-territories.ensures in
    let (of_payees, read_p, count_p, p) = c.in_ok-payees.ensures in
    let (of_works, read_w, count_w, w) = c.in_ok-works.ensures.read in
    let (words, numbers, sound) = three_on t p w in
    record {
      of_territories = of_territories;
      of_payees = of_payees;
      of_works = of_works;
      territories = read_t;
      payees = read_p;
      works = read_w;
      names_are = c.in_ok-works.ensures.names;
      count = count_t;
      sound_is = rw (count_p, count_w) at c.have_none.ensures;
      on = record { in_words = words; in_numbers = numbers; in_remarks = sym (append-nil c.args.pages.now.remarks.items); sound = sound };
    }
