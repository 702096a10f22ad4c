use Rattle.check_inputs.proofs.Telling.{two_behind}
use Rattle.check_inputs.proofs.report.Sheet.cwr.Goals as goal

pub returns : goal.returns
returns c =
    let (out, read, text, count) = rw (c.as_str.ensures.value, c.as_slice.ensures.value) at c.in_ok-told.ensures in
    let (told, sound) = c.in_ok-add_faults.ensures.told in
    let facts = rw (c.in_ok-add_faults.ensures.facts, count) at c.in_ok-add_cwr_facts.ensures in
    let form = rw (c.as_str-2.ensures.value, c.as_slice-2.ensures.value) at c.in_ok-add_form.ensures in (
      out,
      read,
      count,
      record {
        in_words = rw text at told;
        in_numbers = two_behind _ _ _ _ _ facts form;
        sound = rw count at sound;
      },
    )
