use Rattle.check_inputs.proofs.Telling.{two_behind}
use Rattle.check_inputs.proofs.report.Sheet.usage.Goals as goal

pub returns : goal.returns
returns c =
    let (out, read, text, count) = rw (c.as_str-path.ensures.value, c.as_slice-bytes.ensures.value) at c.in_ok-told.ensures.read in
    let (told, sound) = c.in_ok-add_faults.ensures.told in
    let facts = rw (c.in_ok-add_faults.ensures.facts, count, c.as_str-path.ensures.value) at c.in_ok-add_usage_facts.ensures in
    let quote = rw (c.as_str-path.ensures.value, c.as_slice-bytes.ensures.value) at c.in_ok-add_quote_remark.ensures in (
      out,
      read,
      record {
        in_words = rw text at told;
        in_numbers = two_behind _ _ _ _ _ facts quote;
        sound = rw count at sound;
      },
    )
