use Rattle.check_inputs.proofs.Telling.{two_behind}
use Rattle.check_inputs.proofs.report.Sheet.works.Goals as goal

pub returns-clause-read : goal.returns-clause-read
returns-clause-read c =
    let (out, read, text, count) = rw (c.as_str-path.ensures.value, c.as_slice-bytes.ensures.value, c.none.ensures.names) at c.in_ok-told.ensures.read in
    let (told, sound) = c.in_ok-add_faults.ensures.told in
    let facts = rw (c.in_ok-add_faults.ensures.facts, count, c.len.ensures, c.as_str-path.ensures.value) at c.in_ok-add_fact_if_sound.ensures in
    let quote = rw (c.as_str-path.ensures.value, c.as_slice-bytes.ensures.value) at c.in_ok-add_quote_remark.ensures in (
      out,
      read,
      count,
      record {
        in_words = rw text at told;
        in_numbers = two_behind _ _ _ _ _ facts quote;
        sound = rw count at sound;
      },
    )
