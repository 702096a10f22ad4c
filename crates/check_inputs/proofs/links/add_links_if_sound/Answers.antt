use Rattle.std.proofs.Common.{◌∙◌, None, append-nil, refl, sym}
use Rattle.check_inputs.proofs.FilesRead.{and_true, three_more}
use Rattle.check_inputs.proofs.links.add_links_if_sound.Goals as goal

pub returns-then-not-are_sound : goal.returns-then-not-are_sound
returns-then-not-are_sound c = (
  None,
  record {
    linked = rw (sym c.are_sound.ensures ∙ c.if-not-are_sound.true) (refl, refl);
    on = record {
      in_words = sym (append-nil c.args.pages.now.sheet.faults.items);
      in_numbers = sym (append-nil c.args.pages.now.sheet.facts.items);
      in_remarks = rw (sym c.are_sound.ensures ∙ c.if-not-are_sound.true) (sym (append-nil c.args.pages.now.remarks.items));
      sound = and_true c.args.pages.now.sheet.is_sound;
    };
  },
)

pub returns : goal.returns
returns c =
    let (fault, linked, on) = c.in_ok-registry.ensures in (
      fault,
      record {
        linked = rw (sym c.are_sound.ensures ∙ c.if-not-are_sound.false) linked;
        on = record {
          in_words = rw c.as_str-path.ensures.value at on.in_words;
          in_numbers = rw c.as_str-path.ensures.value at on.in_numbers;
          in_remarks =
              rw (sym c.are_sound.ensures ∙ c.if-not-are_sound.false)
              (three_more c.args.pages.now.remarks.items c.add_links.new.pages.remarks.items c.add_unused.new.text.items c.add_rows_remark.new.text.items c.extend_from_slice.new.self.items _ _ _
              on.in_remarks (rw c.path_or_none-payees.ensures at c.in_ok-add_unused.ensures)
              (rw (c.as_str-path.ensures.value, c.as_slice-files.ensures.value) at c.in_ok-add_rows_remark.ensures)
              (rw c.as_slice.ensures.value at c.in_ok-extend_from_slice.ensures.items));
          sound = on.sound;
        };
      },
    )
