use Rattle.std.proofs.Common.{◌∙◌, List, [], ap, codes, subst, ℕ}
use Rattle.royalty_program.specs.ImportCommand.{AreWanted, delimiter_of, digit_of, import_app}
use Rattle.royalty_program.proofs.ImportLemmas.{comma_of, not_flagged, texts_are}
use Rattle.royalty_program.proofs.OptionalLemmas.{text_or_is}
use Rattle.royalty_program.proofs.import_command.read_mapping.Goals as goal

pub returns-clause-mapping : goal.returns-clause-mapping
returns-clause-mapping c = λ words rows.
    let m = c.args.matches.now in record {
      delimiter = c.delimiter_of.ensures ∙ ap delimiter_of (c.value_or.ensures words rows);
      has_header = not_flagged c.is_flagged.result _ (c.is_flagged.ensures words rows);
      wanted = subst (λ (values : List (List ℕ)). AreWanted values c.in_ok-wanted.wanted.items) (texts_are m words (codes "where") c.get_strs.result rows c.get_strs.ensures) c.in_ok-wanted.ensures;
      usage = c.in_ok-usage.ensures ∙ texts_are m words (codes "usage") c.get_strs-2.result rows c.get_strs-2.ensures;
      work = c.in_ok-work.ensures ∙ text_or_is [] import_app m words (codes "work") c.get_str.result rows c.get_str.ensures;
      territory = c.in_ok-territory.ensures ∙ text_or_is [] import_app m words (codes "territory") c.get_str-2.result rows c.get_str-2.ensures;
      right = c.in_ok-right.ensures ∙ text_or_is [] import_app m words (codes "right") c.get_str-3.result rows c.get_str-3.ensures;
      amount = c.in_ok-amount.ensures ∙ text_or_is [] import_app m words (codes "amount") c.get_str-4.result rows c.get_str-4.ensures;
      comma = comma_of c.is_flagged-2.result c.mark_of.result _ c.mark_of.ensures (c.is_flagged-2.ensures words rows);
      places = c.digit_of.ensures.number ∙ ap digit_of (c.value_or-2.ensures words rows);
    }
