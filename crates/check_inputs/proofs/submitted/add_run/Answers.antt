use Rattle.std.proofs.Common.{◌∙◌, Bool, ap, subst}
use Rattle.check_inputs.specs.Found.{AreTotalsIfSound}
use Rattle.check_inputs.specs.declared.report.Sheet.{Sheet}
use Rattle.check_inputs.proofs.submitted.add_run.Goals as goal

pub returns : goal.returns
returns c =
    let (of_links, links) = c.in_ok-registry.ensures in
    let (of_usage, usage_read, told) = c.in_ok-lines.ensures in
    let (totals, are, same, wrote) = c.in_ok-totals.ensures in
    record {
      between = c.add_links_if_sound.new.pages;
      of_links = of_links;
      registered = c.in_ok-registry.registry;
      links = links;
      of_usage = of_usage;
      lines = c.in_ok-lines.lines;
      usage_read = usage_read;
      totals = totals;
      are_totals = subst (λ (sound : Bool). AreTotalsIfSound sound c.args.sources.now.tables.territories c.in_ok-registry.registry c.in_ok-lines.lines totals) told.sound are;
      on = record {
        in_words = ap (λ (sheet : Sheet). sheet.faults.items) same ∙ told.in_words;
        in_numbers = ap (λ (sheet : Sheet). sheet.facts.items) same ∙ told.in_numbers;
        in_remarks = wrote;
        sound = ap (λ (sheet : Sheet). sheet.is_sound) same ∙ told.sound;
      };
    }
