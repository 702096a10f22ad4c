use Rattle.std.proofs.Common.{◌∙◌, [], Option, ap, codes}
use Rattle.std.specs.Option.{unwrap_or}
use Rattle.clap.specs.Words.{Text}
use Rattle.royalty_program.specs.StatementsCommand.{MOST_DECIMALS}
use Rattle.royalty_program.proofs.OptionLemmas.{path_if_is, path_is}
use Rattle.royalty_program.proofs.OptionalLemmas.{number_or_is, text_or_is, title_is}
use Rattle.royalty_program.proofs.statements_command.read_chosen.Goals as goal

pub returns-clause-chosen : goal.returns-clause-chosen
returns-clause-chosen c = λ app words rows.
    let m = c.args.matches.now in record {
      plan = c.read_plan_or_usual-plan.ensures app words rows;
      to = c.in_ok-to.ensures.ok ∙ path_is app m words (codes "to") c.get_str.result c.unwrap.result rows c.get_str.ensures c.unwrap.ensures;
      names = c.in_ok-names.ensures ∙ path_if_is app m words (codes "names") c.get_str-2.result rows c.get_str-2.ensures;
      title = c.in_ok-title.ensures ∙ ap (λ (o : Option Text). unwrap_or o (codes "Distribution")) c.unless_empty.ensures ∙ title_is app m words c.get_str-3.result rows c.get_str-3.ensures;
      currency = c.in_ok-currency.ensures ∙ text_or_is [] app m words (codes "currency") c.get_str-4.result rows c.get_str-4.ensures;
      decimals = c.unwrap_or-decimals.ensures
          ∙ number_or_is 2 0 MOST_DECIMALS app m words (codes "decimals") c.get_one.result rows c.requires.decimals c.get_one.ensures.none c.get_one.ensures.value;
    }
