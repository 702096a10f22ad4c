use Rattle.std.proofs.Common.{◌∙◌, ap}
use Rattle.file_form.proofs.QuoteLemmas.{mark_off}
use Rattle.file_form.proofs.quotes.behind_mark.Goals as goal

pub returns : goal.returns
returns c = ap (λ r. r.now) c.unwrap_or.ensures ∙ mark_off c.args.text c.strip_prefix.result c.strip_prefix.ensures.cases
