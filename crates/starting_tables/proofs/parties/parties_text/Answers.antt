use Rattle.std.proofs.Common.{◌≡◌, ◌∙◌, ap, map}
use Rattle.std.proofs.lemmas.Iterator.Consumers.{YieldsList-end, YieldsList-from_rest}
use Rattle.std.proofs.lemmas.Result.{IfOk-weaker}
use Rattle.csv_table.specs.Written.{text_of}
use Rattle.starting_tables.specs.Parties.{rows_of_parties}
use Rattle.starting_tables.proofs.PartyLemmas.{all_rows}
use Rattle.starting_tables.proofs.parties.parties_text.Goals as goal

pub returns : goal.returns
returns c = λ lines are.
    let keys = c.args.records.now.parties.keys in
    let whole : map (λ party. party.now) c.loop-party.yielded ≡ keys =
    (YieldsList-end (YieldsList-from_rest keys (c.into_iter-party-iterator.ensures.into_iter_gives ∙ c.iter-party-items.ensures.rest))
    c.loop-party.yielded c.loop-party.party-iterator c.loop-party.yielded_by c.next.result c.next.new.self c.in-None.is c.next.ensures.steps).0 in
    let rows : c.loop-party.rows.text ≡ text_of (rows_of_parties c.args.submitter.now lines) =
    c.loop-party.invariant lines are ∙ ap text_of (all_rows c.args.submitter.now lines c.args.records.now c.loop-party.yielded whole are) in
    IfOk-weaker c.into_text.result (λ text. text.items ≡ c.loop-party.rows.text) (λ text. text.items ≡ text_of (rows_of_parties c.args.submitter.now lines))
    (λ text is. is ∙ rows) c.into_text.ensures.text
