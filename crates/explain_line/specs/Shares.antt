-- What a row says of a share line, as it is kept.
use Rattle.explain_line.specs.Explanation as rows
use Rattle.explain_line.specs.declared.rows.Shown.{Shown}

abbrev pub shown_by : Shown → rows.Shown
shown_by shown = record {
  number = shown.number;
  interest = shown.interest;
  party = shown.party.now;
  payee = shown.payee.now;
  recorded = shown.recorded;
  mark = shown.mark.now;
  territory = shown.territory;
  covers = shown.covers.now;
  decides = shown.decides.now;
}
