use Rattle.std.proofs.Common.{◌≡◌, ◌∙◌, ap}
use Rattle.csv_table.specs.Forms.{number_of}
use Rattle.cwr_share.specs.ClaimsOn.{is_known}
use Rattle.cwr_share.specs.Fields.{field_of}
use Rattle.cwr_share.proofs.ClaimLemmas.{known_is}
use Rattle.cwr_share.proofs.PassedOverLemmas.{unknown_publisher, unknown_writer}
use Rattle.cwr_share.proofs.passed_over.is_of_unknown_territory.Goals.{in-PublisherShare, in-WriterShare}
use Rattle.cwr_share.proofs.passed_over.is_of_unknown_territory.Goals as goal

pub returns : goal.returns
returns c =
    let table = c.args.table.now in
    let line = c.args.line.now in
    let fields = c.match-record_type_of.fields in
    let number = c.in-Some.ensures.some.1 ∙ ap number_of c.of.ensures in
    let known : c.known.result ≡ is_known table (number_of (field_of fields.territory line)) = known_is table c.in-Some.code c.known.result c.known.ensures ∙ ap (is_known table) number in
    elim c.match-record_type_of.branch [
      | in-PublisherShare w ↦ unknown_publisher table line fields c.known.result (rw c.record_type_of.ensures at w.in-PublisherShare.is) w.fields-is known
      | in-WriterShare w ↦ unknown_writer table line fields c.known.result (rw c.record_type_of.ensures at w.in-WriterShare.is) w.fields-is known
    ]
