use Rattle.std.proofs.Common.{◌≡◌, ◌∙◌, map, rules}
use Rattle.line_split.specs.UsageLine.{UsageLine}
use Rattle.line_split.specs.declared.reason.Reason.{Reason}
use Rattle.usage_totals.specs.Totals.{reason_of, residue_of, stays_open}
use Rattle.usage_totals.proofs.totals.totals_of.Goals as goal

pub returns : goal.returns
returns c =
    let tis = c.args.tis.now in
    let registry = c.args.registry.now in
    let given : UsageLine → Reason = reason_of tis registry in
    let is : c.as_slice-reasons.result.now ≡ map given c.args.usage.now = c.as_slice-reasons.ensures.value ∙ c.in_ok-found.ensures.reasons in
    record {
      divided = c.total_for.ensures given is;
      residue = search rules;
      unregistered = c.total_for-2.ensures given is;
      unknown = c.total_for-3.ensures given is;
      claimed_over = c.total_for-4.ensures given is;
      works = c.in_ok-greatest_for.ensures given is;
      territories = c.in_ok-greatest_for-2.ensures given is;
      over = c.in_ok-greatest_for-3.ensures given is;
      left_open = c.in_ok-greatest.ensures (stays_open tis registry) (residue_of tis registry) (c.as_slice.ensures.value ∙ c.in_ok-found.ensures.left_open);
      knows_a_territory = c.knows_a_territory.ensures;
    }
