use Rattle.std.proofs.Common.{◌≡◌, of_z, refl, rules, to_z, w64}
use Rattle.std.proofs.lemmas.Int.{to_z-of_z}
use mir.Val.{SFits}
use Rattle.line_split.specs.KeptLines.{line_with}
use Rattle.line_split.specs.UsageLine.{usage_line_of}
use Rattle.line_split.specs.declared.usage.UsageDetail.{UsageDetail}
use Rattle.line_split.proofs.KeptLemmas.{lines_push, pushed_keep}
use Rattle.line_split.proofs.usage.Usage.push.Goals as goal
use Rattle.line_split.proofs.usage.Usage.push.Goals.{In_ok-of}

-- the rest of the line, as it is kept
abbrev detail_of : In_ok-of → UsageDetail
detail_of c = record {
  work = c.in_ok-of.field-0;
  territory = c.args.line.now.territory;
  right = c.args.line.now.right;
  amount = to_z w64 (of_z w64 c.args.line.now.amount);
}

-- with what its use is called it is the line
same_line : (c : In_ok-of) → line_with c.in_ok-name.name (detail_of c) ≡ usage_line_of c.args.line.now
same_line c =
    let fits : SFits w64 c.args.line.now.amount = search rules in
    rw (c.in_ok-name.ensures, c.in_ok-of.ensures, to_z-of_z w64 c.args.line.now.amount fits) refl

pub invariant_of-self-2 : goal.invariant_of-self-2
invariant_of-self-2 c =
    let at = (goal.at.invariant_of-self-2 c).In_ok-of in
    let names = c.self.inside.names.items in
    let details = c.self.inside.details.items in
    let few = rw (← c.self.view_is) at c.requires.few in
    rw (c.push_reserved.ensures.items, c.push_reserved-2.ensures.items, c.in_ok-reserve.ensures.items, c.in_ok-reserve-2.ensures.items)
    (pushed_keep names details c.in_ok-name.name (detail_of at) (usage_line_of c.args.line.now) c.self.invariant.0 c.self.invariant.1 few c.requires.sound (same_line at))

pub returns : goal.returns
returns c =
    let at = (goal.at.returns c).In_ok-of in
    let names = c.self.inside.names.items in
    let details = c.self.inside.details.items in
    rw (c.push_reserved.ensures.items, c.push_reserved-2.ensures.items, c.in_ok-reserve.ensures.items, c.in_ok-reserve-2.ensures.items, ← c.self.view_is, ← same_line at)
    (lines_push names details c.in_ok-name.name (detail_of at) c.self.invariant.0)
