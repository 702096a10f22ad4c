use Rattle.std.proofs.Common.{ℕ, ℤ, pos, ◌≡◌, ◌∙◌, ◌<◌, ◌+◌, Option, Some, None, length, map, get_or, set, ap, sym, subst, inl, inr, arith}
use Rattle.std.specs.Prelude.{IfSome, unwrap_or}
use Rattle.std.proofs.lemmas.Bool.{cases_eq}
use Rattle.std.proofs.lemmas.List.{get_or-map, get_or-set_other, get_or-set_same}
use Rattle.std.proofs.lemmas.Option.{get_or_from_slice_get}
use Rattle.line_split.specs.UsageLine.{usage_line_of}
use Rattle.line_split.specs.declared.reason.Reason.{Reason}
use Rattle.line_split.specs.declared.reason.Reason.TheVariants.{Open}
use Rattle.settle_run.specs.Settled.{reason_of}
use Rattle.settle_run.proofs.reasons.find_from.Goals.{in-Some, in-None}
use Rattle.settle_run.proofs.reasons.find_from.Goals as goal

pub loop-place-preserved : goal.loop-place-preserved
loop-place-preserved c =
    let place : ℕ = c.loop-place.place in
    let residue = c.args.residue.now in
    let usage = c.args.usage.now in
    let part = c.loop-place.part in
    let own = reason_of c.args.tis.now c.args.registry.now in
    let owns = map own usage in
    let p : ℕ × ℤ = get_or residue (c.args.from + place) (0, pos 0) in
    let reason = c.match-claims.reason in
    let line = usage_line_of c.line-line.result in
    let many : length part ≡ length c.args.part.now = c.loop-place.auto.part in
    let low : place < length part = omega (arith, c.loop-place-test.true, many) in
    let below : p.0 < length usage = c.requires.lines (c.args.from + place) (0, pos 0) (omega (arith, c.requires.few, low, many)) in
    let is : get_or usage p.0 line ≡ line = get_or_from_slice_get usage p.0 line line c.line-line.ensures.line in
    let found : reason ≡ unwrap_or c.claims.result Open = elim c.match-claims.branch [
      | in-Some w ↦ w.reason-is ∙ sym (ap (λ r. unwrap_or r Open) w.in-Some.is)
      | in-None w ↦ w.reason-is ∙ sym (ap (λ r. unwrap_or r Open) w.in-None.is)
    ] in
    let here : reason ≡ get_or owns p.0 Open =
    found ∙ (ap (λ r. unwrap_or r Open) c.claims.ensures.reason ∙ sym (get_or-map own usage p.0 line Open below ∙ ap own is)) in
    record {
      found = λ k. elim (cases_eq k place) [
        | inl same ↦
            subst (λ (n : ℕ). IfSome (get_or (set part place (Some reason)) n None) (λ reason. reason ≡ get_or owns (get_or residue (c.args.from + n) (0, pos 0)).0 Open)) (sym same)
            (subst (λ (r : Option Reason). IfSome r (λ reason. reason ≡ get_or owns p.0 Open)) (sym (get_or-set_same part place (Some reason) None low)) here)
        | inr other ↦
            subst (λ (r : Option Reason). IfSome r (λ reason. reason ≡ get_or owns (get_or residue (c.args.from + k) (0, pos 0)).0 Open))
            (sym (get_or-set_other part place k (Some reason) None other)) (c.loop-place.invariant.found k)
      ];
      room = c.claims.ensures.room ∙ c.loop-place.invariant.room;
    }
